-- Filling a slice one variable after another, and the words of the code that does it.
use Rattle.std.specs.Prelude.{◌≡◌, List, [], ◌∷◌, map, true, cond, ℕ, ◌+◌, ◌*◌, ◌-◌, ◌≤◌, ltb, ℤ, pos}
use Rattle.std.proofs.lemmas.List.Edits.{sets}
use Rattle.cdi.specs.Walk.{Items, Found, found, Step, steps, copies, variables}
use Rattle.cdi.specs.Plans.{next_of, item_of, items_in}
use Rattle.extent.specs.Reach.{repeat, fits_at}
use Rattle.locate_plan.specs.Judging.{good_in, items_extent}
use Rattle.listing_fill.specs.Batch.{numbers_of}

abbrev pub found_at : ℕ → ℕ → ℕ → ℕ → ℕ → Found
found_at i space address size kind = record { number = i; space = space; address = address; size = size; kind = kind }

-- the slice with a variable stored as number k of the batch
unfoldable pub put : List ℕ → ℕ → Found → List ℕ
put out k f = sets out (k * 5) (numbers_of (f ∷ []))

-- how many variables are still to be skipped, how many the batch has, and the slice
pub record Filling : Type 0 where
  pub skip : ℕ
  pub filled : ℕ
  pub out : List ℕ

abbrev pub filling : ℕ → ℕ → List ℕ → Filling
filling s k o = record { skip = s; filled = k; out = o }

-- one variable more: skipped, stored, or left out where the batch is full
unfoldable pub one : ℕ → Filling → Found → Filling
one room st f =
    cond (ltb 0 st.skip) (filling (st.skip - 1) st.filled st.out)
    (cond (ltb st.filled room) (filling 0 (st.filled + 1) (put st.out st.filled f)) st)

unfoldable pub fill : ℕ → Filling → List Found → Filling
fill room st [] = st
fill room st (f ∷ fs) = fill room (one room st f) fs

-- the variables met from an address on
unfoldable pub met : ℕ → ℤ → List Step → List Found
met space a s = map (found space) (variables a s)

-- in copies of the records from i to before e
unfoldable pub copies_met : List ℤ → ℕ → ℕ → ℕ → ℕ → ℕ → List Found
copies_met t space i e a r = met space (pos a) (copies r (steps i (items_in t i e)))

-- in the element of record i
unfoldable pub element_met : List ℤ → ℕ → ℕ → ℕ → List Found
element_met t space i a = met space (pos a) (steps i (item_of t i (items_in t (i + 1) (next_of t i)) Items.no_items))

-- good records, of which r copies keep the limits from address a on
pub record Copying (t : List ℤ) (i e a r : ℕ) : Type 0 where
  pub some : 1 ≤ r
  pub depth : ℕ
  pub good : good_in t depth i e ≡ true
  pub keeps : fits_at a (repeat r (items_extent t i e)) ≡ true
