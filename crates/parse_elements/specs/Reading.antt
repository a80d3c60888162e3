-- What reading an element and reading content answer, against the pieces and the tree from a place on.
use Rattle.std.specs.Prelude.{◌≡◌, List, [], ◌∷◌, true, ℕ, ◌≤◌, ◌<◌, ℤ, length, drop}
use Rattle.cdi.specs.Lists.{begins}
use Rattle.parse_laws.specs.Passing.{Passed, Fails}
use Rattle.parse_sums.specs.declared.State.{State as Summed}
use Rattle.parse_state.specs.States.{state_of, Fits}
use Rattle.parse_elements.specs.declared.Reached.{Reached}

-- the element at a place was read, and a place behind it was reached, or it is refused
pub record ElementReads (s : List ℕ) (left at b : ℕ) (st : Summed) (t t' : List ℤ) (r : Reached) : Type 0 where
  pub done : r.number ≡ 0 → Passed s left at b st t r.place r.begun (state_of r.state) t'
  pub ahead : r.number ≡ 0 → at < r.place
  pub fits : r.number ≡ 0 → Fits r.state
  pub fails : (r.number ≡ 0 → ⊥) → Fails s left at b r.number r.place

-- the content from a place on was read: inside the root up to an end tag, outside it to the text's end, behind the root
pub record ContentReads (s : List ℕ) (left at b : ℕ) (st : Summed) (t t' : List ℤ) (r : Reached) : Type 0 where
  pub done : r.number ≡ 0 → Passed s left at b st t r.place r.begun (state_of r.state) t'
  pub fits : r.number ≡ 0 → Fits r.state
  pub tag : r.number ≡ 0 → (left ≡ 24 → ⊥) → begins (60 ∷ 47 ∷ []) (drop r.place s) ≡ true
  pub over : r.number ≡ 0 → left ≡ 24 → (length s ≤ r.place) × (r.begun ≡ 0 → ⊥)
  pub fails : (r.number ≡ 0 → ⊥) → Fails s left at b r.number r.place
