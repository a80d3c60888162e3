-- By an element's number as by its name: each definition at the number of a name is the one at the name.
use mathlib.Core.Path.{◌≡◌, refl, sym, ap, ◌∙◌}
use mathlib.Core.List.{List, []}
use mathlib.Core.Bool.{Bool, true, false, ◌||◌, ◌&&◌, true≢false}
use mathlib.Core.Logic.{◌⊎◌, inl, inr, ⊎_elim}
use Prim.Native.Nat.{ℕ, ◌+◌, ◌<◌, ◌≤◌}
use native.Mathlib.Omega.{arith}
use borrow.Author.Tests.{le-leb, lt-leb, eq-eqb, ne_eqb}
use lib.Dec.{eqb}
use lib.IntN.{ℤ}
use lib.ListN.{get_or}
use Rattle.cdi.specs.Lists.{ascii, same, any, among, between}
use Rattle.cdi.specs.Pieces.{Attribute}
use Rattle.cdi.specs.Rows.{data_names}
use Rattle.cdi.specs.Planning.{variable_kind, variable_size}
use Rattle.cdi.proofs.Quiet.{same_equal, same_self}
use Rattle.scan.proofs.Tests.{lt_or_le, eq_or_ne}
use Rattle.names.specs.Names.{element_names, element_number}
use Rattle.names.proofs.Positions.{element_kth}
use Rattle.extent.specs.declared.Extent.{Extent}
use Rattle.tally_tag.specs.declared.Numbers.{Numbers}
use Rattle.tally_tag.specs.declared.Tally.{Tally}
use Rattle.tally_tag.specs.Tallying.{numbers_of, is_group, is_segment, recorded, level_in, enter_of, own_extent, leave_of, kind_of, record_of, written}
use Rattle.tally_tag.specs.Numbered.{size_by, natural_in, offset_in, numbers_by, segment_at, data_at, group_at, recorded_by, level_by, enter_by, own_by, leave_by, kind_by, address_by, width_by, copies_by, told_by, record_by, written_by}

-- ── names ──

-- A name is the one that has j names before it exactly where its number is j + 1.
pub numbered : (n : List ℕ) (j : ℕ) → j < 23 → same n (get_or element_names j []) ≡ eqb (element_number n) (j + 1)
numbered n j h = by (same n (get_or element_names j [])) refl
  where
    by : (t : Bool) → same n (get_or element_names j []) ≡ t → t ≡ eqb (element_number n) (j + 1)
    by true e = sym (eq-eqb _ _ ((element_kth n j h).1 (same_equal n _ e)))
    by false e = sym (ne_eqb _ _ (λ f. true≢false (sym (ap (λ (w : List ℕ). same w (get_or element_names j [])) ((element_kth n j h).0 f) ∙ same_self _) ∙ e)))

module _ (n : List ℕ) where
  pub segment_number : is_segment n ≡ eqb (element_number n) 4
  unfolding is_segment element_names
  segment_number = numbered n 3 (omega arith)

  pub group_number : is_group n ≡ eqb (element_number n) 5
  unfolding is_group element_names
  group_number = numbered n 4 (omega arith)

  int_number : same n (ascii "int") ≡ eqb (element_number n) 6
  unfolding element_names
  int_number = numbered n 5 (omega arith)

  string_number : same n (ascii "string") ≡ eqb (element_number n) 7
  unfolding element_names
  string_number = numbered n 6 (omega arith)

  eventid_number : same n (ascii "eventid") ≡ eqb (element_number n) 8
  unfolding element_names
  eventid_number = numbered n 7 (omega arith)

  float_number : same n (ascii "float") ≡ eqb (element_number n) 9
  unfolding element_names
  float_number = numbered n 8 (omega arith)

-- a number of five in a row
module _ (e : ℕ) where
  abbrev listed : Bool
  listed = eqb e 5 || (eqb e 6 || (eqb e 7 || (eqb e 8 || (eqb e 9 || false))))

  outside : (e < 5) ⊎ (9 < e) → listed ≡ false
  outside h =
      rw (ne_eqb e 5 (no 5 (omega arith) (omega arith)), ne_eqb e 6 (no 6 (omega arith) (omega arith)), ne_eqb e 7 (no 7 (omega arith) (omega arith)), ne_eqb e 8 (no 8 (omega arith) (omega arith)), ne_eqb e 9 (no 9 (omega arith) (omega arith)))
    where
      no : (k : ℕ) → 5 ≤ k → k ≤ 9 → e ≡ k → ⊥
      no k l m q = ⊎_elim (λ (x : e < 5). omega arith) (λ (x : 9 < e). omega arith) h

  last : 9 ≤ e → e ≤ 9 → listed ≡ true
  last l m = rw (ne_eqb e 5 (omega arith), ne_eqb e 6 (omega arith), ne_eqb e 7 (omega arith), ne_eqb e 8 (omega arith), eq-eqb e 9 (omega arith))

  within_five : 5 ≤ e → e ≤ 9 → listed ≡ true
  within_five l m = by (eq_or_ne e 5) (eq_or_ne e 6) (eq_or_ne e 7) (eq_or_ne e 8)
    where
      by : (e ≡ 5) ⊎ (e ≡ 5 → ⊥) → (e ≡ 6) ⊎ (e ≡ 6 → ⊥) → (e ≡ 7) ⊎ (e ≡ 7 → ⊥) → (e ≡ 8) ⊎ (e ≡ 8 → ⊥) → listed ≡ true
      by a b c d =
          ⊎_elim (λ q. rw q) (λ a. ⊎_elim (λ q. rw q) (λ b. ⊎_elim (λ q. rw q) (λ c. ⊎_elim (λ q. rw q) (λ d. last (omega arith) m) d) c) b) a

  listed_between : listed ≡ between 5 9 e
  unfolding between
  listed_between = ⊎_elim
      (λ l. outside (inl l) ∙ sym (rw (lt-leb 5 e l)))
      (λ l. ⊎_elim
      (λ m. outside (inr m) ∙ sym (rw (le-leb 5 e l, lt-leb e 9 m)))
      (λ m. within_five l m ∙ sym (rw (le-leb 5 e l, le-leb e 9 m)))
      (lt_or_le 9 e))
      (lt_or_le e 5)

module _ (n : List ℕ) where
  pub data_number : among n data_names ≡ between 5 9 (element_number n)
  unfolding among any data_names
  data_number = rw (group_is, int_number n, string_number n, eventid_number n, float_number n) (listed_between (element_number n))
    where
      group_is : same n (ascii "group") ≡ eqb (element_number n) 5
      group_is = unfold is_group in group_number n

  -- ── the definitions ──

  pub numbers_named : (s : List Attribute) → numbers_by (element_number n) s ≡ numbers_of n s
  unfolding numbers_by numbers_of size_by natural_in offset_in variable_size
  numbers_named s = rw (eventid_number n)

  segment_at_law : (d : ℕ) → (eqb d 1 && is_segment n) ≡ segment_at d (element_number n)
  unfolding segment_at
  segment_at_law d = rw (segment_number n)

  data_at_law : (d : ℕ) → (eqb d 2 && among n data_names) ≡ data_at d (element_number n)
  unfolding data_at
  data_at_law d = rw data_number

  group_at_law : (d : ℕ) → (eqb d 2 && is_group n) ≡ group_at d (element_number n)
  unfolding group_at
  group_at_law d = rw (group_number n)

  pub recorded_named : (d : ℕ) → recorded_by d (element_number n) ≡ recorded d n
  unfolding recorded_by recorded
  recorded_named d = rw (segment_at_law d, data_at_law d)

  pub level_named : (d : ℕ) → level_by d (element_number n) ≡ level_in d n
  unfolding level_by level_in
  level_named d = rw (segment_at_law d, group_at_law d)

  pub enter_named : (g : Tally) → enter_by g (element_number n) ≡ enter_of g n
  unfolding enter_by enter_of
  enter_named g = rw (level_named g.level, recorded_named g.level)

  pub own_named : (m : Numbers) (inside : Extent) → own_by (element_number n) m inside ≡ own_extent n m inside
  unfolding own_by own_extent
  own_named m inside = rw (group_number n)

  pub kind_named : (d : ℕ) → kind_by d (element_number n) ≡ kind_of d n
  unfolding kind_by kind_of variable_kind
  kind_named d = rw (group_number n, int_number n, string_number n, eventid_number n)

  module _ (g : Tally) (p : ℕ) (s : List Attribute) (i : Tally) where
    pub leave_named : leave_by g p (element_number n) (numbers_by (element_number n) s) i ≡ leave_of g p n s i
    unfolding leave_by leave_of
    leave_named = rw (numbers_named s, segment_at_law g.level, data_at_law g.level, own_named (numbers_of n s) i.extent)

    pub record_named : record_by g p (element_number n) (numbers_by (element_number n) s) i ≡ record_of g p n s i
    unfolding record_by record_of address_by width_by copies_by told_by
    record_named = rw (numbers_named s, kind_named g.level, group_at_law g.level, own_named (numbers_of n s) i.extent, group_number n)

    pub written_named : (t : List ℤ) → written_by g p (element_number n) (numbers_by (element_number n) s) i t ≡ written g p n s i t
    unfolding written_by written
    written_named t = rw (recorded_named g.level, record_named)
