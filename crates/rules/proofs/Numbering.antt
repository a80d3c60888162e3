-- Elements by number: a name is told by its number, and a child's entry in a row by the child's number.
use mathlib.Core.Path.{◌≡◌, refl, sym, ap, ◌∙◌}
use mathlib.Core.Logic.{◌↔◌, ⊎_elim}
use mathlib.Core.List.{List, []}
use mathlib.Core.Bool.{Bool, true, false, cond, not, ◌&&◌, ◌||◌}
use mathlib.Core.Option.{Option, none, some}
use Prim.Native.Nat.{ℕ, ◌+◌, ◌-◌, ◌<◌, ◌≤◌}
use native.Mathlib.Omega.{arith}
use borrow.Author.Tests.{eqb-false, le-leb, lt-leb, eq-eqb, ne_eqb}
use lib.Dec.{eqb, leb}
use lib.ListN.{get_or}
use Rattle.cdi.specs.Lists.{ascii, given, any, same, among, lists_page}
use Rattle.cdi.specs.Rows.{rows_page}
use Rattle.cdi.specs.Rules.{entry_from, entry_of, number_names, is_int, rules_page}
use Rattle.cdi.proofs.Quiet.{impossible, same_equal, same_self}
use Rattle.scan.proofs.Tests.{lt_or_le, eq_or_ne}
use Rattle.names.specs.Names.{element_names, element_number}
use Rattle.names.proofs.Positions.{element_kth, element_high}
use Rattle.rules_judge.specs.Judging.{row_at, judging_page}
use Rattle.rules_judge.specs.Tables.{entry_at, many_at, tables_page}
use Rattle.rules_judge.specs.Parts.{is_numeric}
use Rattle.rules_judge.proofs.Below.{below, all_below, alike, alike_equal}
use Rattle.rules.proofs.Named.{has_number, counted}
use Rattle.rules_judge.proofs.Tabled.{no_children}

-- ── a name by its number ──

-- where a name has the number k exactly if it is w, it is told by its number
pub by_kth : (f : List ℕ → ℕ) (n w : List ℕ) (k : ℕ) → (f n ≡ k) ↔ (n ≡ w) → same n w ≡ eqb (f n) k
by_kth f n w k h = ⊎_elim yes_it no_it (eq_or_ne (f n) k)
  where
    yes_it : f n ≡ k → same n w ≡ eqb (f n) k
    yes_it e = ap (same n) (sym (h.0 e)) ∙ same_self n ∙ sym (eq-eqb _ _ e)

    no_it : (f n ≡ k → ⊥) → same n w ≡ eqb (f n) k
    no_it e = by (same n w) refl ∙ sym (ne_eqb _ _ e)
      where
        by : (t : Bool) → same n w ≡ t → t ≡ false
        by true q = absurd (e (h.1 (same_equal n w q)))
        by false q = refl

told : (n : List ℕ) (j : ℕ) → j < 23 → same n (get_or element_names j []) ≡ eqb (element_number n) (j + 1)
told n j h = by_kth element_number n _ (j + 1) (element_kth n j h)

module _ (n : List ℕ) where
  pub is_int_law : is_int n ≡ eqb (element_number n) 6
  unfolding is_int element_names
  is_int_law = told n 5 (omega arith)

  pub is_relation : same n (ascii "relation") ≡ eqb (element_number n) 11
  unfolding element_names
  is_relation = told n 10 (omega arith)

  pub is_min : same n (ascii "min") ≡ eqb (element_number n) 19
  unfolding element_names
  is_min = told n 18 (omega arith)

  pub is_max : same n (ascii "max") ≡ eqb (element_number n) 20
  unfolding element_names
  is_max = told n 19 (omega arith)

  is_default : same n (ascii "default") ≡ eqb (element_number n) 21
  unfolding element_names
  is_default = told n 20 (omega arith)

  is_property : same n (ascii "property") ≡ eqb (element_number n) 22
  unfolding element_names
  is_property = told n 21 (omega arith)

  pub is_numeric_law : among n number_names ≡ is_numeric (element_number n)
  unfolding among any number_names is_numeric
  is_numeric_law = rw (is_min, is_max, is_default, is_property) (by (element_number n))
    where
      low : (m : ℕ) → 19 ≤ m → m ≤ 22 → (leb 19 m && leb m 22) ≡ true
      low m h k = rw (le-leb 19 m h, le-leb m 22 k)

      by : (m : ℕ) → (eqb m 19 || (eqb m 20 || (eqb m 21 || (eqb m 22 || false)))) ≡ (leb 19 m && leb m 22)
      by m = ⊎_elim (λ h. rw (ne_eqb m 19 (λ z. omega arith), ne_eqb m 20 (λ z. omega arith), ne_eqb m 21 (λ z. omega arith), ne_eqb m 22 (λ z. omega arith), lt-leb 19 m h))
          (λ h. ⊎_elim (λ k. rw (ne_eqb m 19 (λ z. omega arith), ne_eqb m 20 (λ z. omega arith), ne_eqb m 21 (λ z. omega arith), ne_eqb m 22 (λ z. omega arith), lt-leb m 22 k, le-leb 19 m h))
          (λ k. in_it h k) (lt_or_le 22 m)) (lt_or_le m 19)
        where
          in_it : 19 ≤ m → m ≤ 22 → (eqb m 19 || (eqb m 20 || (eqb m 21 || (eqb m 22 || false)))) ≡ (leb 19 m && leb m 22)
          in_it h k = ⊎_elim (λ e. rw (eq-eqb m 19 e, low m h k))
              (λ a. ⊎_elim (λ e. rw (ne_eqb m 19 a, eq-eqb m 20 e, low m h k))
              (λ b. ⊎_elim (λ e. rw (ne_eqb m 19 a, ne_eqb m 20 b, eq-eqb m 21 e, low m h k))
              (λ c. rw (ne_eqb m 19 a, ne_eqb m 20 b, ne_eqb m 21 c, eq-eqb m 22 (omega arith), low m h k))
              (eq_or_ne m 21)) (eq_or_ne m 20)) (eq_or_ne m 19)

pub number_below : (n : List ℕ) {c : ℕ} → c ≡ element_number n → c < 24
number_below n e = omega (arith, e, element_high n)

name_back : (n : List ℕ) → (element_number n ≡ 0 → ⊥) → get_or element_names (element_number n - 1) [] ≡ n
name_back n z = sym ((element_kth n (element_number n - 1) (omega (arith, element_high n))).0 there)
  where
    there : element_number n ≡ element_number n - 1 + 1
    there = omega (arith, z)

-- ── a child's entry ──

-- more than one child may stand exactly at the row's own entry for it
is_many : ℕ → ℕ → Bool
is_many r c = given (entry_of (row_at r) (get_or element_names (c - 1) [])) true (λ e. alike e.1 (eqb e.0 (many_at r)))

are_many : ℕ → Bool
are_many r = all_below 24 (is_many r)

every_many : all_below 12 are_many ≡ true
unfolding all_below are_many is_many alike lists_page rows_page rules_page judging_page tables_page
every_many = refl

module _ (r : ℕ) (n : List ℕ) where
  nothing_known : 12 ≤ r → entry_of (row_at r) n ≡ none
  unfolding entry_of entry_from
  nothing_known h = rw (no_children r h)

  module _ (e : ℕ × Bool) (q : entry_of (row_at r) n ≡ some e) where
    numbered : element_number n ≡ 0 → ⊥
    numbered = eqb-false _ _ (has_number r n e q)

    many_there : e.1 ≡ eqb e.0 (many_at r)
    unfolding are_many is_many
    many_there = ⊎_elim near (λ h. impossible (none_there h)) (lt_or_le r 12)
      where
        none_there : 12 ≤ r → ◌≡◌ {A = ℕ} 0 1
        none_there h = let z = nothing_known h in cc

        near : r < 12 → e.1 ≡ eqb e.0 (many_at r)
        near h =
            let t = below 24 (is_many r) (below 12 are_many every_many r h) (element_number n) (omega (arith, element_high n)) in
            alike_equal _ _ (rw (name_back n numbered, q) at t)

  entry_at_law : entry_at r (element_number n) ≡ given (entry_of (row_at r) n) 0 (λ e. e.0)
  unfolding entry_at
  entry_at_law = ⊎_elim zero_there (λ z. rw (ne_eqb _ _ z, name_back n z)) (eq_or_ne (element_number n) 0)
    where
      zero_there : element_number n ≡ 0 → cond (eqb (element_number n) 0) 0 (given (entry_of (row_at r) (get_or element_names (element_number n - 1) [])) 0 (λ e. e.0)) ≡ given (entry_of (row_at r) n) 0 (λ e. e.0)
      zero_there z = rw (eq-eqb _ _ z) (by (entry_of (row_at r) n) refl)
        where
          by : (o : Option (ℕ × Bool)) → entry_of (row_at r) n ≡ o → 0 ≡ given o 0 (λ e. e.0)
          by none q = refl
          by (some e) q = absurd (numbered e q z)

  -- the entry by its number, and whether more than one may stand there
  pub entry_known : entry_of (row_at r) n ≡ cond (eqb (entry_at r (element_number n)) 0) none (some (entry_at r (element_number n), eqb (entry_at r (element_number n)) (many_at r)))
  entry_known = rw entry_at_law (by (entry_of (row_at r) n) refl)
    where
      by : (o : Option (ℕ × Bool)) → entry_of (row_at r) n ≡ o
          → o ≡ cond (eqb (given o 0 (λ e. e.0)) 0) none (some (given o 0 (λ e. e.0), eqb (given o 0 (λ e. e.0)) (many_at r)))
      by none q = refl
      by (some e) q = rw (ne_eqb e.0 0 (λ z. omega (arith, counted (row_at r) n e q)), ← many_there e q)
