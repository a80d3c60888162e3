-- The numbers of a tag: by the codes and the amounts of its attributes they are those that the tally speaks of, and they lie in their ranges.
use mathlib.Core.Path.{◌≡◌, refl, sym, ◌∙◌}
use mathlib.Core.List.{List, []}
use mathlib.Core.Bool.{Bool, true, false, cond, ◌&&◌}
use mathlib.Core.Option.{Option, none, some}
use mathlib.Core.Logic.{⊎_elim}
use Prim.Native.Nat.{ℕ, zero, suc, ◌-◌, ◌^◌, ◌≤◌}
use native.Mathlib.Omega.{arith}
use borrow.Author.Rules.{rules}
use borrow.Author.Tests.{le-ltb, lt-leb, eq-eqb, ne_eqb, eqb-false}
use lib.Dec.{eqb, leb}
use lib.IntN.{ℤ, pos, negsuc, neg_ℤ, nat_abs, ◌-ℤ◌}
use lib.ListN.{get_or}
use lib.Signed.{lt_z}
use mir.Syntax.{w64}
use mir.Val.{SFits, to_z}
use mir.ValLaws.{to_z_pos}
use Rattle.cdi.specs.Lists.{ascii, ◌>>=◌, given, between, lists_page}
use Rattle.cdi.specs.Pieces.{Attribute}
use Rattle.cdi.specs.Numbers.{number, within}
use Rattle.cdi.specs.Rows.{rows_page}
use Rattle.cdi.specs.Rules.{attribute_value, natural}
use Rattle.cdi.specs.Plans.{offset_fits}
use Rattle.cdi.specs.Planning.{number_or, offset_of}
use Rattle.cdi.specs.Values.{with_sign}
use Rattle.scan.proofs.Tests.{eq_or_ne}
use Rattle.rules_judge.specs.Tables.{tables_page}
use Rattle.tags_values.specs.Codes.{range_code, range_amount, code_in, amount_in, Celled, codes_page}
use Rattle.tags_values.proofs.Numbered.{numbered_named}
use Rattle.extent.proofs.Signed.{read, read_is}
use Rattle.tally_tag.specs.declared.Numbers.{Numbers}
use Rattle.tally_tag.specs.Tallying.{from_to}
use Rattle.tally_tag.specs.Numbered.{Ranged, natural_in, offset_in, size_by, numbers_by}
use Rattle.tally_tag.proofs.Attributes.{numbers_ranged, size_eventid, size_other, bare_are, bare_eventid, bare_other, minus_fits, minus_is, plain_is}
use Rattle.tags_numbers.specs.declared.Given.{Given}
use Rattle.tags_numbers.specs.Given.{offset_by, given_in, given_by, Cells, Bounded}

abbrev three : ℤ → ℕ → ℕ → Given
three a w c = record { address = a; width = w; copies = c }

-- ── an amount ──

same_ends : (t : Bool) (n : ℕ) → n ≡ cond t n n
same_ends true n = refl
same_ends false n = refl

module _ (lo hi : ℕ) where
  in_range : (z : ℤ) → cond (within (pos lo) (pos hi) z) (nat_abs z) lo ≡ from_to lo hi lo (natural z)
  unfolding within from_to between natural
  in_range (pos k) = refl
  in_range (negsuc k) = by lo
    where
      by : (n : ℕ) → n ≡ cond (leb n 0 && leb 0 hi) 0 n
      by zero = same_ends (leb 0 0 && leb 0 hi) 0
      by (suc n) = rw (lt-leb (suc n) 0 (omega arith))

  -- an amount by its attribute's value is the number that the tally speaks of
  amount_natural : (o : Option (List ℕ)) → given o lo (λ v. range_amount lo (pos lo) (pos hi) (number v)) ≡ from_to lo hi lo (natural (given (o >>= number) (pos lo) (λ y. y)))
  unfolding range_amount from_to natural
  amount_natural none = same_ends (between lo hi lo) lo
  amount_natural (some v) = by (number v)
    where
      by : (o : Option ℤ) → range_amount lo (pos lo) (pos hi) o ≡ cond (between lo hi (natural (given o (pos lo) (λ y. y)))) (natural (given o (pos lo) (λ y. y))) lo
      by none = same_ends (between lo hi lo) lo
      by (some z) = in_range z

-- an offset's sign is in its code
signed_is : (z : ℤ) (t : Bool) → offset_by (cond t (cond (lt_z z (pos 0)) 2 1) 10) (cond t (nat_abs z) 0) ≡ cond t z (pos 0)
unfolding offset_by
signed_is z false = refl
signed_is (pos k) true = rw (le-ltb k 0 (omega arith))
signed_is (negsuc k) true = refl

module _ (s : List Attribute) where
  pub space_in : amount_in 5 s ≡ natural_in 0 255 (ascii "space") s
  unfolding lists_page tables_page codes_page natural_in number_or
  space_in = rw (numbered_named 5 s (omega arith) (omega arith)) (amount_natural 0 255 (attribute_value (ascii "space") s))

  pub origin_in : amount_in 6 s ≡ natural_in 0 2147483647 (ascii "origin") s
  unfolding lists_page tables_page codes_page natural_in number_or
  origin_in = rw (numbered_named 6 s (omega arith) (omega arith)) (amount_natural 0 2147483647 (attribute_value (ascii "origin") s))

  pub copies_in : amount_in 7 s ≡ natural_in 1 2147483647 (ascii "replication") s
  unfolding lists_page tables_page codes_page natural_in number_or
  copies_in = rw (numbered_named 7 s (omega arith) (omega arith)) (amount_natural 1 2147483647 (attribute_value (ascii "replication") s))

  pub size_in : amount_in 9 s ≡ natural_in 1 65535 (ascii "size") s
  unfolding lists_page tables_page codes_page natural_in number_or
  size_in = rw (numbered_named 9 s (omega arith) (omega arith)) (amount_natural 1 65535 (attribute_value (ascii "size") s))

  pub offset_in_law : offset_by (code_in 8 s) (amount_in 8 s) ≡ offset_in s
  unfolding lists_page tables_page rows_page codes_page offset_in offset_of number_or offset_fits
  offset_in_law = rw (numbered_named 8 s (omega arith) (omega arith)) (by (attribute_value (ascii "offset") s))
    where
      lo : ℤ
      lo = neg_ℤ (pos 2147483648)

      hi : ℤ
      hi = pos 2147483647

      told : (o : Option ℤ) → offset_by (range_code lo hi o) (range_amount 0 lo hi o) ≡ cond (within lo hi (given o (pos 0) (λ y. y))) (given o (pos 0) (λ y. y)) (pos 0)
      told none = unfold range_code range_amount offset_by within in refl
      told (some z) = unfold range_code range_amount in signed_is z (within lo hi z)

      by : (o : Option (List ℕ)) → offset_by (given o 0 (λ v. range_code lo hi (number v))) (given o 0 (λ v. range_amount 0 lo hi (number v))) ≡ cond (within lo hi (given (o >>= number) (pos 0) (λ y. y))) (given (o >>= number) (pos 0) (λ y. y)) (pos 0)
      by none = unfold offset_by within in refl
      by (some v) = told (number v)

-- ── ranges ──

none_falls : (n : ℕ) → natural (neg_ℤ (pos n)) ≤ 2147483648
unfolding natural
none_falls zero = omega arith
none_falls (suc n) = omega arith

all_falls : (n : ℕ) → n ≤ 2147483648 → natural (neg_ℤ (neg_ℤ (pos n))) ≤ 2147483648
unfolding natural
all_falls zero h = omega arith
all_falls (suc n) h = h

none_rises : (n : ℕ) → natural (neg_ℤ (pos n)) ≤ 2147483647
unfolding natural
none_rises zero = omega arith
none_rises (suc n) = omega arith

at_least : (n : ℕ) → natural (neg_ℤ (neg_ℤ (pos n))) ≤ 2 ^ 31 → n ≤ 2147483648
unfolding natural
at_least zero h = omega arith
at_least (suc n) h = omega (arith, h)

at_most : (n : ℕ) → natural (pos n) ≤ 2 ^ 31 - 1 → n ≤ 2147483647
unfolding natural
at_most n h = omega (arith, h)

-- an offset in its range, by its code and its amount
small_offset : (c n : ℕ) (z : ℤ) → offset_by c n ≡ z → natural z ≤ 2 ^ 31 - 1 → natural (neg_ℤ z) ≤ 2 ^ 31 → (n ≤ 2147483648) × ((c ≡ 2 → ⊥) → n ≤ 2147483647)
unfolding offset_by
small_offset c n z e r f = ⊎_elim
    (λ (x : c ≡ 2). let q : neg_ℤ (pos n) ≡ z = sym (rw (eq-eqb c 2 x)) ∙ e in (at_least n (rw (sym q) at f), λ y. absurd (y x)))
    (λ (x : c ≡ 2 → ⊥). let q : pos n ≡ z = sym (rw (ne_eqb c 2 x)) ∙ e in (omega (arith, at_most n (rw (sym q) at r)), λ y. at_most n (rw (sym q) at r)))
    (eq_or_ne c 2)

module _ {codes amounts : List ℕ} (s : List Attribute) (h : Celled codes amounts s) where
  cell : (a : ℕ) {n : ℕ} → 1 ≤ a → a ≤ 10 → amount_in a s ≡ n → get_or amounts a 0 ≡ n
  cell a l k e = h.amount a l k ∙ e

  offset_cell : offset_by (get_or codes 8 0) (get_or amounts 8 0) ≡ offset_in s
  offset_cell = rw (h.code 8 (omega arith) (omega arith), h.amount 8 (omega arith) (omega arith)) (offset_in_law s)

  space_cell : get_or amounts 5 0 ≡ natural_in 0 255 (ascii "space") s
  space_cell = cell 5 (omega arith) (omega arith) (space_in s)

  origin_cell : get_or amounts 6 0 ≡ natural_in 0 2147483647 (ascii "origin") s
  origin_cell = cell 6 (omega arith) (omega arith) (origin_in s)

  copies_cell : get_or amounts 7 0 ≡ natural_in 1 2147483647 (ascii "replication") s
  copies_cell = cell 7 (omega arith) (omega arith) (copies_in s)

  size_cell : get_or amounts 9 0 ≡ natural_in 1 65535 (ascii "size") s
  size_cell = cell 9 (omega arith) (omega arith) (size_in s)

  -- The amounts of any tag lie in their ranges.
  pub cells_held : Cells codes amounts
  unfolding numbers_by
  cells_held =
      let r = numbers_ranged 0 s in
      let o = small_offset _ _ (offset_in s) offset_cell r.rises r.falls in
      record {
        space = rw space_cell r.space;
        origin = rw origin_cell r.origin;
        least_copies = rw copies_cell r.least_copies;
        most_copies = rw copies_cell r.most_copies;
        falls = o.0;
        rises = o.1;
        size = rw (size_cell ∙ size_other 0 s (λ e. omega arith) refl) r.most_size;
      }

  -- The numbers by the cells are those of the tag.
  pub given_held : (e : ℕ) → given_in e codes amounts ≡ given_by e (numbers_by e s)
  unfolding given_in given_by numbers_by
  given_held e = rw (offset_cell, space_cell, origin_cell, copies_cell, size_is)
    where
      size_is : cond (eqb e 8) 8 (get_or amounts 9 0) ≡ size_by e s
      size_is = ⊎_elim
          (λ (x : e ≡ 8). rw (eq-eqb e 8 x) (size_eventid e s x))
          (λ (x : e ≡ 8 → ⊥). rw (ne_eqb e 8 x) (size_other e s x size_cell))
          (eq_or_ne e 8)

-- The numbers of any tag lie in their ranges.
pub given_bounded : (e : ℕ) (m : Numbers) → Ranged m → Bounded e (given_by e m)
unfolding given_by
given_bounded e m h = by (eqb e 4) refl
  where
    by : (t : Bool) → eqb e 4 ≡ t → Bounded e (three (cond t (pos m.origin) m.offset) (cond t m.space m.size) m.replication)
    by true q = record {
      rises = unfold natural in omega (arith, h.origin);
      falls = none_falls m.origin;
      above = λ x. unfold natural in refl;
      width = omega (arith, h.space);
      least_copies = h.least_copies;
      most_copies = h.most_copies;
    }
    by false q = record {
      rises = omega (arith, h.rises);
      falls = omega (arith, h.falls);
      above = λ x. absurd (eqb-false e 4 q x);
      width = h.most_size;
      least_copies = h.least_copies;
      most_copies = h.most_copies;
    }

-- ── as the code does it ──

module _ (c n : ℕ) (h : n ≤ 2147483648) where
  pub offset_below : c ≡ 2 → read (pos 0 -ℤ to_z w64 n) ≡ offset_by c n
  unfolding offset_by with_sign
  offset_below e = minus_is n h {b = true} refl ∙ sym (rw (eq-eqb c 2 e))

  pub offset_above : (c ≡ 2 → ⊥) → to_z w64 n ≡ offset_by c n
  unfolding offset_by with_sign
  offset_above e = plain_is n h {b = false} refl ∙ sym (rw (ne_eqb c 2 e))

pub ruleset offsets = (minus_fits, offset_below, offset_above, rules)

module _ (e : ℕ) (codes amounts : List ℕ) (h : Cells codes amounts) where
  -- The numbers by cells in their ranges lie in theirs.
  pub cells_bounded : Bounded e (given_in e codes amounts)
  unfolding given_in
  cells_bounded = by (eqb e 4) refl
    where
      width : cond (eqb e 8) 8 (get_or amounts 9 0) ≤ 65535
      width = ⊎_elim (λ (x : e ≡ 8). rw (eq-eqb e 8 x) (omega arith)) (λ (x : e ≡ 8 → ⊥). rw (ne_eqb e 8 x) h.size) (eq_or_ne e 8)

      rises : natural (offset_by (get_or codes 8 0) (get_or amounts 8 0)) ≤ 2147483647
      rises = unfold offset_by in ⊎_elim
          (λ (x : get_or codes 8 0 ≡ 2). rw (eq-eqb _ 2 x) (none_rises (get_or amounts 8 0)))
          (λ (x : get_or codes 8 0 ≡ 2 → ⊥). rw (ne_eqb _ 2 x) (unfold natural in h.rises x))
          (eq_or_ne (get_or codes 8 0) 2)

      falls : natural (neg_ℤ (offset_by (get_or codes 8 0) (get_or amounts 8 0))) ≤ 2147483648
      falls = unfold offset_by in ⊎_elim
          (λ (x : get_or codes 8 0 ≡ 2). rw (eq-eqb _ 2 x) (all_falls (get_or amounts 8 0) h.falls))
          (λ (x : get_or codes 8 0 ≡ 2 → ⊥). rw (ne_eqb _ 2 x) (none_falls (get_or amounts 8 0)))
          (eq_or_ne (get_or codes 8 0) 2)

      by : (t : Bool) → eqb e 4 ≡ t
          → Bounded e (three (cond t (pos (get_or amounts 6 0)) (offset_by (get_or codes 8 0) (get_or amounts 8 0))) (cond t (get_or amounts 5 0) (cond (eqb e 8) 8 (get_or amounts 9 0))) (get_or amounts 7 0))
      by true q = record {
        rises = unfold natural in h.origin;
        falls = none_falls (get_or amounts 6 0);
        above = λ x. unfold natural in refl;
        width = omega (arith, h.space);
        least_copies = h.least_copies;
        most_copies = h.most_copies;
      }
      by false q = record {
        rises = rises;
        falls = falls;
        above = λ x. absurd (eqb-false e 4 q x);
        width = width;
        least_copies = h.least_copies;
        most_copies = h.most_copies;
      }

  module _ (x : e ≡ 4) where
    pub segment_given : three (to_z w64 (get_or amounts 6 0)) (get_or amounts 5 0) (get_or amounts 7 0) ≡ given_in e codes amounts
    unfolding given_in
    segment_given = rw (to_z_pos w64 (get_or amounts 6 0) (omega (arith, h.origin)), eq-eqb e 4 x)

    pub segment_bounded : Bounded e (three (to_z w64 (get_or amounts 6 0)) (get_or amounts 5 0) (get_or amounts 7 0))
    segment_bounded = rw segment_given cells_bounded

  module _ {o : ℤ} {w : ℕ} (x : e ≡ 4 → ⊥) (f : SFits w64 o) (p : o ≡ offset_by (get_or codes 8 0) (get_or amounts 8 0)) (q : w ≡ cond (eqb e 8) 8 (get_or amounts 9 0)) where
    pub other_given : three (read o) w (get_or amounts 7 0) ≡ given_in e codes amounts
    unfolding given_in
    other_given = rw (read_is o f, p, q, ne_eqb e 4 x)

    pub other_bounded : Bounded e (three (read o) w (get_or amounts 7 0))
    other_bounded = rw other_given cells_bounded

module _ (e : ℕ) {w : ℕ} (p : w ≡ cond (eqb e 4) 0 (cond (eqb e 8) 8 1)) where
  pub bare_given : three (pos 0) w 1 ≡ given_by e (numbers_by e [])
  unfolding given_by
  bare_given = rw (p, ← bare_are e size) (by (eqb e 4))
    where
      size : cond (eqb e 8) 8 1 ≡ size_by e []
      size = ⊎_elim (λ (x : e ≡ 8). rw (eq-eqb e 8 x) (bare_eventid e x)) (λ (x : e ≡ 8 → ⊥). rw (ne_eqb e 8 x) (bare_other e x)) (eq_or_ne e 8)

      by : (t : Bool) → three (pos 0) (cond t 0 (cond (eqb e 8) 8 1)) 1 ≡ three (cond t (pos 0) (pos 0)) (cond t 0 (cond (eqb e 8) 8 1)) 1
      by true = refl
      by false = refl

  pub bare_bounded : Bounded e (three (pos 0) w 1)
  bare_bounded = rw bare_given (given_bounded e (numbers_by e []) (numbers_ranged e []))

pub ruleset giving = (segment_given, segment_bounded, other_given, other_bounded, bare_given, bare_bounded, rules)
