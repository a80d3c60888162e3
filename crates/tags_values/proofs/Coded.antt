-- A value's code and its amount, by each way through the code.
use mathlib.Core.Path.{◌≡◌, refl, sym, ◌∙◌}
use mathlib.Core.List.{List}
use mathlib.Core.Bool.{Bool, true, false, cond}
use mathlib.Core.Option.{Option, none, some}
use mathlib.Core.Logic.{⊎_elim}
use Prim.Native.Nat.{ℕ, ◌+◌, ◌-◌, ◌≤◌, ◌<◌}
use native.Mathlib.Omega.{arith}
use borrow.Author.Rules.{rules}
use borrow.Author.Tests.{lt-ltb, le-ltb, eq-eqb, ne_eqb}
use lib.Dec.{eqb}
use lib.IntN.{ℤ}
use Rattle.std.specs.Prelude as std
use Rattle.std.specs.Prelude.{Some, None}
use Rattle.cdi.specs.Lists.{ascii, same, lists_page}
use Rattle.cdi.specs.Numbers.{number, within}
use Rattle.cdi.specs.Rows.{range, rows_page}
use Rattle.cdi.specs.Rules.{is_formatting}
use Rattle.cdi.proofs.Quiet.{impossible}
use Rattle.scan.proofs.Tests.{lt_or_le, eq_or_ne}
use Rattle.numbers.specs.Held.{signed_of, number_of, Judges}
use Rattle.numbers.specs.declared.Signed.{Signed}
use Rattle.rules_judge.specs.Tables.{form_of, tables_page}
use Rattle.rules_judge.proofs.Below.{Below, at_below}
use Rattle.tags_values.specs.Codes.{range_code, form_code, range_amount, textual, low_at, high_at, amount_for, rule_for, code_of, amount_of, codes_page}
use Rattle.tags_values.proofs.Formed.{range_code_law}
use Rattle.tags_values.proofs.Ranged.{sized}

-- ── texts and numbers ──

textual_false : (a : ℕ) → textual a ≡ false → (3 ≤ a) × (a ≡ 10 → ⊥)
unfolding textual
textual_false a e = ⊎_elim
    (λ l. let z : true ≡ false = rw (lt-ltb a 3 l) at e in impossible (cc))
    (λ l. (l, λ q. let z : true ≡ false = rw (le-ltb a 3 l, eq-eqb a 10 q) at e in impossible (cc)))
    (lt_or_le a 3)

textual_true : (a : ℕ) → textual a ≡ true → 3 ≤ a → a ≡ 10
unfolding textual
textual_true a e l = ⊎_elim (λ q. q) (λ q. let z : false ≡ true = rw (le-ltb a 3 l, ne_eqb a 10 q) at e in impossible (cc)) (eq_or_ne a 10)

-- ── numbers ──

RangeFor : ℕ → Type 0
RangeFor i = form_of (rule_for (i + 3)) ≡ range (low_at (i + 3)) (high_at (i + 3))

ranges_for : Below RangeFor 7
unfolding Below RangeFor lists_page rows_page tables_page codes_page
ranges_for = (refl, (refl, (refl, (refl, (refl, (refl, (refl, tt)))))))

range_for : (a : ℕ) → a ≤ 10 → textual a ≡ false → form_of (rule_for a) ≡ range (low_at a) (high_at a)
unfolding RangeFor
range_for a h e =
    let w = textual_false a e in
    let there : a - 3 + 3 ≡ a = omega (arith, w.0) in
    rw there at (at_below RangeFor 7 ranges_for (a - 3) (below w.0 w.1))
  where
    below : 3 ≤ a → (a ≡ 10 → ⊥) → a - 3 < 7
    below l n = ⊎_elim (λ k. k) (λ k. absurd (n (omega arith))) (lt_or_le (a - 3) 7)

-- the whole number that was read
record Read (n : Signed) (o : Option ℤ) : Type 0 where
  whole : ℤ
  is : o ≡ some whole
  held : n ≡ signed_of whole

module _ (a : ℕ) (v : List ℕ) (h : a ≤ 10) (e : textual a ≡ false) {q : std.Option Signed} (r : q ≡ number_of (number v)) where
  code_by : code_of a v ≡ range_code (low_at a) (high_at a) (number v)
  unfolding code_of form_code
  code_by = rw (range_for a h e)

  amount_by : amount_of a v ≡ range_amount (amount_for a) (low_at a) (high_at a) (number v)
  unfolding amount_of
  amount_by = rw e

  none_read : q ≡ None → number v ≡ none
  unfolding number_of
  none_read f = by (number v) (sym f ∙ r)
    where
      by : (o : Option ℤ) → None ≡ number_of o → o ≡ none
      by none z = refl
      by (some x) z = impossible (cc)

  read_some : {n : Signed} → q ≡ Some n → Read n (number v)
  unfolding number_of
  read_some {n} f = by (number v) (sym f ∙ r)
    where
      by : (o : Option ℤ) → Some n ≡ number_of o → Read n o
      by none z = impossible (cc)
      by (some x) z = let g : n ≡ signed_of x = cc in record { whole = x; is = refl; held = g }

  pub no_number : q ≡ None → 9 ≡ code_of a v
  unfolding range_code
  no_number f = sym (code_by ∙ rw (none_read f))

  pub no_amount : {x : ℕ} → q ≡ None → x ≡ amount_for a → x ≡ amount_of a v
  unfolding range_amount
  no_amount f y = y ∙ sym (amount_by ∙ rw (none_read f))

  module _ {n : Signed} {t : Bool} (f : q ≡ Some n) (w : Judges n (within (low_at a) (high_at a)) t) where
    judged : within (low_at a) (high_at a) (read_some f).whole ≡ t
    judged = sym (w.of (read_some f).whole (read_some f).held)

    pub good_code : {c : ℕ} → t ≡ true → c ≡ cond n.negative 2 1 → c ≡ code_of a v
    unfolding range_code
    good_code g y = y ∙ sym (code_by ∙ rw ((read_some f).is, judged, g, (sized n a (read_some f).whole (read_some f).held (judged ∙ g)).1))

    pub good_amount : t ≡ true → n.magnitude ≡ amount_of a v
    unfolding range_amount
    good_amount g = sym (amount_by ∙ rw ((read_some f).is, judged, g) (sized n a (read_some f).whole (read_some f).held (judged ∙ g)).0)

    pub bad_code : t ≡ false → 10 ≡ code_of a v
    unfolding range_code
    bad_code g = sym (code_by ∙ rw ((read_some f).is, judged, g))

    pub bad_amount : {x : ℕ} → t ≡ false → x ≡ amount_for a → x ≡ amount_of a v
    unfolding range_amount
    bad_amount g y = y ∙ sym (amount_by ∙ rw ((read_some f).is, judged, g))

pub ruleset number_codes = (no_number, no_amount, good_code, good_amount, bad_code, bad_amount, rules)

-- ── texts ──

module _ (a : ℕ) (v : List ℕ) {r : Bool} where
  pub first_text : a ≡ 1 → r ≡ same v (ascii "http://www.w3.org/2001/XMLSchema-instance") → code_of a v ≡ cond r 1 87
  unfolding lists_page rows_page tables_page codes_page
  first_text e f = rw (e, f)

  pub second_text : a ≡ 2 → r ≡ same v (ascii "http://openlcb.org/schema/cdi/1/3/cdi.xsd") → code_of a v ≡ cond r 1 87
  unfolding lists_page rows_page tables_page codes_page
  second_text e f = rw (e, f)

  pub third_text : 1 ≤ a → textual a ≡ true → (a ≡ 1 → ⊥) → (a ≡ 2 → ⊥) → r ≡ is_formatting v → code_of a v ≡ cond r 1 87
  unfolding code_of form_code rows_page tables_page rule_for
  third_text l e f g h = rw (textual_true a e (more l f g), h)
    where
      more : 1 ≤ a → (a ≡ 1 → ⊥) → (a ≡ 2 → ⊥) → 3 ≤ a
      more l f g = ⊎_elim (λ k. absurd (⊎_elim f (λ n. g (omega arith)) (eq_or_ne a 1))) (λ k. k) (lt_or_le a 3)

  pub good_text : code_of a v ≡ cond r 1 87 → r ≡ true → 1 ≡ code_of a v
  good_text e f = sym (e ∙ rw f)

  pub bad_text : code_of a v ≡ cond r 1 87 → r ≡ false → 87 ≡ code_of a v
  bad_text e f = sym (e ∙ rw f)

pub text_amount : (a : ℕ) (v : List ℕ) → textual a ≡ true → 0 ≡ amount_of a v
unfolding amount_of amount_for
text_amount a v e = sym (rw (e, ne_eqb a 7 (neither 7 (omega arith) (omega arith)), ne_eqb a 9 (neither 9 (omega arith) (omega arith))))
  where
    neither : (k : ℕ) → 3 ≤ k → k < 10 → a ≡ k → ⊥
    neither k l m q = omega (arith, textual_true a e (omega arith))

pub ruleset text_codes = (first_text, second_text, third_text, good_text, bad_text, text_amount, rules)

-- ── a wrong text ──

-- a number's code is no text's
pub number_code : (a : ℕ) (v : List ℕ) → a ≤ 10 → textual a ≡ false → false ≡ eqb (code_of a v) 87
unfolding code_of form_code
number_code a v h e = rw (range_for a h e) (sym (ne_eqb (range_code (low_at a) (high_at a) (number v)) 87 (λ z. omega (arith, (range_code_law (low_at a) (high_at a) (number v)).1, z))))
