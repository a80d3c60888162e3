-- One attribute more, by each way through the code.
use mathlib.Core.Path.{◌≡◌, refl, sym, ap, ◌∙◌}
use mathlib.Core.List.{List, [], ◌∷◌}
use mathlib.Core.Bool.{Bool, true, false, ◌&&◌, ◌||◌}
use mathlib.Core.Logic.{⊎_elim}
use Prim.Native.Nat.{ℕ, ◌+◌, ◌≤◌, ◌<◌}
use native.Mathlib.Omega.{arith}
use borrow.Author.Rules.{rules}
use borrow.Author.Tests.{eq-eqb, eqb-true, ne_eqb}
use lib.Dec.{eqb}
use lib.ListN.{length, drop, get_or, set, drop_of_length-le}
use Rattle.cdi.specs.Lists.{is_empty, all, after, shorn, same}
use Rattle.cdi.specs.Pieces.{blank}
use Rattle.cdi.specs.Numbers.{trimmed}
use Rattle.cdi.proofs.Quiet.{impossible}
use Rattle.cdi.proofs.Trimmed.{shorn_empty, shorn_all, shorn_first}
use Rattle.scan.specs.Spans.{Span}
use Rattle.scan.proofs.Along.{drop_next}
use Rattle.scan.proofs.Spans.{span_rest, span_all, span_stop}
use Rattle.scan.proofs.Tests.{eq_or_ne}
use Rattle.rules_judge.specs.Tables.{exact_size, size_in}
use Rattle.tags_values.specs.Codes.{code_of, amount_of}
use Rattle.tags_cells.specs.Cells.{is_first, with_code, with_amount, size_of_byte}

-- ── sizes ──

and_true : (t : Bool) → (t && true) ≡ t
and_true true = refl
and_true false = refl

-- a text of one byte says what the byte does, and a longer one no size
one_byte : (b : ℕ) → size_of_byte b ≡ exact_size (b ∷ [])
unfolding size_of_byte exact_size same
one_byte b = rw (and_true (eqb b 49), and_true (eqb b 50), and_true (eqb b 52), and_true (eqb b 56))

longer : (b : ℕ) (s : List ℕ) → is_empty s ≡ false → 0 ≡ exact_size (b ∷ s)
unfolding exact_size same is_empty
longer b [] e = cc
longer b (c ∷ s) e = rw (and-false (eqb b 49), and-false (eqb b 50), and-false (eqb b 52), and-false (eqb b 56))
  where
    and-false : (t : Bool) → (t && false) ≡ false
    and-false true = refl
    and-false false = refl

blank_says : (b : ℕ) → blank b ≡ true → size_of_byte b ≡ 0
unfolding blank size_of_byte
blank_says b e = by (eqb b 32) refl (eqb b 9) refl (eqb b 10) refl e
  where
    by : (x : Bool) → eqb b 32 ≡ x → (y : Bool) → eqb b 9 ≡ y → (z : Bool) → eqb b 10 ≡ z → (x || (y || z)) ≡ true → size_of_byte b ≡ 0
    by true f y g z h e = rw (eqb-true b 32 f)
    by false f true g z h e = rw (eqb-true b 9 g)
    by false f false g true h e = rw (eqb-true b 10 h)
    by false f false g false h e = impossible (cc)

module _ (v : List ℕ) {at : ℕ} (w : Span blank v 0 at) where
  shorn_is : size_in v ≡ exact_size (shorn blank (drop at v))
  unfolding size_in trimmed
  shorn_is = ap (λ l. exact_size (shorn blank l)) (span_rest w)

  pub only_blanks : length v ≤ at → 0 ≡ size_in v
  only_blanks h = sym (shorn_is ∙ (unfold exact_size shorn same in rw (drop_of_length-le v h)))

  module _ (h : at < length v) {e : ℕ} (u : Span blank v (at + 1) e) where
    first_stays : shorn blank (drop at v) ≡ get_or v at 0 ∷ shorn blank (drop (at + 1) v)
    first_stays = rw (drop_next v at h) (shorn_first blank (get_or v at 0) (drop (at + 1) v) (unfold all in rw (span_stop w h)))

    pub more_behind : e < length v → 0 ≡ size_in v
    more_behind k =
        longer (get_or v at 0) (shorn blank (drop (at + 1) v)) (shorn_empty blank (drop (at + 1) v) ∙ sym (span_all u) ∙ ne_eqb e (length v) (λ z. omega arith))
        ∙ sym (shorn_is ∙ ap exact_size first_stays)

    pub one_stands : {r : ℕ} → length v ≤ e → r ≡ size_of_byte (get_or v at 0) → r ≡ size_in v
    one_stands k f =
        let none_left = shorn_all blank (drop (at + 1) v) (sym (span_all u) ∙ eq-eqb e (length v) (omega (arith, u.high))) in
        f ∙ one_byte (get_or v at 0) ∙ sym (shorn_is ∙ ap exact_size first_stays ∙ ap (λ l. exact_size (get_or v at 0 ∷ l)) none_left)

-- a text of one byte: a blank says no size
pub one_alone : (v : List ℕ) {r : ℕ} → length v ≡ 1 → r ≡ size_of_byte (get_or v 0 0) → r ≡ size_in v
one_alone [] h f = absurd (omega arith)
one_alone (b ∷ []) h f = f ∙ by (blank b) refl
  where
    by : (t : Bool) → blank b ≡ t → size_of_byte b ≡ size_in (b ∷ [])
    by true e = blank_says b e ∙ (unfold size_in trimmed after shorn exact_size same in rw e)
    by false e = one_byte b ∙ (unfold size_in trimmed after shorn is_empty in rw e (rw e))
one_alone (b ∷ c ∷ v) h f = absurd (omega arith)

pub ruleset sizes = (only_blanks, more_behind, one_stands, one_alone, rules)

-- ── a value ──

pub first_is : (a : ℕ) (codes : List ℕ) {i : ℕ} → i ≡ a → (a ≡ 0 → ⊥) → eqb (get_or codes i 0) 0 ≡ is_first a codes
unfolding is_first
first_is a codes e f = rw (e, ne_eqb a 0 f)

pub ruleset testing = (first_is, rules)

module _ (a : ℕ) (v codes amounts : List ℕ) {t : Bool} (e : t ≡ is_first a codes) where
  pub first_low : t ≡ true → 1 ≤ a
  unfolding is_first
  first_low f = ⊎_elim (λ (z : a ≡ 0). let q : true ≡ false = sym f ∙ e ∙ rw z in impossible (cc)) (λ (z : a ≡ 0 → ⊥). omega arith) (eq_or_ne a 0)

  pub code_noted : {i c : ℕ} → t ≡ true → i ≡ a → c ≡ code_of a v → set codes i c ≡ with_code a v codes
  unfolding with_code
  code_noted f g h = rw (← e, f, g, h)

  pub amount_noted : {i m : ℕ} → t ≡ true → i ≡ a → m ≡ amount_of a v → set amounts i m ≡ with_amount a v codes amounts
  unfolding with_amount
  amount_noted f g h = rw (← e, f, g, h)

  pub code_kept : t ≡ false → codes ≡ with_code a v codes
  unfolding with_code
  code_kept f = rw (← e, f)

  pub amount_kept : t ≡ false → amounts ≡ with_amount a v codes amounts
  unfolding with_amount
  amount_kept f = rw (← e, f)

pub ruleset noting = (first_low, code_noted, amount_noted, code_kept, amount_kept, rules)
