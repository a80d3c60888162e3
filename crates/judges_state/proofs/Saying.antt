-- What was said, by its number: from 3 on it is a number.
use mathlib.Core.Path.{◌≡◌, refl, sym, ap, ◌∙◌}
use mathlib.Core.Bool.{false}
use mathlib.Core.Logic.{⊎_elim}
use Prim.Native.Nat.{ℕ, ◌<◌, ◌≤◌}
use native.Mathlib.Omega.{arith}
use borrow.Author.Tests.{lt-leb, le-leb, eq-eqb, ne_eqb}
use lib.Dec.{eqb, leb}
use Rattle.scan.proofs.Tests.{lt_or_le, eq_or_ne}
use Rattle.rules_judge.specs.declared.Said.TheVariants.{No, Value}
use Rattle.rules_judge.specs.Judging.{is_value}
use Rattle.judges_state.specs.Decoded.{said_of}

module _ (said m : ℕ) where
  pub number_said : 3 ≤ said → said_of said m ≡ Value (record { negative = eqb said 4; magnitude = m })
  unfolding said_of
  number_said h = rw (ne_eqb said 0 (λ z. omega arith), ne_eqb said 1 (λ z. omega arith), ne_eqb said 2 (λ z. omega arith))

  pub none_said : said < 3 → is_value (said_of said m) ≡ false
  unfolding said_of is_value
  none_said h = ⊎_elim (λ e. rw (eq-eqb said 0 e)) (λ a. ⊎_elim (λ e. rw (ne_eqb said 0 a, eq-eqb said 1 e)) (λ b. rw (ne_eqb said 0 a, ne_eqb said 1 b, eq-eqb said 2 (omega arith))) (eq_or_ne said 1)) (eq_or_ne said 0)

  pub is_value_law : is_value (said_of said m) ≡ leb 3 said
  unfolding is_value
  is_value_law = ⊎_elim (λ h. none_said h ∙ sym (lt-leb 3 said h)) (λ h. ap is_value (number_said h) ∙ sym (le-leb 3 said h)) (lt_or_le said 3)

-- no number is none, whatever its magnitude
pub said_none : (m : ℕ) → said_of 1 m ≡ No
unfolding said_of
said_none m = refl
