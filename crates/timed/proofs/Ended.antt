-- The end of the content and its characters as one number.
use mathlib.Core.Path.{◌≡◌, refl, sym, ap, ◌∙◌}
use mathlib.Core.List.{List}
use Prim.Native.Nat.{ℕ, ◌-◌}
use native.Mathlib.Omega.{arith}
use borrow.Author.Rules.{rules}
use lib.ListN.{take, drop}
use Rattle.cdi.specs.Text.{bad_character}
use Rattle.text.specs.Answers.{end_answer, ending, place_of}
use Rattle.std.specs.Prelude.{Option as Found, Some, None, Result, Ok, Err}
use Rattle.std.proofs.Common.{unwrap_or}
use Rattle.text.proofs.Ends.{end_inside, run_plain, run_inside}
use Rattle.timed.specs.Contents.{place_in, place_or, bad_in}

pub end_place : (s : List ℕ) (e : Result ℕ ℕ) {r : ℕ} → end_answer e ≡ ending s → r ≡ place_in (end_answer e) → r ≡ place_in (ending s)
end_place s e f q = q ∙ ap place_in f

-- a place, or another number where there is none
pub or_other : (b : Found ℕ) (o : ℕ) → unwrap_or b o ≡ place_or o (place_of b)
unfolding place_or place_of
or_other None o = refl
or_other (Some p) o = refl

pub bad_place : (c : List ℕ) (b : Found ℕ) {r : ℕ} (o : ℕ) → place_of b ≡ bad_character c → r ≡ unwrap_or b o → r ≡ place_or o (bad_character c)
bad_place c b o f q = q ∙ or_other b o ∙ ap (place_or o) f

pub ruleset content_places = (end_place, bad_place, rules)

-- ── both ──

module _ (s : List ℕ) {e : Result ℕ ℕ} (a : end_answer e ≡ ending s) where
  pub no_end : {p : ℕ} → e ≡ Err p → p ≡ bad_in s (ending s)
  unfolding bad_in end_answer
  no_end q = sym (rw (sym a ∙ ap end_answer q))

  pub bad_or_end : {z : ℕ} → e ≡ Ok z → (b : Found ℕ) {r : ℕ} → place_of b ≡ bad_character (take (z - 0) (drop 0 s)) → r ≡ unwrap_or b z → r ≡ bad_in s (ending s)
  unfolding bad_in end_answer
  bad_or_end {z} q b f g = let l : z - 0 ≡ z = omega arith in g ∙ or_other b z ∙ rw (f, l) (sym (rw (sym a ∙ ap end_answer q)))

pub ruleset content_both = (no_end, end_inside, bad_or_end, run_plain, run_inside, rules)
