-- Stages 1 to 3, one law for each way through the code.
use mathlib.Core.Path.{◌≡◌, refl, sym, ap, ◌∙◌}
use mathlib.Core.List.{List}
use mathlib.Core.Bool.{Bool, true, false}
use mathlib.Core.Option.{some}
use Prim.Native.Nat.{ℕ, ◌-◌}
use native.Mathlib.Omega.{arith}
use borrow.Author.Rules.{rules}
use lib.ListN.{length, take, drop, length-take}
use lib.Seq.{take-length}
use Rattle.cdi.specs.Lists.{begins}
use Rattle.cdi.specs.Faults.{accepted, ◌and_then◌}
use Rattle.cdi.specs.Text.{bad_character, first_line}
use Rattle.cdi.specs.Planning.{ending, characters, opening}
use Rattle.scan.proofs.Words.{begun_length}
use Rattle.text.specs.Answers as T
use Rattle.std.specs.Prelude.{Option as Found, Some, None, Result, Ok, Err}
use Rattle.refusals.specs.declared.Refusal.{Refusal}
use Rattle.refusals.specs.Refusals.{refusal}
use Rattle.text.proofs.Ends.{content_of, ends_at, end_inside, end_early, run_plain, run_inside}
use Rattle.plan_opening.specs.Openings.{opened_of, Whole, Ended}

-- ── 2 and 3 ──

module _ (c : List ℕ) {b : Found ℕ} (a : T.place_of b ≡ bad_character c) where
  pub bad : {p : ℕ} → b ≡ Some p → opened_of c (Err (refusal 2 p)) ≡ (characters c and_then opening)
  unfolding opened_of characters T.place_of
  bad e = rw (sym a ∙ ap T.place_of e)

  module _ {o : Bool} (e : b ≡ None) (k : o ≡ begins first_line c) where
    pub opens : o ≡ true → opened_of c (Ok (length c)) ≡ (characters c and_then opening)
    unfolding opened_of characters opening T.place_of
    opens f = rw (take-length c, sym a ∙ ap T.place_of e, sym k ∙ f)

    pub opens_not : o ≡ false → opened_of c (Err (refusal 3 0)) ≡ (characters c and_then opening)
    unfolding opened_of characters opening T.place_of
    opens_not f = rw (sym a ∙ ap T.place_of e, sym k ∙ f)

pub whole : {o : Bool} (c : List ℕ) → o ≡ begins first_line c → o ≡ true → Whole c (Ok (length c))
unfolding Whole first_line
whole c k f = (refl, begun_length first_line c (sym k ∙ f))

pub whole_refused : (c : List ℕ) (r : Refusal) → Whole c (Err r)
unfolding Whole
whole_refused c r = tt

pub ruleset judging = (bad, opens, opens_not, whole, whole_refused, rules)

-- ── 1 ──

module _ (b : List ℕ) {e : Result ℕ ℕ} (a : T.end_answer e ≡ T.ending b) where
  pub endless : {p : ℕ} → e ≡ Err p → opened_of b (Err (refusal 1 p)) ≡ (ending b and_then characters and_then opening)
  unfolding opened_of T.end_answer
  endless q = rw (content_of b, sym a ∙ ap T.end_answer q)

  module _ {z : ℕ} (q : e ≡ Ok z) where
    first_stage : ending b ≡ accepted (take z b)
    unfolding T.end_answer
    first_stage = rw (content_of b, sym a ∙ ap T.end_answer q)

    lent : take (z - 0) (drop 0 b) ≡ take z b
    lent = let l : z - 0 ≡ z = omega arith in ap (λ n. take n b) l

    lent_length : length (take (z - 0) (drop 0 b)) ≡ z
    lent_length = omega (arith, length-take (z - 0) b, end_inside b a q)

    same : (r : Result ℕ Refusal) → Whole (take (z - 0) (drop 0 b)) r → opened_of b r ≡ opened_of (take (z - 0) (drop 0 b)) r
    unfolding Whole opened_of
    same (Ok x) v = let y : x ≡ z = v.0 ∙ lent_length in rw (v.0, take-length (take (z - 0) (drop 0 b)), lent_length, lent)
    same (Err r) v = refl

    pub ended : (r : Result ℕ Refusal) → Whole (take (z - 0) (drop 0 b)) r → opened_of (take (z - 0) (drop 0 b)) r ≡ (characters (take (z - 0) (drop 0 b)) and_then opening) → opened_of b r ≡ (ending b and_then characters and_then opening)
    ended r w k = same r w ∙ k ∙ rw (lent, first_stage)

    pub ends_there : (r : Result ℕ Refusal) → Whole (take (z - 0) (drop 0 b)) r → Ended b r
    unfolding Whole Ended
    ends_there (Ok x) v = let y : x ≡ z = v.0 ∙ lent_length in (ends_at b a q ∙ ap some (sym y), (v.1, (omega (arith, v.0, end_early b a q), omega (arith, y, end_inside b a q))))
    ends_there (Err r) v = tt

pub ends_nowhere : (b : List ℕ) (r : Refusal) → Ended b (Err r)
unfolding Ended
ends_nowhere b r = tt

pub ruleset opening_text = (endless, ended, ends_there, ends_nowhere, end_inside, run_plain, run_inside, rules)
