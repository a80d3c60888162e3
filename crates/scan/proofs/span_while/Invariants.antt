use Rattle.std.proofs.Common.{◌≡◌, ℕ, Bool}
use Rattle.scan.proofs.Spans.{Spanning}
use Rattle.scan.proofs.span_while.Given as goal

abbrev pub invariant-loop-i : goal.invariant-loop-i
invariant-loop-i g l = (p : ℕ → Bool) → ((b : ℕ) → (r : Bool) → goal.F-post g l.passes b r → r ≡ p b) → Spanning p l.s l.at l.i
