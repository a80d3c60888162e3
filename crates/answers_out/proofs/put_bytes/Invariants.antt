use Rattle.std.proofs.Common.{◌≡◌, ◌≤◌, length}
use Rattle.answers_out.proofs.put_bytes.Given as goal

abbrev pub invariant-loop-b : goal.invariant-loop-b
invariant-loop-b l = (l.to ≤ length l.out) × (length l.out ≡ length l.fn.out)
