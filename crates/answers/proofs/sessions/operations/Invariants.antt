use Rattle.std.proofs.Common.{◌≡◌, length}
use Rattle.answers.proofs.sessions.operations.Given as goal

abbrev pub invariant-loop-i : goal.invariant-loop-i
invariant-loop-i l = (length l.window ≡ length l.fn.window) × (length l.journal ≡ length l.fn.journal)
