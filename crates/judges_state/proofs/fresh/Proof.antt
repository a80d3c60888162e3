use borrow.Author.Rules.{rules}
use Rattle.rules_judge.specs.Judging.{fresh, absent, as_whole}
use Rattle.judges_state.specs.Decoded.{said_of, judge_of}
use Rattle.judges_state.proofs.fresh.Statement.{statement}
use Rattle.judges_state.proofs.fresh.Tie as tie

pub fresh_spec : {M : Type 1} → statement M
unfolding judge_of said_of fresh absent as_whole
fresh_spec =
    tie.close (tie.spec
    (λ c. search rules))
