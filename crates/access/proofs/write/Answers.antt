use Rattle.access.proofs.Accessing.{checking_first, checked_exact, check_unchanged}
use Rattle.maps.specs.Matches.{wanted_of}
use Rattle.access.proofs.write.Goals as goal

pub returns-in_err-end-clause-answer : goal.returns-in_err-end-clause-answer
returns-in_err-end-clause-answer c = search checking_first

pub returns-in_err-end-clause-after : goal.returns-in_err-end-clause-after
returns-in_err-end-clause-after c =
    check_unchanged c.args.text.now c.args.table.now c.check.ensures c.args.n c.in_err-end.was c.args.space c.args.first c.args.window.now (wanted_of c.args.value c.args.string.now)

pub write_known-requires : goal.write_known-requires
write_known-requires c = checked_exact c.args.text.now c.args.table.now c.check.ensures c.in_ok-end.was
