use Rattle.pieces_cuts.proofs.Making.{nothing}
use Rattle.pieces_marks.proofs.Reading.{is_run, bad_run}
use Rattle.pieces_marks.proofs.text.Goals as goal

pub returns : goal.returns
returns c = is_run c.args.s.now c.requires.0 c.requires.1 c.span-end.ensures c.span-solid.ensures c.in_default.ensures

pub returns-in-Some : goal.returns-in-Some
returns-in-Some c = nothing c.args.s.now c.malformed.ensures (bad_run c.args.s.now c.span-end.ensures c.in-Some.field-0 c.in-Some.ensures.0)
