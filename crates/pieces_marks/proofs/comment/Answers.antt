use Rattle.pieces_cuts.proofs.Making.{nothing, something}
use Rattle.pieces_marks.proofs.Reading.{comments, endless, dashes_end}
use Rattle.pieces_marks.proofs.comment.Goals as goal

pub returns-in_default : goal.returns-in_default
returns-in_default c = nothing c.args.s.now c.malformed.ensures (endless c.args.s.now c.in_default.ensures)

pub passed-requires : goal.passed-requires
passed-requires c = search comments

pub returns-then-begins_at : goal.returns-then-begins_at
returns-then-begins_at c = something c.args.s.now c.passed.ensures (dashes_end c.args.s.now c.in-Some.dashes c.in-Some.ensures.0 c.begins_at.ensures c.if-begins_at.true)

pub returns : goal.returns
returns c = search comments
