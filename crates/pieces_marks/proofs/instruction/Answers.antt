use Rattle.std.proofs.Common.{rules}
use Rattle.pieces_cuts.proofs.Making.{something}
use Rattle.pieces_marks.proofs.Reading.{instructions, at_once, apart}
use Rattle.pieces_marks.proofs.instruction.Goals as goal

pub returns-then-behind-eq2 : goal.returns-then-behind-eq2
returns-then-behind-eq2 c = search instructions

pub returns-then-is_xml : goal.returns-then-is_xml
returns-then-is_xml c = search instructions

pub returns-in_default : goal.returns-in_default
returns-in_default c = search instructions

pub returns-then-begins_at : goal.returns-then-begins_at
returns-then-begins_at c = something c.args.s.now c.passed.ensures (at_once c.args.s.now c.name_end-behind.ensures (search rules) c.is_xml.ensures (search rules) c.in-Some.end c.in-Some.ensures.0 c.begins_at.ensures c.if-begins_at.true)

pub returns-then-is_blank : goal.returns-then-is_blank
returns-then-is_blank c = something c.args.s.now c.passed-then-is_blank.ensures (apart c.args.s.now c.name_end-behind.ensures (search rules) c.is_xml.ensures (search rules) c.in-Some.end c.in-Some.ensures.0 c.begins_at.ensures (search rules) c.byte_at-b.ensures c.is_blank.ensures c.if-is_blank.true)

pub returns : goal.returns
returns c = search instructions

pub passed-requires : goal.passed-requires
passed-requires c = search instructions

pub passed-requires-then-is_blank : goal.passed-requires-then-is_blank
passed-requires-then-is_blank c = search instructions
