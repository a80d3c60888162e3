use Rattle.pieces_marks.proofs.Reading.{xml_names}
use Rattle.pieces_marks.proofs.is_xml.Goals.{then-a-eq120, else-a-eq120}
use Rattle.pieces_marks.proofs.is_xml.Goals as goal

pub returns-then-s-ne3 : goal.returns-then-s-ne3
returns-then-s-ne3 c = search xml_names

pub returns-then-b-eq109 : goal.returns-then-b-eq109
returns-then-b-eq109 c = search xml_names

pub returns-else-b-eq109 : goal.returns-else-b-eq109
returns-else-b-eq109 c = elim c.if-a-eq120.branch [ then-a-eq120 w ↦ search xml_names | else-a-eq120 w ↦ search xml_names ]
