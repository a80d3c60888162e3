use Rattle.numbers.proofs.Reading.{both_ends}
use Rattle.numbers.proofs.ended.Goals as goal
use Rattle.numbers.proofs.ended.Goals.{else-at-ne0-via-then-at-ne0+else-blanks-s, else-at-ne0-via-else-at-ne0}

pub returns-then-blanks-s : goal.returns-then-blanks-s
returns-then-blanks-s c = search both_ends

pub returns-else-at-ne0 : goal.returns-else-at-ne0
returns-else-at-ne0 c =
    elim c.else-at-ne0.branch [ else-at-ne0-via-then-at-ne0+else-blanks-s w ↦ search both_ends | else-at-ne0-via-else-at-ne0 w ↦ search both_ends ]
