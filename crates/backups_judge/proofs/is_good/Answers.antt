use Rattle.backups_judge.proofs.Judging.{goods}
use Rattle.backups_judge.proofs.is_good.Goals as goal
use Rattle.backups_judge.proofs.is_good.Goals.{then-number_in-position, else-number_in-position, then-space_of-space, else-space_of-space, then-used-le502, else-used-le502}

pub returns-then-is_length_good : goal.returns-then-is_length_good
returns-then-is_length_good c =
    elim c.if-used-le502.branch [
      | then-used-le502 u ↦ elim c.if-space_of-space.branch [
        | then-space_of-space v ↦ elim c.if-number_in-position.branch [ then-number_in-position w ↦ search goods | else-number_in-position w ↦ search goods ]
        | else-space_of-space v ↦ search goods
      ]
      | else-used-le502 u ↦ search goods
    ]

pub returns-else-is_length_good : goal.returns-else-is_length_good
returns-else-is_length_good c =
    elim c.if-used-le502.branch [
      | then-used-le502 u ↦ elim c.if-space_of-space.branch [
        | then-space_of-space v ↦ elim c.if-number_in-position.branch [ then-number_in-position w ↦ search goods | else-number_in-position w ↦ search goods ]
        | else-space_of-space v ↦ search goods
      ]
      | else-used-le502 u ↦ search goods
    ]
