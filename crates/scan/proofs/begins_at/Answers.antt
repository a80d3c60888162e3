use Rattle.scan.proofs.Words.{word_loop}
use Rattle.scan.proofs.begins_at.Goals as goal
use Rattle.scan.proofs.begins_at.Goals.{then-s-at-via-then-s-at, then-s-at-via-else-s-at+then-word-i}

pub returns-then-s-at : goal.returns-then-s-at
returns-then-s-at c =
    elim c.then-s-at.branch [
      | then-s-at-via-then-s-at w ↦ search word_loop
      | then-s-at-via-else-s-at+then-word-i w ↦ search word_loop
    ]

pub loop-i-preserved : goal.loop-i-preserved
loop-i-preserved c = search word_loop

pub returns : goal.returns
returns c = search word_loop
