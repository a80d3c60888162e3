use Rattle.rules_judge.proofs.Tabled.{text_rows}
use Rattle.judges_tables.proofs.holds_text.Statement.{statement}
use Rattle.judges_tables.proofs.holds_text.Tie as tie

pub holds_text_spec : {M : Type 1} → statement M
holds_text_spec =
    tie.close (tie.spec
    (λ c. search text_rows))
