use mathlib.Core.Path.{refl}
use Rattle.cdi.specs.Pieces.{is_quote}
use Rattle.tags_spots.proofs.is_quote.Statement.{statement}
use Rattle.tags_spots.proofs.is_quote.Tie as tie

pub is_quote_spec : {M : Type 1} → statement M
unfolding is_quote
is_quote_spec =
    tie.close (tie.spec
    (λ c. refl))
