use mathlib.Core.Logic.{⊎_elim}
use Rattle.std.proofs.Common.{rules}
use Rattle.access_checked.proofs.Comparing.{compare_short, compare_any}
use Rattle.access_checked.proofs.compare_in.Goals as goal

pub returns : goal.returns
returns g c =
    ⊎_elim
    (λ h. compare_short _ _ _ _ _ c.outline-told.ensures.said c.outline-told.ensures.few.1 c.compared.ensures (search rules))
    (λ h. compare_any _ _ _ _ _ c.outline-told.ensures.said c.outline-told.ensures.few.1 c.compared.ensures c.outline-told.ensures.few.0 (search rules))
    c.requires.4
