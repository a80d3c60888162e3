-- Two tables compared, number by number.
use Rattle.std.proofs.Common.{◌≡◌, Bool, List, ℤ, subst, true, ◌∙◌, rules}
use Rattle.std.specs.Ordering.{int_eq}
use Rattle.std.specs.Cmp.Rules.{signed_items}
use lib.Pointwise.{pointwise}
use Rattle.cdi.specs.Table.{same_table}
use Rattle.cdi.proofs.PlanOf.{same_table_law, table_itself}
use Rattle.extent.proofs.Reached.{iff}

same_tables : (s t : List ℤ) → pointwise int_eq s t ≡ same_table s t
same_tables s t =
    iff (pointwise int_eq s t) (same_table s t)
    (λ h. subst (λ (u : List ℤ). same_table s u ≡ true) ((signed_items s t).0 h) (table_itself s))
    (λ h. (signed_items s t).1 (same_table_law s t h))

pub same_told : (s t : List ℤ) {r : Bool} → r ≡ pointwise int_eq s t → r ≡ same_table s t
same_told s t h = h ∙ same_tables s t

pub ruleset comparing = (same_told, rules)
