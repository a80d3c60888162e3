-- The ranges of one record that depend on its kind, and two places one after the other.
use mathlib.Core.Path.{◌≡◌, sym, ◌∙◌}
use mathlib.Core.List.{List}
use mathlib.Core.Bool.{Bool}
use Prim.Native.Nat.{ℕ, ◌+◌, ◌-◌}
use borrow.Author.Rules.{rules}
use borrow.Author.Tests.{ne_eqb}
use lib.Dec.{eqb}
use lib.IntN.{ℤ, pos}
use lib.Signed.{lt_z}
use mir.Syntax.{w64}
use mir.Val.{SFits}
use Rattle.cdi.specs.Numbers.{within}
use Rattle.cdi.specs.Rules.{natural}
use Rattle.cdi.specs.Table.{same_number}
use Rattle.cdi.specs.Plans.{field, replication_fits, next_fits}
use Rattle.extent.proofs.Signed.{read, read_is}
use Rattle.locate_rows.proofs.Numbers.{only}

module _ (t : List ℤ) (i : ℕ) {k : ℕ} (ek : k ≡ natural (field t i 0)) {a : Bool} where
  pub group_replication : k ≡ 2 → a ≡ within (pos 1) (pos 2147483647) (field t i 4) → a ≡ replication_fits (natural (field t i 0)) (field t i 4)
  unfolding replication_fits
  group_replication h fa = fa ∙ sym (rw (← ek, h))

  pub other_replication : (k ≡ 2 → ⊥) → a ≡ same_number (field t i 4) (pos 1) → a ≡ replication_fits (natural (field t i 0)) (field t i 4)
  unfolding replication_fits
  other_replication h fa = fa ∙ sym (only 1 (field t i 4)) ∙ sym (rw (← ek, ne_eqb _ _ h))

  pub group_next : (e : ℕ) → k ≡ 2 → a ≡ within (pos (i + 1)) (pos e) (field t i 5) → a ≡ next_fits (eqb (natural (field t i 0)) 2) i e (field t i 5)
  unfolding next_fits
  group_next e h fa = fa ∙ sym (rw (← ek, h))

  pub other_next : (e : ℕ) → (k ≡ 2 → ⊥) → a ≡ same_number (field t i 5) (pos (i + 1)) → a ≡ next_fits (eqb (natural (field t i 0)) 2) i e (field t i 5)
  unfolding next_fits
  other_next e h fa = fa ∙ sym (only (i + 1) (field t i 5)) ∙ sym (rw (← ek, ne_eqb _ _ h))

pub ruleset by_kind = (group_replication, other_replication, group_next, other_next, rules)

-- the two places as they are read
pub rises_read : (t : List ℤ) (i : ℕ) {y z : ℤ} → SFits w64 y → SFits w64 z → y ≡ field t (i - 1) 1 → z ≡ field t i 1
    → lt_z (read y) (read z) ≡ lt_z (field t (i - 1) 1) (field t i 1)
rises_read t i {y} {z} f g p q = rw (read_is y f, read_is z g, p, q)

pub ruleset rising = (rises_read, rules)
