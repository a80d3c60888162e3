-- Entering an element, as the code does it, and what the flat tally keeps.
use mathlib.Core.Path.{◌≡◌}
use mathlib.Core.Bool.{Bool, cond, ◌||◌}
use Prim.Native.Nat.{ℕ, ◌+◌, ◌≤◌}
use native.Mathlib.Omega.{arith}
use borrow.Author.Rules.{rules}
use Rattle.extent.specs.Reach.{Small, nowhere}
use Rattle.extent.specs.declared.Extent.{Extent}
use Rattle.tally_tag.specs.Tallying.{at_start}
use Rattle.tally_tag.specs.Numbered.{recorded_by, level_by, enter_by}
use Rattle.tallies_state.specs.declared.Tally.{Tally}
use Rattle.tallies_state.specs.Flat.{leaves_of, tally_of, Kept}

-- ── what an element is ──

-- what a call answered, beside another answer
pub or_call : {a x : Bool} (y : Bool) → a ≡ x → (a || y) ≡ (x || y)
or_call y e = rw e

pub or_calls : {a b x y : Bool} → a ≡ x → b ≡ y → (a || b) ≡ (x || y)
or_calls e f = rw (e, f)

-- ── the tally ──

-- a tally of these numbers
abbrev pub flat : Extent → ℕ → ℕ → ℕ → ℕ → ℕ → Tally
flat e d i m l r = record { extent = e; level = d; records = i; total = m; leaves = l; root = r }

-- a tally of these numbers is one that the code holds
pub kept_is : (e : Extent) (d i m l r : ℕ) → Small e → m ≤ 1000001 → Kept (flat e d i m l r)
kept_is e d i m l r h k = record { extent = h; total = k }

pub kept_start : (e : Extent) (l : ℕ) → Small e → Kept (flat e 0 0 0 l 0)
kept_start e l h = kept_is e 0 0 0 l 0 h (omega arith)

pub start_is : {e : Extent} → e ≡ nowhere → tally_of (flat e 0 0 0 18446744073709551615 0) ≡ at_start
unfolding tally_of leaves_of at_start
start_is p = rw p

pub enter_is : (g : Tally) (k r : ℕ) {e : Extent} {d i : ℕ} → e ≡ nowhere → d ≡ level_by g.level k → i ≡ cond (recorded_by g.level k) (g.records + 1) g.records
    → tally_of (flat e d i g.total g.leaves r) ≡ enter_by (tally_of g) k
unfolding tally_of enter_by
enter_is g k r p q u = rw (p, q, u)

pub ruleset entering = (start_is, enter_is, kept_start, kept_is, rules)
