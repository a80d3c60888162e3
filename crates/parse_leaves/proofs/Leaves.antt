-- A plain leaf, by its tests.
use mathlib.Core.Path.{◌≡◌, sym, ◌∙◌}
use mathlib.Core.List.{List}
use mathlib.Core.Bool.{Bool, true, cond, not, ◌&&◌, ◌||◌}
use Prim.Native.Nat.{ℕ, ◌+◌, ◌≤◌, ◌<◌}
use borrow.Author.Rules.{rules}
use Rattle.cdi.specs.Numbers.{number}
use Rattle.pieces_cuts.specs.Places.{part}
use Rattle.marks_leaf.specs.Leaves.{Leaves}
use Rattle.marks_leaf.proofs.Told.{leaf_low}
use Rattle.rules_judge.specs.declared.Said.TheVariants.{Silent}
use Rattle.rules_judge.specs.Judging.{said_by, is_value}
use Rattle.rules_judge.specs.Parts.{is_numeric}
use Rattle.judges_state.specs.Decoded.{said_of}
use Rattle.parse_leaves.specs.Leaves.{Plainly}
use Rattle.parse_leaves.specs.declared.Leaf.{Leaf}

module _ (s : List ℕ) (at n fault child entry last level : ℕ) (numeric : Bool) where
  pub not_plain : (r : Leaf) → r.end ≡ 0 → (r.end ≡ 0 → ⊥) → Plainly s at n fault child entry last level numeric r
  not_plain r e z = absurd (z e)

  pub plain_there : {to e said m : ℕ} {good : Bool} → fault ≡ 0 → 12 ≤ child → last < entry → (level ≡ 0 → ⊥) → Leaves s at n to e → (e ≡ 0 → ⊥)
      → said_of said m ≡ cond (numeric && is_numeric child) (said_by (number (part s (n + 1) to))) Silent → good ≡ (not (numeric && is_numeric child) || is_value (said_of said 0)) → good ≡ true
      → Plainly s at n fault child entry last level numeric (record { end = e; said = said; magnitude = m })
  plain_there {to} f h o z v y es eg g = record { to = to; plain = v.plain y; begun = f; worded = h; later = o; inside = z; says = es; good = sym eg ∙ g }

pub ruleset leaf_tests = (not_plain, leaf_low, rules)
