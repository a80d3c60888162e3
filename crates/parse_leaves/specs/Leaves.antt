-- What is known of a plain leaf that is read without a judge of its own.
use Rattle.std.specs.Prelude.{◌≡◌, List, Bool, true, cond, not, ◌&&◌, ◌||◌, ℕ, ◌+◌, ◌≤◌, ◌<◌}
use Rattle.cdi.specs.Numbers.{number}
use Rattle.pieces_cuts.specs.Places.{part}
use Rattle.marks_leaf.specs.Leaves.{Plain}
use Rattle.rules_judge.specs.declared.Said.TheVariants.{Silent}
use Rattle.rules_judge.specs.Judging.{said_by, is_value}
use Rattle.rules_judge.specs.Parts.{is_numeric}
use Rattle.judges_state.specs.Decoded.{said_of}
use Rattle.parse_leaves.specs.declared.Leaf.{Leaf}

-- The element of that number and entry at a place, whose name ends before n: a plain leaf of text only, in a later entry than the last, at a level inside the
-- root, whose tag has no fault of its own (`fault` is that number), and a number in range where it must be one.
pub record Plainly (s : List ℕ) (at n fault child entry last level : ℕ) (numeric : Bool) (r : Leaf) : Type 0 where
  pub to : ℕ
  pub plain : Plain s at n to r.end
  pub begun : fault ≡ 0
  pub worded : 12 ≤ child
  pub later : last < entry
  pub inside : level ≡ 0 → ⊥
  pub says : said_of r.said r.magnitude ≡ cond (numeric && is_numeric child) (said_by (number (part s (n + 1) to))) Silent
  pub good : (not (numeric && is_numeric child) || is_value (said_of r.said 0)) ≡ true
