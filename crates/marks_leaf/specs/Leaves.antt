-- What is known of a plain leaf.
use Rattle.std.specs.Prelude.{◌≡◌, List, [], false, ℕ, ◌+◌, ◌-◌, ◌≤◌, drop}
use Rattle.cdi.specs.Pieces.{blank, attributes}
use Rattle.scan.specs.Spans.{span_end}
use Rattle.pieces_cuts.specs.Places.{part}
use Rattle.pieces_cuts.specs.Cuts.{Stands}
use Rattle.marks_cuts.specs.Marks.{start_cut, finish_cut, text_cut}

-- the element at a place, whose name ends before n, has no attributes, holds the text that ends before `to`, or nothing, and ends before e
pub record Plain (s : List ℕ) (at n to e : ℕ) : Type 0 where
  pub start : Stands s at (start_cut at n (n + 1) false false)
  pub bare : attributes n 0 (drop n s) ≡ []
  pub low : n + 1 ≤ to
  pub text : (to ≡ n + 1 → ⊥) → Stands s (n + 1) (text_cut (n + 1) to (span_end blank s (n + 1)))
  pub finish : Stands s to (finish_cut to (to + 2 + (n - (at + 1))) e)
  pub name : part s (to + 2) (to + 2 + (n - (at + 1))) ≡ part s (at + 1) n

-- nothing is known where e is 0
pub record Leaves (s : List ℕ) (at n to e : ℕ) : Type 0 where
  pub plain : (e ≡ 0 → ⊥) → Plain s at n to e
