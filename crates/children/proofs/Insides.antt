-- A content that was found stands in the text, and is closed there.
use mathlib.Core.Path.{◌≡◌}
use mathlib.Core.List.{List}
use Prim.Native.Nat.{ℕ, ◌≤◌}
use lib.ListN.{length}
use Rattle.children.specs.Siblings.{ahead, Inside, Named}
use Rattle.children.specs.declared.Part.{Part}
use Rattle.children.specs.declared.Part.TheVariants.{From}

module _ (s : List ℕ) {p : Part} (h : Inside s p) {q : ℕ} (e : p ≡ From q) where
  both : (q ≤ length s) × (2 ≤ length (ahead s q))
  unfolding Inside
  both = rw e at h

  pub inside_high : q ≤ length s
  inside_high = both.0

  pub inside_deep : 2 ≤ length (ahead s q)
  inside_deep = both.1

pub part_inside : {s : List ℕ} {at : ℕ} {n : List ℕ} {p : Part} → Named s at n p → Inside s p
part_inside w = w.inside
