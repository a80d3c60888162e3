-- What entering and leaving do at each level, and that nothing is described at level 3.
use mathlib.Core.Path.{◌≡◌, refl}
use mathlib.Core.List.{List}
use mathlib.Core.Bool.{true, false}
use Prim.Native.Nat.{ℕ, ◌+◌, ◌*◌, min}
use lib.IntN.{ℤ}
use lib.Seq.{sets}
use Rattle.cdi.specs.Lists.{among}
use Rattle.cdi.specs.Pieces.{Attribute}
use Rattle.cdi.specs.Tree.{Nodes}
use Rattle.cdi.specs.Tree.Nodes.{end, element, other}
use Rattle.cdi.specs.Rows.{data_names}
use Rattle.extent.specs.Reach.{nowhere, fits_at, join, held}
use Rattle.extent.specs.declared.Extent.{Extent}
use Rattle.tally_tag.specs.Tallying.{Leaves, Tallied, numbers_of, is_group, is_segment, recorded, level_in, enter_of, own_extent, first_leaving, leave_of, record_of, written, tally_nodes}
use Rattle.tally_tag.specs.declared.Tally.{Tally}

-- a tally of these numbers
abbrev pub tally : Extent → ℕ → ℕ → ℕ → Leaves → Tally
tally e d i m l = record { extent = e; level = d; records = i; total = m; leaves = l }

-- what is known then: the tally and the table
abbrev pub tallied : Tally → List ℤ → Tallied
tallied g t = record { tally = g; table = t }

-- Nothing is described at level 3.
pub nothing_tallied : (e : Extent) (i m : ℕ) (l : Leaves) (t : List ℤ) (u : Nodes) → tally_nodes (tally e 3 i m l) t u ≡ tallied (tally e 3 i m l) t
unfolding tally_nodes enter_of level_in recorded leave_of written
nothing_tallied e i m l t end = refl
nothing_tallied e i m l t (other p c following) = nothing_tallied e i m l t following
nothing_tallied e i m l t (element p n s kids following) = rw (nothing_tallied nowhere i m l t kids) (nothing_tallied e i m l t following)

-- ── the elements that are described: `inside` is what is known of the content ──

module _ (e : Extent) (i m : ℕ) (l : Leaves) (t : List ℤ) (p : ℕ) (n : List ℕ) (s : List Attribute) (kids following : Nodes) where
  abbrev at : ℕ → Tally
  at d = tally e d i m l

  -- the tally of the tree from this element on
  abbrev here : ℕ → Tallied
  here d = tally_nodes (at d) t (element p n s kids following)

  -- A group, at level 2, is left with the extent of its offset and its copies.
  pub group_tallied : is_group n ≡ true → among n data_names ≡ true → (inside : Extent) (j : ℕ) (w : List ℤ)
      → tally_nodes (tally nowhere 2 (i + 1) m l) t kids ≡ tallied (tally inside 2 j m l) w
      → here 2 ≡ tally_nodes (tally (held (join e (own_extent n (numbers_of n s) inside))) 2 j m l) (sets w (i * 8) (record_of (at 2) p n s (tally inside 2 j m l))) following
  unfolding tally_nodes enter_of level_in recorded leave_of written
  group_tallied q d inside j w k = rw (q, d, k)

  -- A variable, at level 2, is left with the extent of its offset and its size.
  pub variable_tallied : is_group n ≡ false → among n data_names ≡ true
      → here 2 ≡ tally_nodes (tally (held (join e (own_extent n (numbers_of n s) nowhere))) 2 (i + 1) m l) (sets t (i * 8) (record_of (at 2) p n s (tally nowhere 3 (i + 1) m l))) following
  unfolding tally_nodes enter_of level_in recorded leave_of written
  variable_tallied q d = rw (q, d, nothing_tallied nowhere (i + 1) m l t kids)

  -- An element that is no data element leaves nothing at level 2.
  pub other_tallied : is_group n ≡ false → among n data_names ≡ false → here 2 ≡ tally_nodes (at 2) t following
  unfolding tally_nodes enter_of level_in recorded leave_of written
  other_tallied q d = rw (q, d, nothing_tallied nowhere i m l t kids)

  -- A segment, at level 1, is left with its variables counted and its addresses looked at.
  pub segment_tallied : is_segment n ≡ true → (inside : Extent) (j : ℕ) (w : List ℤ)
      → tally_nodes (tally nowhere 2 (i + 1) m l) t kids ≡ tallied (tally inside 2 j m l) w
      → here 1 ≡ tally_nodes (tally e 1 j (min (m + inside.count) 1000001) (first_leaving (fits_at (numbers_of n s).origin inside) p l)) (sets w (i * 8) (record_of (at 1) p n s (tally inside 2 j m l))) following
  unfolding tally_nodes enter_of level_in recorded leave_of written
  segment_tallied q inside j w k = rw (q, k)

  -- An element that is no segment leaves nothing at level 1.
  pub aside_tallied : is_segment n ≡ false → here 1 ≡ tally_nodes (at 1) t following
  unfolding tally_nodes enter_of level_in recorded leave_of written
  aside_tallied q = rw (q, nothing_tallied nowhere i m l t kids)

  -- The root, at level 0, is left with what its content gave.
  pub root_tallied : (inside : Extent) (j k : ℕ) (f : Leaves) (w : List ℤ)
      → tally_nodes (tally nowhere 1 i m l) t kids ≡ tallied (tally inside 1 j k f) w
      → here 0 ≡ tallied (tally e 3 j k f) w
  unfolding tally_nodes enter_of level_in recorded leave_of written
  root_tallied inside j k f w h = rw h (nothing_tallied e j k f w following)
