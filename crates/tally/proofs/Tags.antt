-- The numbers of a tag without faults are those that the definitions read.
use mathlib.Core.Path.{◌≡◌, refl}
use mathlib.Core.List.{List, [], ◌∷◌}
use mathlib.Core.Bool.{Bool, true, false, cond}
use Prim.Native.Nat.{ℕ, ◌≤◌}
use native.Mathlib.Omega.{arith}
use borrow.Author.Tests.{le-leb, eqb-true, ne_eqb}
use lib.Dec.{eqb}
use lib.IntN.{pos}
use Rattle.cdi.specs.Lists.{ascii, between, any, all}
use Rattle.cdi.specs.Numbers.{within}
use Rattle.cdi.specs.Pieces.{Attribute}
use Rattle.cdi.specs.Tree.{Nodes}
use Rattle.cdi.specs.Rows.{row_of}
use Rattle.cdi.specs.Rules.{natural, rules_faults}
use Rattle.cdi.specs.Table.{same_number}
use Rattle.cdi.specs.Plans.{one_of, size_fits}
use Rattle.cdi.specs.Planning.{number_or, offset_of, variable_kind, variable_size, segment_of}
use Rattle.cdi.proofs.Tests.{both, both_left, both_right}
use Rattle.cdi.proofs.Quiet.{impossible, same_equal}
use Rattle.cdi.proofs.Ranges.{DataFits, natural_within, kind_least, segment_fits_law}
use Rattle.tally_tag.specs.Tallying.{from_to, numbers_of, is_group, is_segment}

-- a number in its range stays
stays : (lo hi d n : ℕ) → between lo hi n ≡ true → from_to lo hi d n ≡ n
unfolding from_to
stays lo hi d n h = rw h

in_between : (lo hi n : ℕ) → (lo ≤ n) × (n ≤ hi) → between lo hi n ≡ true
unfolding between
in_between lo hi n h = both (le-leb lo n h.0) (le-leb n hi h.1)

-- ── sizes ──

one_small : (ns : List ℕ) (n : ℕ) → all (between 1 65535) ns ≡ true → one_of ns (pos n) ≡ true → between 1 65535 n ≡ true
unfolding one_of any all same_number
one_small [] n a h = impossible (cc)
one_small (m ∷ ns) n a h = by (eqb n m) refl (one_small ns n (both_right (between 1 65535 m) _ a))
  where
    by : (b : Bool) → eqb n m ≡ b → (any (λ k. same_number (pos n) (pos k)) ns ≡ true → between 1 65535 n ≡ true) → between 1 65535 n ≡ true
    by true q others = rw (eqb-true n m q) (both_left _ _ a)
    by false q others = others (rw q at h)

size_small : (k n : ℕ) → 3 ≤ k → size_fits k (pos n) ≡ true → between 1 65535 n ≡ true
unfolding size_fits within between all
size_small k n l h = by (eqb k 2) (eqb k 3) (eqb k 4) (eqb k 5) (eqb k 6) (ne_eqb k 2 (λ e. omega arith)) h
  where
    by : (a b c d e : Bool) → a ≡ false
        → cond a (one_of (0 ∷ []) (pos n)) (cond b (one_of (1 ∷ 2 ∷ 4 ∷ 8 ∷ []) (pos n)) (cond c (within (pos 1) (pos 65535) (pos n)) (cond d (one_of (8 ∷ []) (pos n)) (cond e (one_of (2 ∷ 4 ∷ 8 ∷ []) (pos n)) false)))) ≡ true
        → between 1 65535 n ≡ true
    by true b c d e q z = impossible (cc)
    by false true c d e q z = one_small (1 ∷ 2 ∷ 4 ∷ 8 ∷ []) n refl z
    by false false true d e q z = z
    by false false false true e q z = one_small (8 ∷ []) n refl z
    by false false false false true q z = one_small (2 ∷ 4 ∷ 8 ∷ []) n refl z
    by false false false false false q z = impossible (cc)

-- ── data elements ──

module _ (n : List ℕ) (s : List Attribute) (h : DataFits n s) where
  -- The offset of a data element without faults is the one in its tag.
  pub offset_told : (numbers_of n s).offset ≡ offset_of s
  unfolding numbers_of
  offset_told = rw h.offset

  -- The size of a variable without faults is the one in its tag.
  pub size_told : is_group n ≡ false → (numbers_of n s).size ≡ variable_size n s
  unfolding numbers_of is_group
  size_told q = stays 1 65535 1 _ (size_small (variable_kind n) (variable_size n s) (kind_least n) (h.sized q))

  -- The replication of a group without faults is at least 1.
  pub replication_least : is_group n ≡ true → 1 ≤ natural (number_or (pos 1) (ascii "replication") s)
  unfolding is_group
  replication_least q = (natural_within 1 2147483647 _ (h.replication q)).0

  -- The replication of a group without faults is the one in its tag.
  pub replication_told : is_group n ≡ true → (numbers_of n s).replication ≡ natural (number_or (pos 1) (ascii "replication") s)
  unfolding numbers_of is_group
  replication_told q = stays 1 2147483647 1 _ (in_between _ _ _ (natural_within 1 2147483647 _ (h.replication q)))

-- ── segments ──

module _ (p : ℕ) (n : List ℕ) (s : List Attribute) (kids : Nodes) (q : is_segment n ≡ true) (h : rules_faults p (row_of n).attributes s ≡ []) where
  fits : ((segment_of p s kids).origin ≤ 2147483647) × ((segment_of p s kids).space ≤ 255)
  unfolding is_segment
  fits = segment_fits_law p s kids (rw (same_equal n (ascii "segment") q) at h)

  -- The origin of a segment without faults is at most 2^31 - 1.
  pub origin_most : (segment_of p s kids).origin ≤ 2147483647
  origin_most = fits.0

  -- The origin of a segment without faults is the one in its tag.
  pub origin_told : (numbers_of n s).origin ≡ (segment_of p s kids).origin
  unfolding numbers_of segment_of
  origin_told = stays 0 2147483647 0 _ (in_between _ _ _ (omega arith, fits.0))

  -- The space of a segment without faults is the one in its tag.
  pub space_told : (numbers_of n s).space ≡ (segment_of p s kids).space
  unfolding numbers_of segment_of
  space_told = stays 0 255 0 _ (in_between _ _ _ (omega arith, fits.1))
