-- The words of the code that sums up a table's records as extents.
use Rattle.std.specs.Prelude.{List, Bool, Option, Some, None, cond, ◌&&◌, ℕ, ◌+◌, ◌^◌, eqb, leb, ℤ, pos, neg_ℤ}
use Rattle.cdi.specs.Rules.{natural}
use Rattle.cdi.specs.Table.{same_number}
use Rattle.cdi.specs.Plans.{field, kind_of, extra_of, replication_of}
use Rattle.extent.specs.Reach.{by_offset, by_size, join, repeat}
use Rattle.extent.specs.declared.Extent.{Extent}

-- the limits of addresses, from some start, and of variables
unfoldable pub limited : Extent → Bool
limited e = leb e.span (2 ^ 32) && leb e.count 1000000

-- the last two fields of record i are what the extent says: the change is `ends - below`
unfoldable pub tells : List ℤ → ℕ → Extent → Bool
tells t i e = same_number (field t i 6) (pos e.count) && eqb (natural (field t i 7) + e.below) (natural (neg_ℤ (field t i 7)) + e.ends)

-- the element of record i, whose members have extent m
unfoldable pub element_extent : List ℤ → ℕ → Extent → Extent
element_extent t i m = join (by_offset (field t i 2)) (cond (eqb (kind_of t i) 2) (repeat (replication_of t i) m) (by_size (extra_of t i)))

-- what stands before record i, and its element
unfoldable pub added_of : List ℤ → ℕ → Extent → Extent → Option Extent
added_of t i m before =
    let own = element_extent t i m in
    let whole = join before own in
    cond (limited own && (tells t i own && limited whole)) (Some whole) None
