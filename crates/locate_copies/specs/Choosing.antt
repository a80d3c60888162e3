-- The copies of a group: where each starts, and which one holds a variable.
use Rattle.std.specs.Prelude.{List, cond, ℕ, ◌+◌, ◌-◌, ◌*◌, ◌/◌, ◌%◌, ◌^◌, ◌≤◌, ◌<◌, leb, ℤ, neg_ℤ}
use Rattle.cdi.specs.Rules.{natural}
use Rattle.cdi.specs.Plans.{field, replication_of}
use Rattle.locate_copies.specs.declared.Copied.{Copied}

-- an address changed by field f of record i
unfoldable pub moved_by : List ℤ → ℕ → ℕ → ℕ → ℕ
moved_by t i f a = a + natural (field t i f) - natural (neg_ℤ (field t i f))

-- the change of group i less its own offset, in two parts: what all copies rise by, and what they fall by
unfoldable pub all_rise : List ℤ → ℕ → ℕ
all_rise t i = natural (field t i 7) + natural (neg_ℤ (field t i 2))

unfoldable pub all_fall : List ℤ → ℕ → ℕ
all_fall t i = natural (neg_ℤ (field t i 7)) + natural (field t i 2)

-- the variables of one copy
unfoldable pub each_of : List ℤ → ℕ → ℕ
each_of t i = natural (field t i 6) / replication_of t i

-- where copy q starts, if the first starts at a
unfoldable pub copy_at : List ℤ → ℕ → ℕ → ℕ → ℕ
copy_at t i a q =
    cond (leb (all_fall t i) (all_rise t i))
    (a + q * ((all_rise t i - all_fall t i) / replication_of t i))
    (a - q * ((all_fall t i - all_rise t i) / replication_of t i))

-- the copy that holds variable n of all copies
unfoldable pub copy_of : List ℤ → ℕ → ℕ → ℕ → Copied
copy_of t i a n = record { start = copy_at t i a (n / each_of t i); number = n % each_of t i }

-- there is such a copy, and no number on the way to it is too large
pub record Chosen (t : List ℤ) (i a n : ℕ) : Type 0 where
  pub within : n < natural (field t i 6)
  pub some : 1 ≤ replication_of t i
  pub each : 1 ≤ each_of t i
  pub high : a + n / each_of t i * ((all_rise t i - all_fall t i) / replication_of t i) ≤ 2 ^ 32
  pub rises : all_rise t i ≤ 2 ^ 33
  pub falls : all_fall t i ≤ 2 ^ 33
  pub low : n / each_of t i * ((all_fall t i - all_rise t i) / replication_of t i) ≤ a
