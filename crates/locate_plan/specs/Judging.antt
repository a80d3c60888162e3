-- The words of the plan test's code, which goes by extents where the definition of a plan copies groups out.
use Rattle.std.specs.Prelude.{List, Bool, Option, Some, None, cond, ◌&&◌, ℕ, ◌-◌, leb, ℤ}
use Rattle.cdi.specs.Rules.{natural}
use Rattle.cdi.specs.Walk.{steps, total}
use Rattle.cdi.specs.Plans.{field, items_in, segments_from, items_good, segments_good}
use Rattle.extent.specs.Reach.{extent_of, fits_at}
use Rattle.extent.specs.declared.Extent.{Extent}
use Rattle.locate_sums.specs.Sums.{limited, tells}

unfoldable pub judged : Bool → Extent → Option Extent
judged good e = cond (good && limited e) (Some e) None

-- the records from i to before e
abbrev pub good_in : List ℤ → ℕ → ℕ → ℕ → Bool
good_in t d i e = items_good t (e - i) d i e

unfoldable pub items_extent : List ℤ → ℕ → ℕ → Extent
items_extent t i e = extent_of (steps i (items_in t i e))

unfoldable pub tested_of : List ℤ → ℕ → ℕ → ℕ → Option Extent
tested_of t d i e = judged (good_in t d i e) (items_extent t i e)

-- a segment whose members have extent e
unfoldable pub segment_tells : List ℤ → ℕ → Extent → Bool
segment_tells t i e = tells t i e && fits_at (natural (field t i 2)) e

-- the first n records are segments of a plan
unfoldable pub planned_of : List ℤ → ℕ → Bool
planned_of t n = segments_good t n 0 n && leb (total (segments_from t n 0 n)) 1000000
