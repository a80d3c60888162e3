-- Stretches that are neither too wide nor too long: so are their parts, and what is held of them tells their count and change.
use mathlib.Core.Path.{◌≡◌, sym, ◌∙◌}
use mathlib.Core.List.{List, ◌++◌}
use mathlib.Core.Bool.{true}
use Prim.Native.Nat.{ℕ, zero, suc, ◌+◌, ◌^◌, ◌≤◌, min}
use native.Mathlib.Omega.{arith}
use lib.IntN.{ℤ, pos, neg_ℤ, ◌-ℤ◌}
use Rattle.cdi.specs.Walk.{Step, copies, count, change, keeps}
use Rattle.cdi.proofs.Walked.{count_append}
use Rattle.cdi.proofs.Signs.{up, down, sum, up_negative, down_negative, up_same}
use Rattle.extent.specs.Reach.{join, extent_of, held}
use Rattle.extent.specs.declared.Extent.{Extent}
use Rattle.extent.proofs.Joins.{extent_append}
use Rattle.extent.proofs.Reached.{extent_count, extent_change, extent_keeps, fits_of}
use Rattle.extent.proofs.Holding.{plain_held}
use Rattle.tally_tag.specs.Tallying.{change_of}

-- a stretch of which everything is held
pub record Plain (s : List Step) : Type 0 where
  pub spans : (extent_of s).span ≤ 2 ^ 32
  pub counts : count s ≤ 1000000

-- ── parts ──

module _ (s t : List Step) (h : Plain (s ++ t)) where
  -- What comes first in a plain stretch is plain.
  pub plain_first : Plain s
  unfolding join
  plain_first = record { spans = omega (arith, rw (extent_append s t) at h.spans); counts = omega (arith, count_append s t, h.counts) }

  -- What comes second in a plain stretch is plain.
  pub plain_second : Plain t
  unfolding join
  plain_second = record { spans = omega (arith, rw (extent_append s t) at h.spans); counts = omega (arith, count_append s t, h.counts) }

-- One copy of a plain stretch is plain.
pub plain_copy : (r : ℕ) (s : List Step) → 1 ≤ r → Plain (copies r s) → Plain s
unfolding copies
plain_copy zero s l h = absurd (omega arith)
plain_copy (suc r) s l h = plain_first s (copies r s) h

-- A stretch that keeps the limits is not too wide.
pub kept_spans : (n : ℕ) (s : List Step) → n ≤ 2 ^ 32 → keeps (pos n) s ≡ true → (extent_of s).span ≤ 2 ^ 32
kept_spans n s b k = let f = fits_of n (extent_of s) (sym (extent_keeps n b s) ∙ k) in omega (arith, f)

-- ── what is held ──

-- The count that is held of a stretch that is not too wide is its own, up to 1,000,001.
pub count_held : (s : List Step) → (extent_of s).span ≤ 2 ^ 32 → (held (extent_of s)).count ≡ min (count s) 1000001
count_held s h = rw (plain_held (extent_of s) h, extent_count s)

-- The count that is held of a plain stretch is its own.
pub count_told : (s : List Step) → Plain s → (held (extent_of s)).count ≡ count s
count_told s h = count_held s h.spans ∙ omega (arith, h.counts)

-- The change that is held of a plain stretch is its own.
pub change_told : (s : List Step) → Plain s → change_of (held (extent_of s)) ≡ change s
unfolding change_of up down
change_told s h = rw (plain_held (extent_of s) h.spans) (told (extent_of s) (change s) (extent_change s))
  where
    told : (e : Extent) (z : ℤ) → up z + e.below ≡ down z + e.ends → pos e.ends -ℤ pos e.below ≡ z
    told e z m =
        up_same (pos e.ends -ℤ pos e.below) z
        (omega (arith, sum (pos e.ends) (neg_ℤ (pos e.below)), up_negative e.below, down_negative e.below))
