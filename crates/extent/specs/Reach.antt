-- What a stretch of the walk reaches, as heights above its lowest address: the one it starts at counts as reached.
use Rattle.std.specs.Prelude.{List, [], ◌∷◌, Bool, cond, ◌&&◌, ℕ, suc, pred, ◌+◌, ◌*◌, ◌-◌, ◌^◌, ◌≤◌, min, max, leb, ltb, ℤ, pos, negsuc}
use Rattle.cdi.specs.Walk.{Step}
use Rattle.cdi.specs.Walk.Step.{add, stand}
use Rattle.extent.specs.declared.Extent.{Extent}

-- the variables met; the height of the start, of the end and of the highest address
abbrev pub extent : ℕ → ℕ → ℕ → ℕ → Extent
extent c b e s = record { count = c; below = b; ends = e; span = s }

-- no step is taken
unfoldable pub nowhere : Extent
nowhere = extent 0 0 0 0

-- an offset is added: upwards from the lowest address, or down to it
unfoldable pub by_offset : ℤ → Extent
by_offset (pos n) = extent 0 0 n n
by_offset (negsuc n) = extent 0 (suc n) 0 (suc n)

-- a variable stands, and its size is added
unfoldable pub by_size : ℕ → Extent
by_size n = extent 1 0 n n

unfoldable pub by_step : Step → Extent
by_step (add o) = by_offset o
by_step (stand k i n) = by_size n

-- one stretch after another. The first is lifted by what the second goes below it, or the second by what it stays above
unfoldable pub join : Extent → Extent → Extent
join p q =
    let first = q.below - p.ends in
    let second = p.ends - q.below in
    extent (p.count + q.count) (p.below + first) (q.ends + second) (max (p.span + first) (q.span + second))

-- r copies, at least one: each after the first goes on by what one copy changes
unfoldable pub repeat : ℕ → Extent → Extent
repeat r e =
    let falls = pred r * (e.below - e.ends) in
    let rises = pred r * (e.ends - e.below) in
    extent (r * e.count) (e.below + falls) (e.ends + rises) (e.span + (falls + rises))

-- the extent of steps, one after another
unfoldable pub extent_of : List Step → Extent
extent_of [] = nowhere
extent_of (s ∷ ss) = join (by_step s) (extent_of ss)

-- started at n, every address lies from 0 to 2^32
unfoldable pub fits_at : ℕ → Extent → Bool
fits_at n e = leb e.below n && leb (n + e.span) (2 ^ 32 + e.below)

-- fits no start
unfoldable pub too_wide : Extent
too_wide = extent 0 0 0 (2 ^ 32 + 1)

-- what the code holds of an extent: 1,000,001 for "too many", and one value for all that is too wide
unfoldable pub held : Extent → Extent
held e = cond (ltb (2 ^ 32) e.span) too_wide (extent (min e.count 1000001) e.below e.ends e.span)

-- no height is above the highest
pub record Sound (e : Extent) : Type 0 where
  pub start : e.below ≤ e.span
  pub finish : e.ends ≤ e.span

-- and the numbers are those that the code holds
pub record Small (e : Extent) : Type 0 where
  pub start : e.below ≤ e.span
  pub finish : e.ends ≤ e.span
  pub spans : e.span ≤ 2 ^ 32 + 1
  pub counts : e.count ≤ 1000001

unfoldable pub reach_page : Unit {0}
unfolding nowhere by_offset by_size by_step join repeat extent_of fits_at too_wide held
reach_page = tt
