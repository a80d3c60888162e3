-- What an extent says of its steps: the variables met, the change of the address, and exactly when the limits are kept.
use mathlib.Core.Path.{◌≡◌, refl, sym}
use mathlib.Core.List.{List, [], ◌∷◌}
use mathlib.Core.Bool.{Bool, true, false}
use Prim.Native.Nat.{ℕ, ◌+◌, ◌-◌, ◌^◌, ◌≤◌}
use native.Mathlib.Omega.{arith}
use borrow.Author.Tests.{le-leb, leb-true}
use lib.Dec.{leb}
use lib.IntN.{ℤ, pos, negsuc, ◌+ℤ◌}
use Rattle.cdi.specs.Lists.{all}
use Rattle.cdi.specs.Walk.{Step, moves, addresses, is_address, keeps, change, count}
use Rattle.cdi.specs.Walk.Step.{add, stand}
use Rattle.cdi.proofs.Tests.{parts, both, ends, in_range}
use Rattle.cdi.proofs.Signs.{up, down, sum, le_up, up_le, up_same}
use Rattle.extent.specs.Reach.{Sound, nowhere, by_offset, by_size, by_step, join, extent_of, fits_at, reach_page}
use Rattle.extent.specs.declared.Extent.{Extent}
use Rattle.extent.proofs.Joins.{step_sound, extent_sound}

-- ── count ──

pub extent_count : (s : List Step) → (extent_of s).count ≡ count s
unfolding count reach_page
extent_count [] = refl
extent_count (add (pos n) ∷ s) = omega (arith, extent_count s)
extent_count (add (negsuc n) ∷ s) = omega (arith, extent_count s)
extent_count (stand k i n ∷ s) = omega (arith, extent_count s)

-- ── change ──

-- z is the change of the address over e
abbrev pub Moves : ℤ → Extent → Type 0
Moves z e = up z + e.below ≡ down z + e.ends

pub offset_moves : (o : ℤ) → Moves o (by_offset o)
unfolding up down by_offset
offset_moves (pos n) = omega arith
offset_moves (negsuc n) = omega arith

step_moves : (s : Step) → Moves (moves s) (by_step s)
unfolding moves by_step by_size up down
step_moves (add o) = offset_moves o
step_moves (stand k i n) = omega arith

join_moves : (y z : ℤ) (p q : Extent) → Moves y p → Moves z q → Moves (y +ℤ z) (join p q)
unfolding join
join_moves y z p q h k = omega (arith, sum y z)

pub extent_change : (s : List Step) → Moves (change s) (extent_of s)
unfolding up down change extent_of nowhere
extent_change [] = refl
extent_change (x ∷ s) = join_moves (moves x) (change s) (by_step x) (extent_of s) (step_moves x) (extent_change s)

-- a change is told by an extent alone
pub one_change : (y z : ℤ) (e : Extent) → Moves y e → Moves z e → y ≡ z
one_change y z e h k = up_same y z (omega arith)

-- ── limits ──

pub record Fits (n : ℕ) (e : Extent) : Type 0 where
  pub low : e.below ≤ n
  pub high : n + e.span ≤ 2 ^ 32 + e.below

pub fits_of : (n : ℕ) (e : Extent) → fits_at n e ≡ true → Fits n e
unfolding fits_at
fits_of n e h =
    let p = parts (leb e.below n) (leb (n + e.span) (2 ^ 32 + e.below)) h in
    record { low = leb-true _ _ p.0; high = leb-true _ _ p.1 }

pub of_fits : (n : ℕ) (e : Extent) → Fits n e → fits_at n e ≡ true
unfolding fits_at
of_fits n e h = both (le-leb _ _ h.low) (le-leb _ _ h.high)

-- tests that pass together
pub iff : (a b : Bool) → (a ≡ true → b ≡ true) → (b ≡ true → a ≡ true) → a ≡ b
iff true b f g = sym (f refl)
iff false true f g = g refl
iff false false f g = refl

-- the address behind a stretch that starts at n
abbrev pub past : ℕ → Extent → ℕ
past n e = n + e.ends - e.below

module _ (n : ℕ) (p q : Extent) (h : Sound p) (k : Sound q) where
  pub join_first : Fits n (join p q) → Fits n p
  unfolding join
  join_first f = record { low = omega arith; high = omega arith }

  pub join_second : Fits n (join p q) → Fits (past n p) q
  unfolding join
  join_second f = record { low = omega arith; high = omega arith }

  pub join_fits : Fits n p → Fits (past n p) q → Fits n (join p q)
  unfolding join
  join_fits f g = record { low = omega arith; high = omega arith }

-- where a change takes an address
pub arrives : (n : ℕ) (z : ℤ) (e : Extent) → Moves z e → e.below ≤ n → pos n +ℤ z ≡ pos (past n e)
unfolding up down
arrives n z e m h = up_same (pos n +ℤ z) (pos (past n e)) (omega (arith, sum (pos n) z))

-- an address, as `omega` reads it
address_up : (a : ℤ) → is_address a ≡ true → (down a ≤ up a) × (up a ≤ 2 ^ 32 + down a)
unfolding is_address up down
address_up a h =
    let p = ends (pos 0) (pos (2 ^ 32)) a h in
    (omega (arith, le_up (pos 0) a p.0), omega (arith, le_up a (pos (2 ^ 32)) p.1))

up_address : (a : ℤ) → down a ≤ up a → up a ≤ 2 ^ 32 + down a → is_address a ≡ true
unfolding is_address up down
up_address a l h = in_range (pos 0) (pos (2 ^ 32)) a (up_le (pos 0) a (omega arith)) (up_le a (pos (2 ^ 32)) (omega arith))

module _ (n : ℕ) (b : n ≤ 2 ^ 32) where
  step_in : (s : Step) → is_address (pos n +ℤ moves s) ≡ true → Fits n (by_step s)
  unfolding up down moves by_step by_offset by_size
  step_in (add (pos o)) t = let f = address_up (pos n +ℤ pos o) t in record { low = omega arith; high = omega (arith, sum (pos n) (pos o), f) }
  step_in (add (negsuc o)) t = let f = address_up (pos n +ℤ negsuc o) t in record { low = omega (arith, sum (pos n) (negsuc o), f); high = omega arith }
  step_in (stand k i o) t = let f = address_up (pos n +ℤ pos o) t in record { low = omega arith; high = omega (arith, sum (pos n) (pos o), f) }

  in_step : (s : Step) → Fits n (by_step s) → is_address (pos n +ℤ moves s) ≡ true
  unfolding up down moves by_step by_offset by_size
  in_step (add (pos o)) f = up_address (pos n +ℤ pos o) (omega (arith, sum (pos n) (pos o))) (omega (arith, sum (pos n) (pos o)))
  in_step (add (negsuc o)) f = up_address (pos n +ℤ negsuc o) (omega (arith, sum (pos n) (negsuc o))) (omega (arith, sum (pos n) (negsuc o)))
  in_step (stand k i o) f = up_address (pos n +ℤ pos o) (omega (arith, sum (pos n) (pos o))) (omega (arith, sum (pos n) (pos o)))

  -- after a step that keeps the limits
  reached : (s : Step) → Fits n (by_step s) → (pos n +ℤ moves s ≡ pos (past n (by_step s))) × (past n (by_step s) ≤ 2 ^ 32)
  reached s f = (arrives n (moves s) (by_step s) (step_moves s) f.low, omega (arith, step_sound s))

-- steps that keep the limits have an extent that fits
kept_fits : (n : ℕ) → n ≤ 2 ^ 32 → (s : List Step) → keeps (pos n) s ≡ true → Fits n (extent_of s)
unfolding keeps addresses all extent_of nowhere
kept_fits n b [] h = record { low = omega arith; high = omega arith }
kept_fits n b (x ∷ s) h =
    let p = parts (is_address (pos n +ℤ moves x)) (all is_address (addresses (pos n +ℤ moves x) s)) h in
    let f = step_in n b x p.0 in
    let r = reached n b x f in
    join_fits n (by_step x) (extent_of s) (step_sound x) (extent_sound s) f
    (kept_fits (past n (by_step x)) r.1 s (rw r.0 at p.1))

-- and the other way round
fits_kept : (n : ℕ) → n ≤ 2 ^ 32 → (s : List Step) → Fits n (extent_of s) → keeps (pos n) s ≡ true
unfolding keeps addresses all extent_of
fits_kept n b [] f = refl
fits_kept n b (x ∷ s) f =
    let g = join_first n (by_step x) (extent_of s) (step_sound x) (extent_sound s) f in
    let r = reached n b x g in
    both (in_step n b x g)
    (rw r.0 (fits_kept (past n (by_step x)) r.1 s (join_second n (by_step x) (extent_of s) (step_sound x) (extent_sound s) f)))

-- The address stays from 0 to 2^32 exactly if the extent fits at the origin.
pub extent_keeps : (n : ℕ) → n ≤ 2 ^ 32 → (s : List Step) → keeps (pos n) s ≡ fits_at n (extent_of s)
extent_keeps n b s =
    iff (keeps (pos n) s) (fits_at n (extent_of s))
    (λ h. of_fits n (extent_of s) (kept_fits n b s h))
    (λ h. fits_kept n b s (fits_of n (extent_of s) h))
