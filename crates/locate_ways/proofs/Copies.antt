-- One copy of a group, by the extent of its members: where it starts, that it keeps the limits, and that the code's division finds it.
use mathlib.Core.Path.{◌≡◌, sym, ap, ◌∙◌}
use mathlib.Core.Bool.{cond}
use Prim.Native.Nat.{ℕ, zero, suc, pred, ◌+◌, ◌-◌, ◌*◌, ◌/◌, ◌^◌, ◌≤◌, ◌<◌}
use native.Mathlib.Omega.{arith}
use native.Mathlib.Decide.{dec_lt}
use native.Mathlib.Nat.{mul-le-mul_right, mul-zero, mul-div_cancel_left, mul-add, mul-sub, zero-div}
use borrow.Author.Tests.{le-leb, lt-leb}
use lib.Dec.{leb}
use lib.IntN.{ℤ, pos, neg_ℤ, ◌+ℤ◌, ◌*ℤ◌}
use Rattle.cdi.specs.Rules.{natural}
use Rattle.cdi.proofs.Signs.{up, down, sum, up_times, down_times, up_same}
use Rattle.cdi.proofs.Walked.{copy_start}
use Rattle.extent.specs.Reach.{Sound, by_offset, join, repeat}
use Rattle.extent.specs.declared.Extent.{Extent}
use Rattle.extent.proofs.Signed.{rise_up, fall_down}
use Rattle.extent.proofs.Reached.{Fits, Moves}
use Rattle.extent.proofs.Holding.{by_offset_law}

-- where copy q of a stretch starts, if the first starts at a
unfoldable pub starts_at : ℕ → Extent → ℕ → ℕ
starts_at a e q = a + q * (e.ends - e.below) - q * (e.below - e.ends)

-- ── numbers alone ──

-- a copy lies between the first and the last; b, s: the members' start and span; u, d: what this copy has risen and fallen by, U, D: the last
between : (a b s u d U D : ℕ) → b ≤ s → u ≤ U → d ≤ D → b + D ≤ a → a + (s + (D + U)) ≤ 2 ^ 32 + (b + D)
    → (b ≤ a + u - d) × (a + u - d + s ≤ 2 ^ 32 + b) × (a + u ≤ 2 ^ 32) × (d ≤ a)
between a b s u d U D v x y z w = (omega arith, omega arith, omega arith, omega arith)

arrival : (U D a u d b e x y : ℕ) → U + d ≡ D + (a + u) → u + b ≡ d + e → e + y ≡ b + x → y ≤ a + x → U + 0 ≡ (a + x - y) + D
arrival U D a u d b e x y p q r s = omega arith

-- times what one copy changes, either way round
changes : (q b e : ℕ) → q * (b - e) + q * e ≡ q * (e - b) + q * b
changes q b e = sym (mul-add q (b - e) e) ∙ ap (λ (x : ℕ). q * x) (omega arith) ∙ mul-add q (e - b) b

-- ── a copy that keeps the limits with the others ──

module _ (a r q : ℕ) (e : Extent) (h : Sound e) (f : Fits a (repeat r e)) (l : q < r) where
  all : (e.below ≤ starts_at a e q) × (starts_at a e q + e.span ≤ 2 ^ 32 + e.below) × (a + q * (e.ends - e.below) ≤ 2 ^ 32) × (q * (e.below - e.ends) ≤ a)
  unfolding repeat starts_at
  all =
      between a e.below e.span (q * (e.ends - e.below)) (q * (e.below - e.ends)) (pred r * (e.ends - e.below)) (pred r * (e.below - e.ends))
      h.start (mul-le-mul_right (e.ends - e.below) (omega arith)) (mul-le-mul_right (e.below - e.ends) (omega arith)) f.low f.high

  pub copy_fits : Fits (starts_at a e q) e
  copy_fits = record { low = all.0; high = all.1 }

  pub copy_high : a + q * (e.ends - e.below) ≤ 2 ^ 32
  copy_high = all.2

  pub copy_low : q * (e.below - e.ends) ≤ a
  copy_low = all.3

  -- it starts where the walk has it
  pub copy_starts : (z : ℤ) → Moves z e → copy_start (pos a) z q ≡ pos (starts_at a e q)
  unfolding copy_start starts_at up down
  copy_starts z m =
      up_same (pos a +ℤ pos q *ℤ z) (pos (starts_at a e q))
      (arrival (up (pos a +ℤ pos q *ℤ z)) (down (pos a +ℤ pos q *ℤ z)) a (q * up z) (q * down z) (q * e.below) (q * e.ends) (q * (e.ends - e.below)) (q * (e.below - e.ends))
      (omega (arith, sum (pos a) (pos q *ℤ z), up_times q z, down_times q z))
      (sym (mul-add q (up z) e.below) ∙ ap (λ (x : ℕ). q * x) m ∙ mul-add q (down z) e.ends)
      (omega (arith, changes q e.below e.ends))
      (omega (arith, copy_low)))

-- ── by the numbers of the group's record ──

-- the offset taken off
apart : (x y U D B T : ℕ) → x + (D + (B - U)) ≡ y + (T + (U - B)) → (x + D) + B ≡ (y + U) + T
apart x y U D B T h = omega arith

together : (P F b e X Y x y : ℕ) → P + (b + X) ≡ F + (e + Y) → X + x ≡ Y + y → P + (b + y) ≡ F + (e + x)
together P F b e X Y x y h k = omega arith

-- c is the group's change, o its offset
module _ (c o : ℤ) (r : ℕ) (e : Extent) (one : 1 ≤ r) (h : Moves c (join (by_offset o) (repeat r e))) where
  abbrev rise : ℕ
  rise = natural c + natural (neg_ℤ o)

  abbrev fall : ℕ
  fall = natural (neg_ℤ c) + natural o

  spread : natural c + (natural (neg_ℤ o) + ((e.below + pred r * (e.below - e.ends)) - natural o))
      ≡ natural (neg_ℤ c) + ((e.ends + pred r * (e.ends - e.below)) + (natural o - (e.below + pred r * (e.below - e.ends))))
  unfolding join repeat
  spread = omega (arith, rise_up c, fall_down c, rw (← (by_offset_law o)) at h)

  copies_change : rise + r * e.below ≡ fall + r * e.ends
  copies_change = by r one spread
    where
      by : (r : ℕ) → 1 ≤ r
          → natural c + (natural (neg_ℤ o) + ((e.below + pred r * (e.below - e.ends)) - natural o))
          ≡ natural (neg_ℤ c) + ((e.ends + pred r * (e.ends - e.below)) + (natural o - (e.below + pred r * (e.below - e.ends))))
          → rise + r * e.below ≡ fall + r * e.ends
      by zero k g = absurd (omega arith)
      by (suc m) k g =
          omega (
            arith,
            together (natural c + natural (neg_ℤ o)) (natural (neg_ℤ c) + natural o) e.below e.ends (m * (e.below - e.ends)) (m * (e.ends - e.below)) (m * e.ends) (m * e.below)
                (apart (natural c) (natural (neg_ℤ c)) (natural o) (natural (neg_ℤ o)) (e.below + m * (e.below - e.ends)) (e.ends + m * (e.ends - e.below)) g)
                (changes m e.below e.ends),
          )

  -- one copy's share
  pub share_up : (rise - fall) / r ≡ e.ends - e.below
  share_up = ap (λ (x : ℕ). x / r) (omega (arith, copies_change, mul-sub r e.ends e.below)) ∙ mul-div_cancel_left (e.ends - e.below) {n = r} one

  pub share_down : (fall - rise) / r ≡ e.below - e.ends
  share_down = ap (λ (x : ℕ). x / r) (omega (arith, copies_change, mul-sub r e.below e.ends)) ∙ mul-div_cancel_left (e.below - e.ends) {n = r} one

  -- the code's way to a copy
  pub same_start : (a q : ℕ) → cond (leb fall rise) (a + q * ((rise - fall) / r)) (a - q * ((fall - rise) / r)) ≡ starts_at a e q
  unfolding starts_at
  same_start a q = by (dec_lt rise fall)
    where
      none : (x y : ℕ) → x ≡ 0 → x / r ≡ y → q * y ≡ 0
      none x y z w = ap (λ (n : ℕ). q * n) (sym w ∙ ap (λ (n : ℕ). n / r) z ∙ zero-div r) ∙ mul-zero q

      by : Dec (rise < fall) → cond (leb fall rise) (a + q * ((rise - fall) / r)) (a - q * ((fall - rise) / r)) ≡ a + q * (e.ends - e.below) - q * (e.below - e.ends)
      by (yes l) = rw (lt-leb fall rise l, share_down) (omega (arith, none (rise - fall) (e.ends - e.below) (omega arith) share_up))
      by (no l) = rw (le-leb fall rise (omega arith), share_up) (omega (arith, none (fall - rise) (e.below - e.ends) (omega arith) share_down))
