-- The numbers of one copy, as the code makes them.
use mathlib.Core.Path.{◌≡◌, refl, sym, ap, ◌∙◌}
use mathlib.Core.List.{List}
use mathlib.Core.Bool.{Bool, true, false, cond}
use Prim.Native.Nat.{ℕ, zero, suc, ◌+◌, ◌-◌, ◌*◌, ◌/◌, ◌%◌, ◌^◌, ◌≤◌, ◌<◌}
use native.Mathlib.Omega.{arith}
use native.Mathlib.Nat.{div-one, div-eq_of_lt, mod-eq_of_lt}
use borrow.Author.Rules.{rules}
use borrow.Author.Tests.{le-leb, lt-leb}
use lib.Dec.{T, leb}
use lib.IntN.{ℤ, pos, negsuc, neg_ℤ, nat_abs, ◌+ℤ◌, ◌-ℤ◌}
use lib.Signed.{non_neg}
use mir.Syntax.{w64}
use mir.Val.{SFits, Fits, to_z}
use mir.ValLaws.{to_z_pos}
use Rattle.cdi.specs.Rules.{natural}
use Rattle.cdi.specs.Plans.{field}
use Rattle.cdi.proofs.Signs.{up, down, sum, up_same}
use Rattle.extent.proofs.Signed.{read, read_is, rise_up, fall_down}
use Rattle.locate_copies.specs.Choosing.{moved_by, all_rise, all_fall, each_of, copy_at, copy_of, Chosen}
use Rattle.locate_copies.specs.declared.Copied.{Copied}
use Rattle.locate_rows.proofs.Numbers.{some_raised}

-- a number that takes away adds nothing
pub one_sided : (z : ℤ) → 0 < natural (neg_ℤ z) → natural z ≡ 0
unfolding natural
one_sided (pos zero) h = refl
one_sided (pos (suc n)) h = absurd (omega arith)
one_sided (negsuc n) h = refl

-- an address and a signed number are one address
stands : (a : ℕ) (z : ℤ) → natural (neg_ℤ z) ≤ a → pos a +ℤ z ≡ pos (a + natural z - natural (neg_ℤ z))
unfolding up down
stands a z h = up_same (pos a +ℤ z) (pos (a + natural z - natural (neg_ℤ z))) (omega (arith, sum (pos a) z, rise_up z, fall_down z))

module _ (t : List ℤ) (i f a : ℕ) {z : ℤ} (g : SFits w64 z) (e : z ≡ field t i f) (b : a ≤ 2 ^ 32) (l : natural (neg_ℤ (field t i f)) ≤ a) (u : natural (field t i f) ≤ 2 ^ 32) where
  small : moved_by t i f a < 2 ^ 63
  unfolding moved_by
  small = omega arith

  sum_is : to_z w64 a +ℤ read z ≡ pos (moved_by t i f a)
  unfolding moved_by
  sum_is = rw (to_z_pos w64 a (omega arith), read_is z g, e) (stands a (field t i f) l)

  pub moved_fits : SFits w64 (to_z w64 a +ℤ read z)
  moved_fits = rw sum_is (record { sfits = small })

  sum_read : read (to_z w64 a +ℤ read z) ≡ pos (moved_by t i f a)
  sum_read = read_is (to_z w64 a +ℤ read z) moved_fits ∙ sum_is

  pub moved_sign : T (non_neg (read (to_z w64 a +ℤ read z)))
  moved_sign = rw sum_read tt

  pub moved_size : Fits w64 (nat_abs (read (to_z w64 a +ℤ read z)))
  moved_size = rw sum_read (record { fits = omega (arith, small) })

  pub moved_is : nat_abs (read (to_z w64 a +ℤ read z)) ≡ moved_by t i f a
  moved_is = ap nat_abs sum_read

pub ruleset moving = (moved_fits, moved_sign, moved_size, moved_is, rules)

-- ── a change less an offset ──

-- what a number is up and down, from an equation of both
parted_up : (z : ℤ) (r f : ℕ) → up z + f ≡ down z + r → natural z ≡ r - f
unfolding natural up down
parted_up (pos n) r f h = omega arith
parted_up (negsuc n) r f h = omega arith

parted_down : (z : ℤ) (r f : ℕ) → up z + f ≡ down z + r → natural (neg_ℤ z) ≡ f - r
unfolding natural up down
parted_down (pos zero) r f h = omega arith
parted_down (pos (suc n)) r f h = omega arith
parted_down (negsuc n) r f h = omega arith

turned : (z : ℤ) → down (neg_ℤ z) ≡ up z
unfolding up down
turned (pos zero) = refl
turned (pos (suc n)) = refl
turned (negsuc n) = refl

fits_by : (z : ℤ) → natural z ≤ 2 ^ 33 → natural (neg_ℤ z) ≤ 2 ^ 33 → SFits w64 z
unfolding natural
fits_by (pos n) h k = record { sfits = omega arith }
fits_by (negsuc n) h k = record { sfits = omega arith }

module _ (t : List ℤ) (i : ℕ) where
  all_parts : up (field t i 7 -ℤ field t i 2) + all_fall t i ≡ down (field t i 7 -ℤ field t i 2) + all_rise t i
  unfolding all_rise all_fall
  all_parts =
      let c = field t i 7 in
      let o = field t i 2 in
      omega (arith, sum c (neg_ℤ o), turned o, rise_up (neg_ℤ o), rise_up c, rise_up o, fall_down c, fall_down o)

  all_up : natural (field t i 7 -ℤ field t i 2) ≡ all_rise t i - all_fall t i
  all_up = parted_up (field t i 7 -ℤ field t i 2) (all_rise t i) (all_fall t i) all_parts

  all_down : natural (neg_ℤ (field t i 7 -ℤ field t i 2)) ≡ all_fall t i - all_rise t i
  all_down = parted_down (field t i 7 -ℤ field t i 2) (all_rise t i) (all_fall t i) all_parts

  module _ {y z : ℤ} (fy : SFits w64 y) (fz : SFits w64 z) (ey : y ≡ field t i 7) (ez : z ≡ field t i 2) (hr : all_rise t i ≤ 2 ^ 33) (hf : all_fall t i ≤ 2 ^ 33) where
    pub all_fits : SFits w64 (read y -ℤ read z)
    all_fits = rw (read_is y fy, read_is z fz, ey, ez) (fits_by (field t i 7 -ℤ field t i 2) (omega (arith, all_up)) (omega (arith, all_down)))

    pub all_is : read (read y -ℤ read z) ≡ field t i 7 -ℤ field t i 2
    all_is = read_is (read y -ℤ read z) all_fits ∙ rw (read_is y fy, read_is z fz, ey, ez)

pub ruleset changing = (all_fits, all_is, rules)

pub each_is : (t : List ℤ) (i : ℕ) {c r : ℕ} → c ≡ natural (field t i 6) → r ≡ natural (field t i 4) → c / r ≡ each_of t i
unfolding each_of
each_is t i p q = rw (p, q)

module _ (t : List ℤ) (i a q : ℕ) {z : ℤ} (fz : SFits w64 z) (ez : z ≡ field t i 7 -ℤ field t i 2) {u d r : ℕ}
    (hu : u ≡ natural (read z)) (hd : d ≡ natural (neg_ℤ (read z))) (er : r ≡ natural (field t i 4)) where
  eu : u ≡ all_rise t i - all_fall t i
  eu = hu ∙ rw (read_is z fz, ez) (all_up t i)

  ed : d ≡ all_fall t i - all_rise t i
  ed = hd ∙ rw (read_is z fz, ez) (all_down t i)

  pub copy_up : d ≡ 0 → a + q * (u / r) ≡ copy_at t i a q
  unfolding copy_at
  copy_up h = sym (rw (le-leb (all_fall t i) (all_rise t i) (omega (arith, ed)), ← eu, ← er))

  pub copy_down : (d ≡ 0 → ⊥) → a - q * (d / r) ≡ copy_at t i a q
  unfolding copy_at
  copy_down h = sym (rw (lt-leb (all_fall t i) (all_rise t i) (omega (arith, ed)), ← ed, ← er))

  pub rise_fits : a + q * ((all_rise t i - all_fall t i) / natural (field t i 4)) ≤ 2 ^ 32 → q * (u / r) < 2 ^ 64
  rise_fits h = let z = rw (← eu, ← er) at h in omega arith

  pub sum_fits : a + q * ((all_rise t i - all_fall t i) / natural (field t i 4)) ≤ 2 ^ 32 → a + q * (u / r) < 2 ^ 64
  sum_fits h = let z = rw (← eu, ← er) at h in omega arith

  pub fall_fits : a + q * ((all_rise t i - all_fall t i) / natural (field t i 4)) ≤ 2 ^ 32
      → q * ((all_fall t i - all_rise t i) / natural (field t i 4)) ≤ a → q * (d / r) < 2 ^ 64
  fall_fits h k = let z = rw (← ed, ← er) at k in omega arith

  pub fall_below : q * ((all_fall t i - all_rise t i) / natural (field t i 4)) ≤ a → q * (d / r) ≤ a
  fall_below h = rw (← ed, ← er) at h

pub ruleset copying = (some_raised, each_is, copy_up, copy_down, rise_fits, sum_fits, fall_fits, fall_below, rules)

pub copy_of_is : (t : List ℤ) (i a n : ℕ) {k s : ℕ} → k ≡ each_of t i → s ≡ copy_at t i a (n / k) → ◌≡◌ {A = Copied} (record { start = s; number = n % k }) (copy_of t i a n)
unfolding copy_of
copy_of_is t i a n p q = rw (q, p)

module _ (t : List ℤ) (i a n : ℕ) (h : Chosen t i a n) {k : ℕ} (e : k ≡ each_of t i) where
  pub chosen_high : a + n / k * ((all_rise t i - all_fall t i) / natural (field t i 4)) ≤ 2 ^ 32
  chosen_high = rw e h.high

  pub chosen_low : n / k * ((all_fall t i - all_rise t i) / natural (field t i 4)) ≤ a
  chosen_low = rw e h.low

-- where there is one copy, it is the first
first_copy : (t : List ℤ) (i a : ℕ) → copy_at t i a 0 ≡ a
unfolding copy_at
first_copy t i a = by (leb (all_fall t i) (all_rise t i)) _ _
  where
    by : (b : Bool) (u d : ℕ) → cond b (a + 0 * u) (a - 0 * d) ≡ a
    by true u d = omega arith
    by false u d = omega arith

module _ (t : List ℤ) (i a n : ℕ) (h : Chosen t i a n) where
  pub chosen_plain : natural (neg_ℤ (field t i 4)) ≤ 0
  chosen_plain = some_raised t i 4 h.some

  pub chosen_rises : all_rise t i ≤ 2 ^ 33
  chosen_rises = h.rises

  pub chosen_falls : all_fall t i ≤ 2 ^ 33
  chosen_falls = h.falls

  pub chosen_only : {r : ℕ} → r ≡ natural (field t i 4) → r ≡ 1 → ◌≡◌ {A = Copied} (record { start = a; number = n }) (copy_of t i a n)
  unfolding copy_of each_of
  chosen_only er e = sym (rw (sym er ∙ e, div-one, div-eq_of_lt h.within, mod-eq_of_lt h.within, first_copy t i a))

pub ruleset choosing = (copy_of_is, chosen_high, chosen_low, chosen_plain, chosen_rises, chosen_falls, chosen_only, rules)

-- the copies from the one that division chooses on
module _ (t : List ℤ) (i : ℕ) {n : ℕ} (e : n ≡ each_of t i) where
  pub from_some : 1 ≤ natural (field t i 6) / natural (field t i 4) → 0 < n
  unfolding each_of
  from_some h = rw e h

  pub from_low : (m : ℕ) {c : ℕ} → c ≡ natural (field t i 4) → m / (natural (field t i 6) / natural (field t i 4)) ≤ natural (field t i 4) → m / n ≤ c
  unfolding each_of
  from_low m p h = rw (e, p) h

  pub from_is : (m : ℕ) {c : ℕ} → c ≡ natural (field t i 4) → c - m / n ≡ natural (field t i 4) - m / (natural (field t i 6) / natural (field t i 4))
  unfolding each_of
  from_is m p = rw (e, p)

pub ruleset copies_behind = (from_some, from_low, from_is, rules)
