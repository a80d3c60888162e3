-- What the code holds: joining and repeating what is held gives what is held of the whole.
use mathlib.Core.Path.{◌≡◌, refl, sym, ap, ◌∙◌}
use mathlib.Core.List.{List, ◌++◌}
use Prim.Native.Nat.{ℕ, zero, suc, pred, ◌+◌, ◌*◌, ◌-◌, ◌^◌, ◌≤◌, ◌<◌, min, max}
use native.Mathlib.Omega.{arith}
use native.Mathlib.Decide.{dec_lt}
use native.Mathlib.Nat.{mul-le-mul_left, mul-le-mul_right}
use borrow.Author.Rules.{rules}
use borrow.Author.Tests.{lt-ltb, le-ltb, le-leb, lt-leb}
use lib.Dec.{leb}
use lib.IntN.{ℤ, pos, negsuc, neg_ℤ}
use mir.Syntax.{w64}
use mir.Val.{SFits}
use Rattle.cdi.specs.Rules.{natural}
use Rattle.cdi.specs.Walk.{Step, copies, keeps}
use Rattle.extent.specs.Reach.{extent, Sound, Small, nowhere, by_offset, by_size, join, repeat, extent_of, fits_at, too_wide, held}
use Rattle.extent.specs.declared.Extent.{Extent}
use Rattle.extent.proofs.Signed.{read, read_is}
use Rattle.extent.proofs.Joins.{alike, extent_append, extent_repeat, extent_sound}
use Rattle.extent.proofs.Reached.{fits_of, iff, extent_keeps}

-- ── the two kinds of extents ──

pub wide_held : (e : Extent) → 2 ^ 32 < e.span → held e ≡ too_wide
unfolding held
wide_held e h = rw (lt-ltb (2 ^ 32) e.span h)

abbrev counted : Extent → Extent
counted e = extent (min e.count 1000001) e.below e.ends e.span

pub plain_held : (e : Extent) → e.span ≤ 2 ^ 32 → held e ≡ counted e
unfolding held
plain_held e h = rw (le-ltb (2 ^ 32) e.span h)

wide_spans : (e : Extent) → 2 ^ 32 < e.span → 2 ^ 32 < (held e).span
unfolding too_wide
wide_spans e h = rw (wide_held e h) (omega arith)

-- ── joins ──

first_spans : (p q : Extent) → p.span ≤ (join p q).span
unfolding join
first_spans p q = omega arith

second_spans : (p q : Extent) → q.span ≤ (join p q).span
unfolding join
second_spans p q = omega arith

counted_join : (p q : Extent) → held (join (counted p) (counted q)) ≡ held (join p q)
unfolding join held
counted_join p q = rw (capped p.count q.count)
  where
    capped : (a b : ℕ) → min (min a 1000001 + min b 1000001) 1000001 ≡ min (a + b) 1000001
    capped a b = omega arith

pub held_join : (p q : Extent) → held (join (held p) (held q)) ≡ held (join p q)
held_join p q = by (dec_lt (2 ^ 32) p.span) (dec_lt (2 ^ 32) q.span)
  where
    by : Dec (2 ^ 32 < p.span) → Dec (2 ^ 32 < q.span) → held (join (held p) (held q)) ≡ held (join p q)
    by (yes w) d =
        wide_held (join (held p) (held q)) (omega (arith, wide_spans p w, first_spans (held p) (held q)))
        ∙ sym (wide_held (join p q) (omega (arith, first_spans p q)))
    by (no w) (yes v) =
        wide_held (join (held p) (held q)) (omega (arith, wide_spans q v, second_spans (held p) (held q)))
        ∙ sym (wide_held (join p q) (omega (arith, second_spans p q)))
    by (no w) (no v) = rw (plain_held p (omega arith), plain_held q (omega arith)) (counted_join p q)

-- ── copies ──

once_spans : (r : ℕ) (e : Extent) → e.span ≤ (repeat r e).span
unfolding repeat
once_spans r e = omega arith

capped_times : (r c : ℕ) → 1 ≤ r → min (r * min c 1000001) 1000001 ≡ min (r * c) 1000001
capped_times r c h = by (dec_lt c 1000001)
  where
    by : Dec (c < 1000001) → min (r * min c 1000001) 1000001 ≡ min (r * c) 1000001
    by (yes l) = let e : min c 1000001 ≡ c = omega arith in rw e
    by (no l) =
        let e : min c 1000001 ≡ 1000001 = omega arith in
        let m : 1000001 ≤ c = omega arith in
        rw e (omega (arith, mul-le-mul_left r m, mul-le-mul_right 1000001 h))

counted_repeat : (r : ℕ) (e : Extent) → 1 ≤ r → held (repeat r (counted e)) ≡ held (repeat r e)
unfolding repeat held
counted_repeat r e h = rw (capped_times r e.count h)

pub held_repeat : (r : ℕ) (e : Extent) → 1 ≤ r → held (repeat r (held e)) ≡ held (repeat r e)
held_repeat r e h = by (dec_lt (2 ^ 32) e.span)
  where
    by : Dec (2 ^ 32 < e.span) → held (repeat r (held e)) ≡ held (repeat r e)
    by (yes w) =
        wide_held (repeat r (held e)) (omega (arith, wide_spans e w, once_spans r (held e)))
        ∙ sym (wide_held (repeat r e) (omega (arith, once_spans r e)))
    by (no w) = rw (plain_held e (omega arith)) (counted_repeat r e h)

-- ── what is held of the walk ──

-- one stretch after another
pub held_append : (s t : List Step) → held (join (held (extent_of s)) (held (extent_of t))) ≡ held (extent_of (s ++ t))
held_append s t = held_join (extent_of s) (extent_of t) ∙ ap held (sym (extent_append s t))

-- r copies
pub held_copies : (r : ℕ) (s : List Step) → 1 ≤ r → held (repeat r (held (extent_of s))) ≡ held (extent_of (copies r s))
held_copies r s h = held_repeat r (extent_of s) h ∙ ap held (sym (extent_repeat r s h))

-- what is held fits where the extent fits
wide_nowhere : (n : ℕ) (e : Extent) → Sound e → 2 ^ 32 < e.span → fits_at n too_wide ≡ fits_at n e
unfolding too_wide
wide_nowhere n e h w =
    iff (fits_at n too_wide) (fits_at n e)
    (λ t. let f = fits_of n too_wide t in absurd (omega (arith, f)))
    (λ t. let f = fits_of n e t in absurd (omega (arith, f, h)))

held_fits : (n : ℕ) (e : Extent) → Sound e → fits_at n (held e) ≡ fits_at n e
unfolding fits_at
held_fits n e h = by (dec_lt (2 ^ 32) e.span)
  where
    by : Dec (2 ^ 32 < e.span) → fits_at n (held e) ≡ fits_at n e
    by (yes w) = rw (wide_held e w) (wide_nowhere n e h w)
    by (no w) = rw (plain_held e (omega arith))

-- The limits are kept exactly if what is held fits at the origin.
pub held_keeps : (n : ℕ) → n ≤ 2 ^ 32 → (s : List Step) → keeps (pos n) s ≡ fits_at n (held (extent_of s))
held_keeps n b s = extent_keeps n b s ∙ sym (held_fits n (extent_of s) (extent_sound s))

-- ── the code ──

pub nothing_is : (extent 0 0 0 0 ≡ nowhere) × Small (extent 0 0 0 0)
unfolding nowhere
nothing_is = (refl, record { start = omega arith; finish = omega arith; spans = omega arith; counts = omega arith })

module _ (c b e s : ℕ) where
  pub holds_wide : 2 ^ 32 < s → extent 0 0 0 (2 ^ 32 + 1) ≡ held (extent c b e s)
  unfolding too_wide
  holds_wide h = sym (wide_held (extent c b e s) h)

  pub holds_capped : {m : ℕ} → s ≤ 2 ^ 32 → m ≡ min c 1000001 → extent m b e s ≡ held (extent c b e s)
  holds_capped h k = rw k (sym (plain_held (extent c b e s) h))

  pub holds_all : s ≤ 2 ^ 32 → c ≤ 1000000 → extent c b e s ≡ held (extent c b e s)
  holds_all h k = holds_capped h (omega arith)

pub ruleset holding = (holds_wide, holds_capped, rules)

pub by_offset_law : (o : ℤ) → extent 0 (natural (neg_ℤ o)) (natural o) (natural o + natural (neg_ℤ o)) ≡ by_offset o
unfolding by_offset natural
by_offset_law (pos zero) = refl
by_offset_law (pos (suc n)) = alike refl refl refl (omega arith)
by_offset_law (negsuc n) = alike refl refl refl (omega arith)

module _ {r : Extent} where
  pub moved_is : (o : ℤ) {u d : ℕ} → SFits w64 o → r ≡ held (extent 0 d u (u + d)) → u ≡ natural (read o) → d ≡ natural (neg_ℤ (read o)) → r ≡ held (by_offset o)
  moved_is o g h p q = h ∙ rw (p, q, read_is o g, by_offset_law o)

  pub stood_is : (n : ℕ) → r ≡ held (extent 1 0 n n) → r ≡ held (by_size n)
  unfolding by_size
  stood_is n h = h

  pub joined_is : (p q : Extent) {f l s : ℕ} → r ≡ held (extent (p.count + q.count) (p.below + f) (q.ends + l) s)
      → f ≡ q.below - p.ends → l ≡ p.ends - q.below → s ≡ max (p.span + f) (q.span + l) → r ≡ held (join p q)
  unfolding join
  joined_is p q h x y z = h ∙ rw (z, x, y)

  pub repeated_is : (m : ℕ) (e : Extent) {c f s d u : ℕ} → r ≡ held (extent c (e.below + f) (e.ends + s) (e.span + (f + s)))
      → c ≡ m * e.count → d ≡ e.below - e.ends → u ≡ e.ends - e.below → f ≡ (m - 1) * d → s ≡ (m - 1) * u → r ≡ held (repeat m e)
  unfolding repeat
  repeated_is m e h c d u f s = let l : m - 1 ≡ pred m = omega arith in h ∙ rw (c, f, s, d, u, l)

pub ruleset made = (moved_is, stood_is, joined_is, repeated_is, rules)

pub fits_not : (n : ℕ) (e : Extent) → n < e.below → leb e.below n ≡ fits_at n e
unfolding fits_at
fits_not n e h = sym (rw (lt-leb _ _ h))

pub fits_is : (n : ℕ) (e : Extent) → e.below ≤ n → leb (n + e.span) (2 ^ 32 + e.below) ≡ fits_at n e
unfolding fits_at
fits_is n e h = sym (rw (le-leb _ _ h))

pub ruleset fitting = (fits_not, fits_is, rules)
