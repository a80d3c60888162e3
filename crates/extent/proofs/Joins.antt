-- Stretches put together: the extent of joined steps is the join of their extents, that of r copies the repetition.
use mathlib.Core.Path.{◌≡◌, refl, sym, ap, ap₂, ◌∙◌}
use mathlib.Core.List.{List, [], ◌∷◌, ◌++◌}
use Prim.Native.Nat.{ℕ, zero, suc, ◌+◌, ◌*◌, ◌-◌, ◌≤◌, ◌<◌, max}
use native.Mathlib.Omega.{arith}
use native.Mathlib.Decide.{dec_lt}
use lib.IntN.{ℤ, pos, negsuc}
use Rattle.cdi.specs.Walk.{Step, Items, steps, records, copies}
use Rattle.cdi.specs.Walk.Step.{add, stand}
use Rattle.cdi.specs.Walk.Items.{no_items, variable, group}
use Rattle.extent.specs.Reach.{extent, Sound, nowhere, by_offset, by_size, by_step, join, repeat, extent_of}
use Rattle.extent.specs.declared.Extent.{Extent}

-- extents with equal numbers are equal
pub alike : {c b e s c' b' e' s' : ℕ} → c ≡ c' → b ≡ b' → e ≡ e' → s ≡ s' → extent c b e s ≡ extent c' b' e' s'
alike p q r s = cc

-- ── no height is above the highest ──

pub offset_sound : (o : ℤ) → Sound (by_offset o)
unfolding by_offset
offset_sound (pos n) = record { start = omega arith; finish = omega arith }
offset_sound (negsuc n) = record { start = omega arith; finish = omega arith }

pub size_sound : (n : ℕ) → Sound (by_size n)
unfolding by_size
size_sound n = record { start = omega arith; finish = omega arith }

pub step_sound : (s : Step) → Sound (by_step s)
unfolding by_step
step_sound (add o) = offset_sound o
step_sound (stand k i n) = size_sound n

pub join_sound : (p q : Extent) → Sound p → Sound q → Sound (join p q)
unfolding join
join_sound p q h k = record { start = omega arith; finish = omega arith }

pub repeat_sound : (r : ℕ) (e : Extent) → Sound e → Sound (repeat r e)
unfolding repeat
repeat_sound r e h = record { start = omega arith; finish = omega arith }

pub nowhere_sound : Sound nowhere
unfolding nowhere
nowhere_sound = record { start = omega arith; finish = omega arith }

pub extent_sound : (s : List Step) → Sound (extent_of s)
unfolding extent_of
extent_sound [] = nowhere_sound
extent_sound (s ∷ ss) = join_sound (by_step s) (extent_of ss) (step_sound s) (extent_sound ss)

-- ── joins ──

pub nowhere_join : (e : Extent) → Sound e → join nowhere e ≡ e
unfolding join nowhere
nowhere_join e h = alike (omega arith) (omega arith) (omega arith) (omega arith)

pub join_nowhere : (e : Extent) → Sound e → join e nowhere ≡ e
unfolding join nowhere
join_nowhere e h = alike (omega arith) (omega arith) (omega arith) (omega arith)

-- by how much each of three stretches is lifted, where the second starts at height b and ends at e; a is where the first ends, c where the third starts
lift_first : (a b e c : ℕ) → (b - a) + (c - (e + (a - b))) ≡ (b + (c - e)) - a
lift_first a b e c = omega arith

lift_second : (a b e c : ℕ) → (a - b) + (c - (e + (a - b))) ≡ (c - e) + (a - (b + (c - e)))
lift_second a b e c = omega arith

lift_third : (a b e c : ℕ) → (e + (a - b)) - c ≡ (e - c) + (a - (b + (c - e)))
lift_third a b e c = omega arith

-- and the highest of them
top_of_three : (x y z f f' s s' t t' u u' w : ℕ) → f + t ≡ f' → s + t ≡ s' + w → t' ≡ u + w
    → max (max (x + f) (y + s) + t) (z + t') ≡ max (x + f') (max (y + s') (z + u) + w)
top_of_three x y z f f' s s' t t' u u' w p q r = omega arith

pub join_assoc : (p q r : Extent) → join (join p q) r ≡ join p (join q r)
unfolding join
join_assoc p q r =
    let a = p.ends in
    let b = q.below in
    let e = q.ends in
    let c = r.below in
    alike (omega arith) (omega arith) (omega arith)
    (top_of_three p.span q.span r.span _ _ _ _ _ _ _ 0 _ (lift_first a b e c) (lift_second a b e c) (lift_third a b e c))

pub extent_append : (s t : List Step) → extent_of (s ++ t) ≡ join (extent_of s) (extent_of t)
unfolding extent_of
extent_append [] t = sym (nowhere_join (extent_of t) (extent_sound t))
extent_append (x ∷ s) t = rw (extent_append s t) (sym (join_assoc (by_step x) (extent_of s) (extent_of t)))

-- ── copies ──

pub repeat_once : (e : Extent) → repeat 1 e ≡ e
unfolding repeat
repeat_once e = alike (omega arith) (omega arith) (omega arith) (omega arith)

-- one copy before m + 1 more, by numbers alone: a copy that rises never falls, and the other way round
record One (m b e s u d : ℕ) : Type 0 where
  low : b + ((b + m * d) - e) ≡ b + (m * d + d)
  last : (e + m * u) + (e - (b + m * d)) ≡ e + (m * u + u)
  high : max (s + ((b + m * d) - e)) ((s + (m * d + m * u)) + (e - (b + m * d))) ≡ s + ((m * d + d) + (m * u + u))

one_more : (m b e s : ℕ) → b ≤ s → e ≤ s → One m b e s (e - b) (b - e)
one_more m b e s h k = by (dec_lt b e)
  where
    by : Dec (b < e) → One m b e s (e - b) (b - e)
    by (yes l) =
        let z : b - e ≡ 0 = omega arith in
        rw z (record { low = omega arith; last = omega arith; high = omega arith })
    by (no l) =
        let z : e - b ≡ 0 = omega arith in
        rw z (record { low = omega arith; last = omega arith; high = omega arith })

pub repeat_more : (m : ℕ) (e : Extent) → Sound e → join e (repeat (suc m) e) ≡ repeat (suc (suc m)) e
unfolding join repeat
repeat_more m e h =
    let o = one_more m e.below e.ends e.span h.start h.finish in
    alike (omega arith) (o.low ∙ omega arith) (o.last ∙ omega arith) (o.high ∙ omega arith)

pub extent_copies : (m : ℕ) (s : List Step) → extent_of (copies (suc m) s) ≡ repeat (suc m) (extent_of s)
unfolding copies extent_of
extent_copies zero s = extent_append s [] ∙ join_nowhere (extent_of s) (extent_sound s) ∙ sym (repeat_once (extent_of s))
extent_copies (suc m) s = extent_append s (copies (suc m) s) ∙ rw (extent_copies m s) (repeat_more m (extent_of s) (extent_sound s))

pub extent_repeat : (r : ℕ) (s : List Step) → 1 ≤ r → extent_of (copies r s) ≡ repeat r (extent_of s)
extent_repeat zero s h = absurd (omega arith)
extent_repeat (suc m) s h = extent_copies m s

-- ── the numbers of the records make no difference ──

copies_alike : (r : ℕ) (s t : List Step) → extent_of s ≡ extent_of t → extent_of (copies r s) ≡ extent_of (copies r t)
unfolding copies
copies_alike zero s t e = refl
copies_alike (suc m) s t e = extent_copies m s ∙ rw e (sym (extent_copies m t))

pub extent_anywhere : (s : Items) (i j : ℕ) → extent_of (steps i s) ≡ extent_of (steps j s)
unfolding steps extent_of by_step
extent_anywhere no_items i j = refl
extent_anywhere (variable k p o n following) i j = rw (extent_anywhere following (i + 1) (j + 1))
extent_anywhere (group p o r members following) i j =
    ap (λ (e : Extent). join (by_offset o) e)
    (extent_append (copies r (steps (i + 1) members)) (steps (i + 1 + records members) following)
    ∙ ap₂ (λ (m f : Extent). join m f)
    (copies_alike r (steps (i + 1) members) (steps (j + 1) members) (extent_anywhere members (i + 1) (j + 1)))
    (extent_anywhere following (i + 1 + records members) (j + 1 + records members))
    ∙ sym (extent_append (copies r (steps (j + 1) members)) (steps (j + 1 + records members) following)))
