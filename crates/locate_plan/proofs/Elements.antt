-- One element's steps and its extent.
use mathlib.Core.Path.{◌≡◌, sym, ap, ap₂, ◌∙◌}
use mathlib.Core.List.{List}
use mathlib.Core.Bool.{Bool, true, false, cond, ◌&&◌}
use Prim.Native.Nat.{ℕ, ◌+◌, ◌≤◌}
use native.Mathlib.Omega.{arith}
use borrow.Author.Tests.{eqb-true, eq-eqb}
use lib.Dec.{eqb}
use lib.IntN.{ℤ, pos, neg_ℤ}
use Rattle.cdi.specs.Rules.{natural}
use Rattle.cdi.specs.Walk.{Items, Step, records, steps, copies, change}
use Rattle.cdi.specs.Walk.Items.{no_items, variable, group}
use Rattle.cdi.specs.Table.{same_number}
use Rattle.cdi.specs.Plans.{field, kind_of, place_of, extra_of, replication_of, item_of, items_in, told}
use Rattle.cdi.proofs.Signs.{same_number_law, number_same}
use Rattle.extent.specs.Reach.{Sound, by_offset, by_size, by_step, join, repeat, extent_of}
use Rattle.extent.specs.declared.Extent.{Extent}
use Rattle.extent.proofs.Signed.{rise_up, fall_down}
use Rattle.extent.proofs.Joins.{offset_sound, size_sound, join_sound, repeat_sound, extent_sound, join_nowhere, join_assoc, extent_append, extent_repeat, extent_anywhere}
use Rattle.extent.proofs.Reached.{extent_count, extent_change, Moves, one_change, iff}
use Rattle.locate_plan.specs.Judging.{items_extent}
use Rattle.locate_sums.specs.Sums.{tells, element_extent}

-- ── an element before what follows it, which has number x ──

module _ (t : List ℤ) (i : ℕ) (m : Items) (one : 1 ≤ replication_of t i) where
  o : ℤ
  o = field t i 2

  pub element_join : (f : Items) (x : ℕ) → extent_of (steps i (item_of t i m f)) ≡ join (element_extent t i (extent_of (steps (i + 1) m))) (extent_of (steps x f))
  unfolding item_of element_extent steps extent_of by_step o
  element_join f x = by (eqb (kind_of t i) 2)
    where
      E : Extent
      E = extent_of (steps (i + 1) m)

      by : (g : Bool)
          → extent_of (steps i (cond g (group (place_of t i) o (replication_of t i) m f) (variable (kind_of t i) (place_of t i) o (extra_of t i) f)))
          ≡ join (join (by_offset o) (cond g (repeat (replication_of t i) E) (by_size (extra_of t i)))) (extent_of (steps x f))
      by true =
          ap (λ (e : Extent). join (by_offset o) e)
          (extent_append (copies (replication_of t i) (steps (i + 1) m)) (steps (i + 1 + records m) f)
          ∙ ap₂ (λ (p q : Extent). join p q) (extent_repeat (replication_of t i) (steps (i + 1) m) one) (extent_anywhere f (i + 1 + records m) x))
          ∙ sym (join_assoc (by_offset o) (repeat (replication_of t i) E) (extent_of (steps x f)))
      by false =
          ap (λ (e : Extent). join (by_offset o) (join (by_size (extra_of t i)) e)) (extent_anywhere f (i + 1) x)
          ∙ sym (join_assoc (by_offset o) (by_size (extra_of t i)) (extent_of (steps x f)))

pub element_sound : (t : List ℤ) (i : ℕ) (m : Extent) → Sound m → Sound (element_extent t i m)
unfolding element_extent
element_sound t i m s = by (eqb (kind_of t i) 2)
  where
    by : (g : Bool) → Sound (join (by_offset (field t i 2)) (cond g (repeat (replication_of t i) m) (by_size (extra_of t i))))
    by true = join_sound (by_offset (field t i 2)) (repeat (replication_of t i) m) (offset_sound (field t i 2)) (repeat_sound (replication_of t i) m s)
    by false = join_sound (by_offset (field t i 2)) (by_size (extra_of t i)) (offset_sound (field t i 2)) (size_sound (extra_of t i))

-- alone
pub element_extent_law : (t : List ℤ) (i : ℕ) (m : Items) → 1 ≤ replication_of t i
    → extent_of (steps i (item_of t i m no_items)) ≡ element_extent t i (extent_of (steps (i + 1) m))
unfolding extent_of steps
element_extent_law t i m one =
    element_join t i m one no_items 0
    ∙ join_nowhere (element_extent t i (extent_of (steps (i + 1) m))) (element_sound t i (extent_of (steps (i + 1) m)) (extent_sound (steps (i + 1) m)))

pub items_sound : (t : List ℤ) (i e : ℕ) → Sound (items_extent t i e)
unfolding items_extent
items_sound t i e = extent_sound (steps i (items_in t i e))

-- ── what a record tells, by the extent ──

pub tells_told : (t : List ℤ) (i : ℕ) (s : List Step) → tells t i (extent_of s) ≡ told t i s
unfolding tells told
tells_told t i s =
    ap₂ (λ (a b : Bool). a && b) (ap (λ (n : ℕ). same_number (field t i 6) (pos n)) (extent_count s))
    (iff (eqb (natural z + e.below) (natural (neg_ℤ z) + e.ends)) (same_number z (change s)) there back)
  where
    z : ℤ
    z = field t i 7

    e : Extent
    e = extent_of s

    there : eqb (natural z + e.below) (natural (neg_ℤ z) + e.ends) ≡ true → same_number z (change s) ≡ true
    there h =
        let f = eqb-true (natural z + e.below) (natural (neg_ℤ z) + e.ends) h in
        let m : Moves z e = omega (arith, rise_up z, fall_down z) in
        rw (one_change z (change s) e m (extent_change s)) (number_same (change s))

    back : same_number z (change s) ≡ true → eqb (natural z + e.below) (natural (neg_ℤ z) + e.ends) ≡ true
    back h =
        let m : Moves z e = rw (same_number_law z (change s) h) (extent_change s) in
        eq-eqb (natural z + e.below) (natural (neg_ℤ z) + e.ends) (omega (arith, rise_up z, fall_down z))
