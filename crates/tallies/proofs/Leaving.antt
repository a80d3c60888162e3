-- Leaving an element, as the code does it.
use mathlib.Core.Path.{◌≡◌, refl, sym, ap, ◌∙◌}
use mathlib.Core.List.{List}
use mathlib.Core.Bool.{Bool, true, false, cond, ◌&&◌, ◌||◌}
use mathlib.Core.Logic.{⊎_elim}
use Prim.Native.Nat.{ℕ, ◌+◌, ◌*◌, ◌-◌, ◌≤◌, min}
use native.Mathlib.Omega.{arith}
use borrow.Author.Rules.{rules}
use borrow.Author.Tests.{le-leb, leb-true, eq-eqb, ne_eqb, eqb-true}
use lib.Dec.{eqb, leb}
use lib.IntN.{ℤ}
use lib.Seq.{sets}
use mir.Syntax.{w64}
use mir.Val.{SFits}
use Rattle.cdi.specs.Lists.{between}
use Rattle.cdi.specs.Rules.{natural}
use Rattle.cdi.proofs.Tests.{both_left, both_right}
use Rattle.scan.proofs.Tests.{eq_or_ne}
use Rattle.extent.specs.Reach.{join, fits_at, held}
use Rattle.extent.specs.declared.Extent.{Extent}
use Rattle.extent.proofs.Signed.{read, read_is}
use Rattle.tally_tag.specs.declared.Numbers.{Numbers}
use Rattle.tally_tag.specs.declared.Tally.{Tally as Known}
use Rattle.tally_tag.specs.Tallying.{first_leaving}
use Rattle.tally_tag.specs.Numbered.{segment_at, data_at, group_at, recorded_by, own_by, leave_by, kind_by, address_by, width_by, copies_by, told_by, record_by, written_by}
use Rattle.tags_numbers.specs.declared.Given.{Given}
use Rattle.tags_numbers.specs.Given.{Bounded, given_by, numbers_of}
use Rattle.tallies_state.specs.declared.Tally.{Tally}
use Rattle.tallies_state.specs.Flat.{leaves_of, tally_of}
use Rattle.tallies_state.proofs.Entering.{flat}
use Rattle.tallies_records.specs.Fields.{fields_of}

-- ── behind a segment ──

module _ (g : Tally) (p : ℕ) (m : Given) (i : Tally) (d : g.level ≡ 1) where
  pub segment_left : (l : ℕ) {c o : ℕ} {b : Bool} → c ≡ min (i.total + i.extent.count) 1000001 → o ≡ natural m.address → b ≡ fits_at o i.extent
      → leaves_of l ≡ first_leaving b p (leaves_of i.leaves)
      → tally_of (flat g.extent g.level i.records c l i.root) ≡ leave_by (tally_of g) p 4 (numbers_of m) (tally_of i)
  unfolding tally_of leave_by segment_at data_at numbers_of
  segment_left l x y z w = rw (d, w, x, z, y)

  pub segment_written : {u : List ℤ} (t : List ℤ) → Bounded 4 m → SFits w64 m.address
      → u ≡ sets t (g.records * 8) (fields_of 1 p (read m.address) m.width 1 i.records i.extent)
      → u ≡ written_by (tally_of g) p 4 (numbers_of m) (tally_of i) t
  unfolding tally_of written_by recorded_by segment_at data_at record_by kind_by address_by width_by copies_by group_at told_by numbers_of fields_of
  segment_written t h f q = q ∙ rw (read_is m.address f, d) (ap (λ (z : ℤ). sets t (g.records * 8) (fields_of 1 p z m.width 1 i.records i.extent)) (h.above refl))

-- ── behind a data element ──

-- the kind of a data element by the number of its name
kind_is : (k : ℕ) → 5 ≤ k → k ≤ 9 → k - 3 ≡ kind_by 2 k
unfolding kind_by
kind_is k l h = ⊎_elim
    (λ (a : k ≡ 5). rw a)
    (λ (a : k ≡ 5 → ⊥). ⊎_elim
    (λ (b : k ≡ 6). rw b)
    (λ (b : k ≡ 6 → ⊥). ⊎_elim
    (λ (c : k ≡ 7). rw c)
    (λ (c : k ≡ 7 → ⊥). ⊎_elim
    (λ (d : k ≡ 8). rw d)
    (λ (d : k ≡ 8 → ⊥). ⊎_elim
    (λ (e : k ≡ 9). rw e)
    (λ (e : k ≡ 9 → ⊥). absurd (omega arith))
    (eq_or_ne k 9))
    (eq_or_ne k 8))
    (eq_or_ne k 7))
    (eq_or_ne k 6))
    (eq_or_ne k 5)

module _ (g : Tally) (p k : ℕ) (m : Given) (i : Tally) (d : g.level ≡ 2) (l : 5 ≤ k) (h : k ≤ 9) {o : Extent} (q : o ≡ own_by k (numbers_of m) i.extent) where
  pub data_left : {e : Extent} → e ≡ held (join g.extent o)
      → tally_of (flat e g.level i.records i.total i.leaves i.root) ≡ leave_by (tally_of g) p k (numbers_of m) (tally_of i)
  unfolding tally_of leave_by segment_at data_at between
  data_left x = rw (x, q, d, le-leb 5 k l, le-leb k 9 h)

  pub data_written : {u : List ℤ} {w c : ℕ} (t : List ℤ) → SFits w64 m.address → w ≡ cond (eqb k 5) 0 m.width → c ≡ cond (eqb k 5) m.copies 1
      → u ≡ sets t (g.records * 8) (fields_of (k - 3) p (read m.address) w c i.records o)
      → u ≡ written_by (tally_of g) p k (numbers_of m) (tally_of i) t
  unfolding tally_of written_by recorded_by segment_at data_at between record_by address_by width_by copies_by group_at told_by numbers_of fields_of
  data_written t f x y z = z ∙ rw (read_is m.address f, kind_is k l h, x, y, q, d, le-leb 5 k l, le-leb k 9 h)

-- ── which element it is ──

module _ (d k : ℕ) {t : Bool} (q : t ≡ segment_at d k) (e : t ≡ true) where
  at_segment : (d ≡ 1) × (k ≡ 4)
  unfolding segment_at
  at_segment = let b : (eqb d 1 && eqb k 4) ≡ true = sym q ∙ e in (eqb-true d 1 (both_left _ (eqb k 4) b), eqb-true k 4 (both_right (eqb d 1) _ b))

  pub segment_level : d ≡ 1
  segment_level = at_segment.0

  pub segment_bounded : (m : Given) → Bounded k m → Bounded 4 m
  segment_bounded m h = rw at_segment.1 at h

  pub as_segment : (g : Known) (p : ℕ) (m : Numbers) (i : Known) {r : Known} → r ≡ leave_by g p 4 m i → r ≡ leave_by g p k m i
  as_segment g p m i h = rw at_segment.1 h

  pub segment_stored : (g : Known) (p : ℕ) (m : Numbers) (i : Known) (t : List ℤ) {u : List ℤ} → u ≡ written_by g p 4 m i t → u ≡ written_by g p k m i t
  segment_stored g p m i t h = rw at_segment.1 h

module _ (d k : ℕ) {t : Bool} (q : t ≡ data_at d k) (e : t ≡ true) where
  at_data : (d ≡ 2) × (5 ≤ k) × (k ≤ 9)
  unfolding data_at between
  at_data =
      let b : (eqb d 2 && (leb 5 k && leb k 9)) ≡ true = sym q ∙ e in
      let c : (leb 5 k && leb k 9) ≡ true = both_right (eqb d 2) _ b in
      (eqb-true d 2 (both_left _ (leb 5 k && leb k 9) b), leb-true 5 k (both_left _ (leb k 9) c), leb-true k 9 (both_right (leb 5 k) _ c))

  pub data_level : d ≡ 2
  data_level = at_data.0

  pub data_low : 5 ≤ k
  data_low = at_data.1

  pub data_high : k ≤ 9
  data_high = at_data.2

module _ (g : Tally) (p k : ℕ) (m : Numbers) (i : Tally) {s t : Bool} (q : s ≡ segment_at g.level k) (e : s ≡ false) (u : t ≡ data_at g.level k) (f : t ≡ false) where
  pub aside_left : {d : ℕ} → d ≡ cond (eqb g.level 0) 3 g.level
      → tally_of (flat g.extent d i.records i.total i.leaves i.root) ≡ leave_by (tally_of g) p k m (tally_of i)
  unfolding tally_of leave_by
  aside_left h = rw (h, ← q, e, ← u, f)

  pub aside_written : (rows : List ℤ) → rows ≡ written_by (tally_of g) p k m (tally_of i) rows
  unfolding tally_of written_by recorded_by
  aside_written rows = rw (← q, e, ← u, f)

pub ruleset leaves = (segment_level, segment_bounded, data_level, data_low, data_high, rules)

-- ── for callers ──

module _ (k : ℕ) (m : Numbers) where
  offset_given : (k ≡ 4 → ⊥) → (numbers_of (given_by k m)).offset ≡ m.offset
  unfolding numbers_of given_by
  offset_given e = rw (ne_eqb k 4 e)

  size_given : (k ≡ 4 → ⊥) → (numbers_of (given_by k m)).size ≡ m.size
  unfolding numbers_of given_by
  size_given e = rw (ne_eqb k 4 e)

  copies_given : (numbers_of (given_by k m)).replication ≡ m.replication
  unfolding numbers_of given_by
  copies_given = refl

  origin_given : k ≡ 4 → (numbers_of (given_by k m)).origin ≡ m.origin
  unfolding numbers_of given_by natural
  origin_given e = rw (eq-eqb k 4 e)

  space_given : k ≡ 4 → (numbers_of (given_by k m)).space ≡ m.space
  unfolding numbers_of given_by
  space_given e = rw (eq-eqb k 4 e)

  own_given : (k ≡ 4 → ⊥) → (e : Extent) → own_by k (numbers_of (given_by k m)) e ≡ own_by k m e
  unfolding own_by
  own_given x e = rw (offset_given x, size_given x, copies_given)

-- a data element is no segment
no_segment : (d k : ℕ) {t : Bool} → t ≡ data_at d k → t ≡ true → k ≡ 4 → ⊥
no_segment d k q e x = omega (arith, data_low d k q e, x)

-- Of the numbers of a tag those that are given are enough.
module _ (g : Known) (p k : ℕ) (m : Numbers) (i : Known) where
  pub leave_given : leave_by g p k (numbers_of (given_by k m)) i ≡ leave_by g p k m i
  unfolding leave_by
  leave_given = rw (extents (data_at g.level k) refl, leavings_are (segment_at g.level k) refl)
    where
      extents : (t : Bool) → t ≡ data_at g.level k
          → cond t (held (join g.extent (own_by k (numbers_of (given_by k m)) i.extent))) g.extent ≡ cond t (held (join g.extent (own_by k m i.extent))) g.extent
      extents true q = rw (own_given k m (no_segment g.level k q refl) i.extent)
      extents false q = refl

      leavings_are : (t : Bool) → t ≡ segment_at g.level k
          → cond t (first_leaving (fits_at (numbers_of (given_by k m)).origin i.extent) p i.leaves) i.leaves ≡ cond t (first_leaving (fits_at m.origin i.extent) p i.leaves) i.leaves
      leavings_are true q = rw (origin_given k m (at_segment g.level k q refl).1)
      leavings_are false q = refl

  record_segment : g.level ≡ 1 → k ≡ 4 → record_by g p k (numbers_of (given_by k m)) i ≡ record_by g p k m i
  unfolding record_by address_by width_by copies_by group_at told_by
  record_segment d e = rw (d, origin_given k m e, space_given k m e)

  record_data : g.level ≡ 2 → (k ≡ 4 → ⊥) → record_by g p k (numbers_of (given_by k m)) i ≡ record_by g p k m i
  unfolding record_by address_by width_by copies_by group_at told_by
  record_data d e = rw (d, own_given k m e i.extent, offset_given k m e, size_given k m e, copies_given k m)

  pub written_given : (t : List ℤ) → written_by g p k (numbers_of (given_by k m)) i t ≡ written_by g p k m i t
  unfolding written_by recorded_by
  written_given t = by (segment_at g.level k) refl (data_at g.level k) refl
    where
      by : (a : Bool) → a ≡ segment_at g.level k → (b : Bool) → b ≡ data_at g.level k
          → cond (a || b) (sets t (g.records * 8) (record_by g p k (numbers_of (given_by k m)) i)) t ≡ cond (a || b) (sets t (g.records * 8) (record_by g p k m i)) t
      by true q b r = rw (record_segment (at_segment g.level k q refl).0 (at_segment g.level k q refl).1)
      by false q true r = rw (record_data (data_level g.level k r refl) (no_segment g.level k r refl))
      by false q false r = refl

-- Where the numbers are those that a tag gives, what is known behind the element and what is written is by the tag's numbers.
module _ (g : Known) (p k : ℕ) (n : Numbers) (i : Known) {m : Given} (q : m ≡ given_by k n) where
  pub left_by_law : {r : Known} → r ≡ leave_by g p k (numbers_of m) i → r ≡ leave_by g p k n i
  left_by_law h = h ∙ rw q (leave_given g p k n i)

  pub stored_by : (t : List ℤ) {u : List ℤ} → u ≡ written_by g p k (numbers_of m) i t → u ≡ written_by g p k n i t
  stored_by t h = h ∙ rw q (written_given g p k n i t)
