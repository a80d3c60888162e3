-- An int's bounds: those that the judge has kept are the content's, where they are sound, and so are their faults.
use mathlib.Core.Path.{◌≡◌, refl}
use mathlib.Core.List.{List, [], map}
use mathlib.Core.Bool.{Bool, true, false, cond, ◌&&◌, ◌||◌}
use mathlib.Core.Option.{Option, none, some}
use Prim.Native.Nat.{ℕ}
use lib.Dec.{leb-suc-zero}
use lib.IntN.{ℤ, pos, negsuc}
use Rattle.cdi.specs.Lists.{ascii, given, ◌>>=◌, is_empty, same, among, lists_page}
use Rattle.cdi.specs.Faults.{Fault}
use Rattle.cdi.specs.Pieces.{Attribute}
use Rattle.cdi.specs.Tree.{Nodes, end, element, other}
use Rattle.cdi.specs.Numbers.{trimmed, bounded}
use Rattle.cdi.specs.Rows.{Row, row_of, int_sizes, rows_page}
use Rattle.cdi.specs.Rules as R
use Rattle.cdi.specs.Rules.{Before, nothing_before, behind, child_faults, own_number, bound_of, bounds_of, is_signed, bound_faults, tested, size_text, size_of, is_int, int_faults}
use Rattle.cdi.proofs.Quiet.{impossible, same_equal, same_comm}
use Rattle.cdi.proofs.Tests.{both_left, both_right}
use Rattle.rules_judge.specs.Judging.{Least, row_at, as_whole, is_value, value_said, absent, fresh, bound_blame, int_blame, bounding, judge_nodes, judging_page}
use Rattle.rules_judge.specs.declared.Bound.{Bound}
use Rattle.rules_judge.specs.declared.Said.{Said}
use Rattle.rules_judge.specs.declared.Said.TheVariants.{Silent}
use Rattle.names.specs.Names.{element_number}
use Rattle.cdi.specs.Values.{with_sign}
use Rattle.terms.specs.Wholes.{whole_of}
use Rattle.rules.proofs.Ordered.{like_nothing}
use Rattle.rules.proofs.Heard.{heard, heard_means}
use Rattle.rules.proofs.Kept.{int, bound_from, After, after}

-- ── they are the bounds of the content ──

-- a bound as the judge keeps it
held : Option R.Bound → Bound
held none = absent
held (some b) = record { there = true; place = b.place; value = as_whole b.value }

stays : (m : Bool) (b : Bound) (p : ℕ) (s : Said) → b.there ≡ true → bounding m b p s ≡ b
unfolding bounding
stays true b p s h = rw h
stays false b p s h = refl

bound_kept : (w : List ℕ) (b : Bound) (t : Nodes) → b.there ≡ true → bound_from w b t ≡ b
unfolding bound_from
bound_kept w b end h = refl
bound_kept w b (other p c following) h = bound_kept w b following h
bound_kept w b (element p n s kids following) h = rw (stays (same n w) b p (heard Silent kids) h) (bound_kept w b following h)

-- the first child of that name, where it is sound
first_bound : (w : List ℕ) (p : ℕ) (kids following : Nodes) (o : Option ℤ) → own_number kids ≡ o → given o false bounded ≡ true
    → bound_from w (bounding true absent p (heard Silent kids)) following ≡ held (o >>= λ z. some (record { place = p; value = z }))
unfolding held absent bounding is_value value_said
first_bound w p kids following none q h = impossible (cc)
first_bound w p kids following (some z) q h =
    rw ((heard_means kids).held z q h) (bound_kept w _ following refl)

-- The bound that is kept is the content's, where every child of that name is sound.
bound_found : (r : Row) (w : List ℕ) (b : Before) (t : Nodes) → R.sound r w b t ≡ true → bound_from w absent t ≡ held (bound_of w t)
unfolding bound_from R.sound bound_of held bounding
bound_found r w b end h = refl
bound_found r w b (other p c following) h = bound_found r w b following h
bound_found r w b (element p n s kids following) h = by (same w n) refl (bound_found r w (behind r b n) following)
  where
    by : (t : Bool) → same w n ≡ t → (R.sound r w (behind r b n) following ≡ true → bound_from w absent following ≡ held (bound_of w following))
        → bound_from w (bounding (same n w) absent p (heard Silent kids)) following ≡ held (cond (same w n) (own_number kids >>= λ z. some (record { place = p; value = z })) (bound_of w following))
    by true m others =
        let child = both_left _ (R.sound r w (behind r b n) following) (rw m at h) in
        rw (same_comm n w, m) (first_bound w p kids following (own_number kids) refl (both_right (is_empty s) _ (both_right (is_empty (child_faults r b p n)) _ child)))
    by false m others = rw (same_comm n w, m) (others (both_right true _ (rw m at h)))

whole_back : (z : ℤ) → whole_of (as_whole z) ≡ z
unfolding whole_of with_sign as_whole
whole_back (pos n) = rw (leb-suc-zero n)
whole_back (negsuc n) = refl

-- The faults of the bounds are those of the bounds that are kept.
bounds_blamed : (p n : ℕ) (kids : Nodes) → bound_blame p n (held (bound_of (ascii "min") kids)) (held (bound_of (ascii "max") kids)) ≡ bound_faults p n kids
unfolding bound_blame bound_faults bounds_of is_signed held absent
bounds_blamed p n kids = by (bound_of (ascii "min") kids) (bound_of (ascii "max") kids) refl refl
  where
    by : (lo hi : Option R.Bound) → bound_of (ascii "min") kids ≡ lo → bound_of (ascii "max") kids ≡ hi
        → bound_blame p n (held (bound_of (ascii "min") kids)) (held (bound_of (ascii "max") kids)) ≡ bound_faults p n kids
    by none none a c = rw (a, c)
    by none (some hi) a c = rw (a, c, whole_back hi.value)
    by (some lo) none a c = rw (a, c, whole_back lo.value)
    by (some lo) (some hi) a c = rw (a, c, whole_back lo.value, whole_back hi.value)

-- ── the faults of an int's bounds ──

where_true : (t : Bool) {fs gs : List Fault} → (t ≡ true → fs ≡ gs) → cond t fs [] ≡ cond t gs []
where_true true h = h refl
where_true false h = refl

or-true : (x : Bool) → (x || true) ≡ true
or-true true = refl
or-true false = refl

int_row : row_at int ≡ row_of (ascii "int")
unfolding lists_page rows_page judging_page
int_row = refl

int_after : (l : Least) (kids : Nodes) → After (fresh l int true) nothing_before kids (judge_nodes (fresh l int true) kids)
unfolding fresh
int_after l kids = after kids (record { row = refl; numeric = refl }) like_nothing

module _ (l : Least) (s : List Attribute) (kids : Nodes) where
  int_tested : (among (trimmed (size_text s)) (map ascii int_sizes) && (judge_nodes (fresh l int true) kids).sound) ≡ tested s kids
  unfolding tested fresh
  int_tested = rw ((int_after l kids).sound, ← int_row)

  tested_blamed : (p n : ℕ) → tested s kids ≡ true
      → bound_blame p n (judge_nodes (fresh l int true) kids).low (judge_nodes (fresh l int true) kids).high ≡ bound_faults p n kids
  unfolding tested fresh
  tested_blamed p n h =
      let a = int_after l kids in
      let row = row_of (ascii "int") in
      let both = both_right (among (trimmed (size_text s)) (map ascii int_sizes)) _ h in
      let low = bound_found row (ascii "min") nothing_before kids (both_left _ (R.sound row (ascii "max") nothing_before kids) both) in
      let high = bound_found row (ascii "max") nothing_before kids (both_right (R.sound row (ascii "min") nothing_before kids) _ both) in
      rw (a.low, a.high, low, high) (bounds_blamed p n kids)

is_int_law : (n : List ℕ) → is_int n ≡ true → n ≡ ascii "int"
unfolding is_int
is_int_law n q = same_equal n (ascii "int") q

-- The faults of an int's bounds are known after its content.
pub int_blamed : (l : Least) (in_int : Bool) (p : ℕ) (n : List ℕ) (s : List Attribute) (kids : Nodes)
    → int_blame p n s (judge_nodes (fresh l (element_number n) (in_int || is_int n)) kids) ≡ int_faults p n s kids
unfolding int_blame int_faults
int_blamed l in_int p n s kids = by (is_int n) refl
  where
    by : (t : Bool) → is_int n ≡ t → int_blame p n s (judge_nodes (fresh l (element_number n) (in_int || is_int n)) kids) ≡ int_faults p n s kids
    by true q = rw (q, or-true in_int, is_int_law n q, int_tested l s kids) (where_true (tested s kids) (tested_blamed l s kids p (size_of s)))
    by false q = rw q
