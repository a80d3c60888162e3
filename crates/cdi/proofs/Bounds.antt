-- The bounds of an int in a tree without faults: they are tested, and so storable in its size.
use mathlib.Core.Path.{◌≡◌, refl}
use mathlib.Core.List.{List, [], ◌∷◌}
use mathlib.Core.Bool.{Bool, true, false, ◌&&◌}
use mathlib.Core.Option.{Option, none, some}
use Prim.Native.Nat.{ℕ}
use lib.IntN.{ℤ}
use Rattle.cdi.specs.Lists.{ascii, given, is_empty, same, among, lists_page}
use Rattle.cdi.specs.Faults.{unless}
use Rattle.cdi.specs.Pieces.{Attribute}
use Rattle.cdi.specs.Tree.{Nodes, end, element, other}
use Rattle.cdi.specs.Numbers.{bounded}
use Rattle.cdi.specs.Rows.{AttributeRule, Row, row_of, rows_page}
use Rattle.cdi.specs.Rules.{Before, nothing_before, behind, range_faults, name_faults, names_faults, own_number, number_names, number_faults, bounds_of, bound_faults, storable, sound, tested, size_of, is_int, int_faults, own_faults, faults_in}
use Rattle.cdi.proofs.Quiet.{empty_left, empty_right, passed, same_equal, same_self}
use Rattle.cdi.proofs.Ranges.{judged, judged_other, kept, int_size_law}

-- an element that has no attribute and holds a number where it stands in an int
record NumberName (w : List ℕ) : Type 0 where
  bare : (row_of w).attributes ≡ []
  listed : among w number_names ≡ true

bare_attributes : (rules : List AttributeRule) (s : List Attribute) → rules ≡ [] → names_faults rules s ≡ [] → is_empty s ≡ true
unfolding name_faults names_faults is_empty
bare_attributes rules [] q e = refl
bare_attributes [] (a ∷ s) q e = cc
bare_attributes (x ∷ rules) (a ∷ s) q e = cc

in_range : (p : ℕ) (z : Option ℤ) → range_faults p bounded z ≡ [] → given z false bounded ≡ true
unfolding range_faults
in_range p none e = cc
in_range p (some z) e = passed _ _ e

number_holds : (w : List ℕ) → NumberName w → (p : ℕ) (s : List Attribute) (kids : Nodes) → own_faults true p w s kids ≡ [] → (is_empty s && given (own_number kids) false bounded) ≡ true
unfolding number_faults
number_holds w h p s kids e =
    let k = kept e in
    rw (bare_attributes (row_of w).attributes s h.bare k.names) (in_range p (own_number kids) (rw h.listed at k.numbers))

-- A tree without faults inside an int is sound for such a name.
sound_holds : (w : List ℕ) → NumberName w → (r : Row) (b : Before) (t : Nodes) → faults_in r true b t ≡ [] → sound r w b t ≡ true
unfolding sound is_empty
sound_holds w h r b end e = refl
sound_holds w h r b (other p c following) e = sound_holds w h r b following (judged_other r true b p c following e)
sound_holds w h r b (element p m s kids following) e =
    let j = judged e in
    by (same w m) refl (sound_holds w h r (behind r b m) following j.others)
  where
    by : (t : Bool) → same w m ≡ t → sound r w (behind r b m) following ≡ true → sound r w b (element p m s kids following) ≡ true
    by true q i =
        let j = judged e in
        rw (q, j.child, number_holds w h p s kids (rw (← same_equal w m q) at j.own)) i
    by false q i = rw q i

min_name : NumberName (ascii "min")
unfolding lists_page rows_page number_names
min_name = record { bare = refl; listed = refl }

max_name : NumberName (ascii "max")
unfolding lists_page rows_page number_names
max_name = record { bare = refl; listed = refl }

-- the bounds of an int of n bytes with this content
pub record Bounded (n : ℕ) (kids : Nodes) : Type 0 where
  pub low : storable (bounds_of n kids).signed n (bounds_of n kids).min ≡ true
  pub high : storable (bounds_of n kids).signed n (bounds_of n kids).max ≡ true

bounds_hold : (p n : ℕ) (kids : Nodes) → bound_faults p n kids ≡ [] → Bounded n kids
unfolding bound_faults
bounds_hold p n kids e = record {
  low = passed _ _ (empty_left _ _ e);
  high = passed _ _ (empty_left _ _ (empty_right (unless (storable (bounds_of n kids).signed n (bounds_of n kids).min) _) _ e));
}

-- An int of a tree without faults has bounds that its size can store.
pub int_bounded : (in_int : Bool) (p : ℕ) (s : List Attribute) (kids : Nodes) → own_faults in_int p (ascii "int") s kids ≡ []
    → faults_in (row_of (ascii "int")) true nothing_before kids ≡ [] → Bounded (size_of s) kids
unfolding int_faults is_int tested
int_bounded in_int p s kids e i =
    let k = kept e in
    bounds_hold p (size_of s) kids
    (rw (same_self (ascii "int"), int_size_law p s k.rules, sound_holds _ min_name _ nothing_before kids i, sound_holds _ max_name _ nothing_before kids i) at k.bounds)
