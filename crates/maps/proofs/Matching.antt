-- Properties compared with a value, relation by relation.
use mathlib.Core.Path.{◌≡◌, refl, sym, ap, ◌∙◌}
use mathlib.Core.List.{List, [], ◌∷◌}
use mathlib.Core.Bool.{Bool, true, false, cond, ◌&&◌, ◌||◌, beq}
use mathlib.Core.Option.{Option, none, some}
use mathlib.Core.Logic.{⊎_elim}
use Prim.Native.Nat.{ℕ, zero, suc, ◌^◌, ◌≤◌, ◌<◌}
use native.Mathlib.Omega.{arith}
use borrow.Author.Rules.{rules}
use borrow.Author.Tests.{eq-eqb, ne_eqb, lt-ltb, le-ltb}
use lib.Dec.{eqb}
use lib.IntN.{ℤ, pos, negsuc}
use lib.ListN.{length}
use Rattle.cdi.specs.Lists.{ascii, given, any, same}
use Rattle.cdi.specs.Pieces.{Attribute}
use Rattle.cdi.specs.Tree.{Nodes, end, element, other}
use Rattle.cdi.specs.Rules.{own_text, own_number}
use Rattle.cdi.specs.Table.{same_number}
use Rattle.cdi.specs.Values.{with_sign}
use Rattle.cdi.specs.Access.{child_of, decoded, properties, equals}
use Rattle.cdi.proofs.Quiet.{impossible, same_comm}
use Rattle.scan.proofs.Tests.{lt_or_le, eq_or_ne}
use Rattle.numbers.specs.declared.Signed.{Signed}
use Rattle.std.specs.Prelude as std
use Rattle.numbers.specs.Held.{held, signed_of, number_of}
use Rattle.pieces_cuts.specs.declared.Cut.{Cut}
use Rattle.levels.specs.Ahead.{name_in, here}
use Rattle.children.specs.Siblings.{ahead, content_of, Passed, first_child, NextChild, nodes_in, Named}
use Rattle.children.specs.declared.Placed.{Placed}
use Rattle.children.specs.declared.Part.{Part}
use Rattle.children.specs.declared.Part.TheVariants.{Missing, Empty, From}
use Rattle.children.proofs.Turning.{child_stands, child_start, child_deep, child_first, no_child, ask_less, long_deep, tag_high}
use Rattle.maps.specs.declared.Wanted.{Wanted}
use Rattle.maps.specs.declared.Wanted.TheVariants as wanted
use Rattle.numbers_order.specs.Equal.{is_equal}
use Rattle.maps.specs.Matches.{wanted_of, match_of}
use Rattle.children.proofs.Insides.{inside_high, inside_deep, part_inside}

-- ── numbers ──

-- a number that is held is compared as the number
and-false : (x : Bool) → (x && false) ≡ false
and-false true = refl
and-false false = refl

and_true : (x : Bool) → (x && true) ≡ x
and_true true = refl
and_true false = refl

or-true : (x : Bool) → (x || true) ≡ true
or-true true = refl
or-true false = refl

turned : (a b : ℕ) → eqb a b ≡ eqb b a
turned a b = ⊎_elim (λ e. eq-eqb a b e ∙ sym (eq-eqb b a (sym e))) (λ e. ne_eqb a b e ∙ sym (ne_eqb b a (λ z. e (sym z)))) (eq_or_ne a b)

one_less : (a b : ℕ) → eqb (suc a) (suc b) ≡ eqb b a
one_less a b = ⊎_elim (λ e. eq-eqb (suc a) (suc b) (omega arith) ∙ sym (eq-eqb b a (sym e))) (λ e. ne_eqb (suc a) (suc b) (λ z. e (omega arith)) ∙ sym (ne_eqb b a (λ z. e (sym z)))) (eq_or_ne a b)

held_same : (c : Bool) (k : ℕ) (b : Bool) (m : ℕ) → m < 2 ^ 64 → is_equal (held c k) b m ≡ (eqb k m && (eqb m 0 || beq c b))
unfolding is_equal held
held_same c k b m h = ⊎_elim
    (λ l. rw (lt-ltb k (2 ^ 64) l))
    (λ l. rw (le-ltb k (2 ^ 64) l, ne_eqb k m (omega arith)))
    (lt_or_le k (2 ^ 64))

number_same : (y : ℤ) (b : Bool) (m : ℕ) → m < 2 ^ 64 → is_equal (signed_of y) b m ≡ same_number (with_sign b m) y
unfolding signed_of with_sign same_number
number_same (pos k) true zero h = held_same false k true 0 h ∙ and_true (eqb k 0) ∙ turned k 0
number_same (pos k) true (suc m) h = held_same false k true (suc m) h ∙ rw (ne_eqb (suc m) 0 (omega arith)) (and-false (eqb k (suc m)))
number_same (pos k) false m h = held_same false k false m h ∙ ap (λ x. eqb k m && x) (or-true (eqb m 0)) ∙ and_true (eqb k m) ∙ turned k m
number_same (negsuc k) true zero h = held_same true (suc k) true 0 h ∙ rw (ne_eqb (suc k) 0 (omega arith))
number_same (negsuc k) true (suc m) h = held_same true (suc k) true (suc m) h ∙ ap (λ x. eqb (suc k) (suc m) && x) (or-true (eqb (suc m) 0)) ∙ and_true (eqb (suc k) (suc m)) ∙ one_less k m
number_same (negsuc k) false m h = held_same true (suc k) false m h ∙ ⊎_elim
    (λ e. rw (ne_eqb m 0 (omega arith)) (and-false (eqb (suc k) m)))
    (λ e. rw (ne_eqb (suc k) m e))
    (eq_or_ne (suc k) m)

-- ── a content ──

module _ {w : Wanted} (t : List ℕ) (u : Nodes) where
  pub by_text : {r : Bool} → w ≡ wanted.Text → r ≡ same t (decoded u) → r ≡ equals (wanted_of w t) u
  unfolding wanted_of equals
  by_text e q = q ∙ sym (rw e)

  pub no_event : {v : ℕ} → w ≡ wanted.Event v → false ≡ equals (wanted_of w t) u
  unfolding wanted_of equals
  no_event e = sym (rw e)

  module _ {b : Bool} {m : ℕ} (e : w ≡ wanted.Number b m) {n : std.Option Signed} (q : n ≡ number_of (own_number u)) where
    asked : equals (wanted_of w t) u ≡ given (own_number u) false (same_number (with_sign b m))
    unfolding wanted_of equals
    asked = rw e

    pub not_number : n ≡ std.None → false ≡ equals (wanted_of w t) u
    unfolding number_of
    not_number k = by (own_number u) refl (sym q ∙ k)
      where
        by : (o : Option ℤ) → own_number u ≡ o → number_of o ≡ std.None → false ≡ equals (wanted_of w t) u
        by none z x = sym (asked ∙ rw z)
        by (some y) z x = impossible (cc)

    pub by_number : {a : Signed} {r : Bool} → n ≡ std.Some a → r ≡ is_equal a b m → m < 2 ^ 64 → r ≡ equals (wanted_of w t) u
    unfolding number_of
    by_number {a} {r} k z h = by (own_number u) refl (sym q ∙ k)
      where
        by : (o : Option ℤ) → own_number u ≡ o → number_of o ≡ std.Some a → r ≡ equals (wanted_of w t) u
        by none y x = impossible (cc)
        by (some i) y x = let g : signed_of i ≡ a = cc in z ∙ ap (λ v. is_equal v b m) (sym g) ∙ number_same i b m h ∙ sym (asked ∙ rw y)

pub ruleset contents = (by_text, no_event, not_number, by_number, rules)

-- ── an empty content ──

none_same : (t : List ℕ) → eqb (length t) 0 ≡ same t []
unfolding same
none_same [] = refl
none_same (x ∷ t) = ne_eqb (length (x ∷ t)) 0 (omega arith)

module _ {w : Wanted} (t : List ℕ) where
  pub empty_text : {r : Bool} → w ≡ wanted.Text → r ≡ eqb (length t) 0 → r ≡ equals (wanted_of w t) end
  unfolding wanted_of equals decoded
  empty_text e q = q ∙ none_same t ∙ sym (rw e)

  pub empty_other : (w ≡ wanted.Text → ⊥) → false ≡ equals (wanted_of w t) end
  unfolding wanted_of equals own_number own_text
  empty_other h = by w refl
    where
      by : (v : Wanted) → w ≡ v → false ≡ equals (wanted_of w t) end
      by (wanted.Number b m) e = sym (rw e)
      by (wanted.Event v) e = sym (rw e)
      by wanted.Text e = absurd (h e)

pub ruleset empties = (empty_text, empty_other, rules)

-- ── a property ──

module _ (s : List ℕ) (f : Nodes → Bool) {p : Part} where
  pub no_property : p ≡ Missing → false ≡ given (nodes_in s p) false f
  unfolding nodes_in
  no_property e = sym (rw e)

  pub empty_property : {r : Bool} → p ≡ Empty → r ≡ f end → r ≡ given (nodes_in s p) false f
  unfolding nodes_in
  empty_property e q = q ∙ sym (rw e)

  pub some_property : {q : ℕ} {r : Bool} → p ≡ From q → r ≡ f (here s q) → r ≡ given (nodes_in s p) false f
  unfolding nodes_in
  some_property e q = q ∙ sym (rw e)

pub ruleset property_ways = (no_property, empty_property, some_property, inside_high, inside_deep, rules)

-- ── a relation ──

module _ (s : List ℕ) (f : Nodes → Bool) (c : Cut) {b : Bool} (q : b ≡ same (ascii "relation") (name_in s c)) where
  named : b ≡ same (name_in s c) (ascii "relation")
  named = q ∙ same_comm (ascii "relation") (name_in s c)

  pub no_relation : b ≡ false → false ≡ match_of f (name_in s c) (content_of s c)
  unfolding match_of
  no_relation e = sym (rw (sym named ∙ e))

  pub bare_relation : b ≡ true → c.short ≡ true → false ≡ match_of f (name_in s c) (content_of s c)
  unfolding match_of child_of
  bare_relation e k = sym (rw (sym named ∙ e, k))

  pub full_relation : {p : Part} {r : Bool} → b ≡ true → c.short ≡ false → Named s c.end (ascii "property") p → r ≡ given (nodes_in s p) false f → r ≡ match_of f (name_in s c) (content_of s c)
  unfolding match_of
  full_relation e k w z = z ∙ ap (λ o. given o false f) w.is ∙ sym (rw (sym named ∙ e, k))

pub ruleset relations = (no_relation, bare_relation, full_relation, part_inside, long_deep, tag_high, rules)

-- ── all of them ──

properties_first : (u : Nodes) → properties u ≡ properties (first_child u)
unfolding properties first_child
properties_first end = refl
properties_first (other p c following) = properties_first following
properties_first (element p n s kids following) = refl

listed_element : (f : Nodes → Bool) (p : ℕ) (n : List ℕ) (a : List Attribute) (kids u : Nodes) → any f (properties (element p n a kids u)) ≡ (match_of f n kids || any f (properties u))
unfolding properties match_of any
listed_element f p n a kids u = by (same n (ascii "relation")) (child_of (ascii "property") kids)
  where
    by : (b : Bool) (o : Option Nodes) → any f (cond b (given o (properties u) (λ k. k ∷ properties u)) (properties u)) ≡ (cond b (given o false f) false || any f (properties u))
    by false o = refl
    by true none = refl
    by true (some k) = refl

pub record Listing (s : List ℕ) (at : ℕ) (f : Nodes → Bool) (i : ℕ) : Type 0 where
  pub is : any f (properties (here s at)) ≡ any f (properties (here s i))
  pub deep : 2 ≤ length (ahead s i)
  pub high : i ≤ length s

pub list_start : (s : List ℕ) (at : ℕ) (f : Nodes → Bool) → at ≤ length s → 2 ≤ length (ahead s at) → Listing s at f at
list_start s at f h l = record { is = refl; deep = l; high = h }

module _ {s : List ℕ} {at : ℕ} {f : Nodes → Bool} {i : ℕ} (w : Listing s at f i) where
  pub list_high : i ≤ length s
  list_high = w.high

  pub list_deep : 2 ≤ length (ahead s i)
  list_deep = w.deep

  pub list_none : NextChild s i std.None → false ≡ any f (properties (here s at))
  unfolding properties any
  list_none x = sym (w.is ∙ ap (any f) (properties_first (here s i)) ∙ ap (λ u. any f (properties u)) (no_child x))

  module _ {x : Placed} (h : NextChild s i (std.Some x)) {b : Bool} (z : b ≡ match_of f (name_in s x.cut) (content_of s x.cut)) {n : ℕ} (y : Passed s x.place x.cut n) where
    split_off : any f (properties (here s at)) ≡ (b || any f (properties (here s n)))
    split_off =
        w.is ∙ ap (any f) (properties_first (here s i) ∙ ap properties (child_first h) ∙ sym (properties_first (here s x.place)) ∙ ap properties y.is)
        ∙ listed_element f x.place (name_in s x.cut) _ (content_of s x.cut) (here s n) ∙ ap (λ v. v || any f (properties (here s n))) (sym z)

    pub list_found : b ≡ true → true ≡ any f (properties (here s at))
    list_found k = sym (split_off ∙ rw k)

    pub list_on : b ≡ false → Listing s at f n
    list_on k = record { is = split_off ∙ rw k; deep = y.deep; high = y.high }

pub ruleset listings = (list_start, list_high, list_deep, list_none, list_found, list_on, child_stands, child_start, child_deep, ask_less, rules)
