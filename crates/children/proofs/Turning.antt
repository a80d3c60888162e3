-- How each piece changes what is to come at the levels that are open, and the ways through the readers of children.
use mathlib.Core.Path.{◌≡◌, refl, sym, ap, subst, ◌∙◌}
use mathlib.Core.List.{List, [], ◌∷◌, tail}
use mathlib.Core.Bool.{Bool, true, false, cond}
use mathlib.Core.Option.{some}
use Prim.Native.Nat.{ℕ, suc, ◌+◌, ◌-◌, ◌≤◌, ◌<◌}
use native.Mathlib.Numerals.{add-one}
use native.Mathlib.Omega.{arith}
use borrow.Author.Rules.{rules}
use lib.ListN.{length, drop, drop_of_length-le}
use lib.Seq.{drop-nil}
use Rattle.cdi.specs.Pieces.{Attribute, start, pieces}
use Rattle.cdi.specs.Tree.{Nodes, end, element, other, grow, levels, top, tree}
use Rattle.cdi.specs.Lists.{same}
use Rattle.cdi.specs.Access.{child_of}
use Rattle.cdi.proofs.Quiet.{impossible}
use Rattle.pieces_cuts.specs.Cuts.{piece_of, Stands}
use Rattle.pieces_cuts.specs.declared.Kind.{Kind}
use Rattle.pieces_cuts.specs.declared.Kind.TheVariants.{Start, Finish, Remark, Refer, Text, Malformed, Unsupported}
use Rattle.pieces_cuts.specs.declared.Cut.{Cut}
use Rattle.levels.specs.Ahead.{from, name_in, attributes_in, here}
use Rattle.levels.proofs.Levels.{split, short_levels, start_levels}
use Rattle.children.specs.declared.Turn.{Turn}
use Rattle.children.specs.declared.Turn.TheVariants.{Opens, Closes, Stays}
use Rattle.children.specs.declared.Placed.{Placed}
use Rattle.children.specs.declared.Part.{Part}
use Rattle.children.specs.declared.Pieces.{Pieces}
use Rattle.children.specs.Walk.{Came, Over}
use Rattle.children.specs.declared.Part.TheVariants.{Missing, Empty, From}
use Rattle.children.specs.Siblings.{ahead, turn_of, Behind, Passed, first_child, NextChild, part_of, nodes_in, Inside, Named}
use Rattle.children.specs.Siblings.NextChild.{there, nowhere}
use Rattle.std.specs.Prelude.{Some, None, Option as Maybe}

-- ── lists ──

module _ {A : Type 0} where
  drop_tail : (d : ℕ) (l : List A) → drop d (tail l) ≡ drop (suc d) l
  drop_tail d [] = drop-nil d
  drop_tail d (x ∷ l) = refl

  length_tail : (l : List A) → length (tail l) ≡ length l - 1
  length_tail [] = refl
  length_tail (x ∷ l) = omega arith

-- ── one piece ──

module _ {s : List ℕ} {i : ℕ} {c : Cut} (v : Stands s i c) where
  grown : ahead s i ≡ grow i (piece_of c.kind s i c) (ahead s c.end)
  unfolding levels
  grown = ap levels v.is

  module _ {k : Kind} (q : c.kind ≡ k) where
    grown_by : ahead s i ≡ grow i (piece_of k s i c) (here s c.end ∷ tail (ahead s c.end))
    grown_by = grown ∙ ap (λ x. grow i (piece_of x s i c) (ahead s c.end)) q ∙ ap (grow i (piece_of k s i c)) (split (from s c.end))

open_tail : (i : ℕ) (n : List ℕ) (a : List Attribute) (f : Nodes) (fs : List Nodes) → tail (grow i (start n a false) (f ∷ fs)) ≡ tail fs
unfolding grow
open_tail i n a f [] = refl
open_tail i n a f (g ∷ fs) = refl

module _ (s : List ℕ) (i : ℕ) (c : Cut) (f : Nodes) (fs : List Nodes) where
  stay_start : (b : Bool) → c.short ≡ b → turn_of Start b ≡ Stays → tail (grow i (piece_of Start s i c) (f ∷ fs)) ≡ fs
  unfolding turn_of piece_of grow
  stay_start true e q = rw e
  stay_start false e q = impossible (cc)

  stay_tail : (k : Kind) → turn_of k c.short ≡ Stays → tail (grow i (piece_of k s i c) (f ∷ fs)) ≡ fs
  unfolding turn_of piece_of grow
  stay_tail Start q = stay_start c.short refl q
  stay_tail Finish q = impossible (cc)
  stay_tail Remark q = refl
  stay_tail Refer q = refl
  stay_tail Text q = refl
  stay_tail Malformed q = refl
  stay_tail Unsupported q = refl

  turn_start : (b : Bool) → c.short ≡ b → turn_of Start b ≡ Opens → tail (grow i (piece_of Start s i c) (f ∷ fs)) ≡ tail fs
  unfolding turn_of piece_of
  turn_start true e q = impossible (cc)
  turn_start false e q = rw e (open_tail i (name_in s c) (attributes_in s c) f fs)

  opens_tail : (k : Kind) → turn_of k c.short ≡ Opens → tail (grow i (piece_of k s i c) (f ∷ fs)) ≡ tail fs
  unfolding turn_of
  opens_tail Start q = turn_start c.short refl q
  opens_tail Finish q = impossible (cc)
  opens_tail Remark q = impossible (cc)
  opens_tail Refer q = impossible (cc)
  opens_tail Text q = impossible (cc)
  opens_tail Malformed q = impossible (cc)
  opens_tail Unsupported q = impossible (cc)

  close_start : (b : Bool) → turn_of Start b ≡ Closes → tail (grow i (piece_of Start s i c) (f ∷ fs)) ≡ f ∷ fs
  unfolding turn_of
  close_start true q = impossible (cc)
  close_start false q = impossible (cc)

  close_tail : (k : Kind) → turn_of k c.short ≡ Closes → tail (grow i (piece_of k s i c) (f ∷ fs)) ≡ f ∷ fs
  unfolding turn_of piece_of grow
  close_tail Start q = close_start c.short q
  close_tail Finish q = refl
  close_tail Remark q = impossible (cc)
  close_tail Refer q = impossible (cc)
  close_tail Text q = impossible (cc)
  close_tail Malformed q = impossible (cc)
  close_tail Unsupported q = impossible (cc)

module _ {s : List ℕ} {i : ℕ} {c : Cut} (v : Stands s i c) where
  stays : turn_of c.kind c.short ≡ Stays → tail (ahead s i) ≡ tail (ahead s c.end)
  stays q = ap tail (grown_by v refl) ∙ stay_tail s i c (here s c.end) (tail (ahead s c.end)) c.kind q

  opens : turn_of c.kind c.short ≡ Opens → tail (ahead s i) ≡ tail (tail (ahead s c.end))
  opens q = ap tail (grown_by v refl) ∙ opens_tail s i c (here s c.end) (tail (ahead s c.end)) c.kind q

  closes : turn_of c.kind c.short ≡ Closes → tail (ahead s i) ≡ ahead s c.end
  closes q = ap tail (grown_by v refl) ∙ close_tail s i c (here s c.end) (tail (ahead s c.end)) c.kind q ∙ sym (split (from s c.end))

-- behind the content there is one level, and nothing at it
pub nothing_ahead : (s : List ℕ) (i : ℕ) → length s ≤ i → ahead s i ≡ end ∷ []
unfolding pieces levels
nothing_ahead s i h = rw (drop_of_length-le s h)

-- ── a walk over the pieces ──

-- what is said of the place where the walk over the content stands
pub record Walking (s : List ℕ) (p : Pieces) (P : ℕ → Type 0) : Type 0 where
  pub is : P p.at
  pub content : p.content.now ≡ s

module _ {s : List ℕ} {p q : Pieces} {P : ℕ → Type 0} (w : Walking s p P) where
  module _ {x : Placed} (g : Came p x q) where
    pub walk_here : P x.place
    walk_here = subst P (sym g.place) w.is

    pub walk_stands : Stands s x.place x.cut
    walk_stands = rw (g.place, ← w.content) g.stands

    pub walk_on : {Q : ℕ → Type 0} → Q x.cut.end → Walking s q Q
    walk_on {Q} h = record { is = subst Q (sym g.at) h; content = g.content ∙ w.content }

  pub walk_out : Over p q → length s ≤ p.at
  walk_out g = rw w.content at g.out

-- ── behind an end tag ──

-- `d` levels are open below the level that is to be closed
pub record Seeks (s : List ℕ) (at i d : ℕ) : Type 0 where
  pub is : tail (ahead s at) ≡ drop d (tail (ahead s i))
  pub deep : d < length (tail (ahead s i))
  pub low : at ≤ i
  pub high : i ≤ length s
  pub few : d ≤ i

pub seek : (s : List ℕ) (at : ℕ) → at ≤ length s → 2 ≤ length (ahead s at) → Seeks s at at 0
seek s at h l = record { is = refl; deep = omega (arith, length_tail (ahead s at)); low = omega arith; high = h; few = omega arith }

module _ {s : List ℕ} {at i d : ℕ} (w : Seeks s at i d) where
  pub sought : {r : ℕ} → length s ≤ i → Behind s at r
  sought h = absurd (omega (arith, w.deep, ap (λ (l : List Nodes). length (tail l)) (nothing_ahead s i h)))

  module _ {c : Cut} (v : Stands s i c) {t : Turn} (e : t ≡ turn_of c.kind c.short) where
    pub seek_on : t ≡ Stays → Seeks s at c.end d
    seek_on q =
        let k = stays v (sym e ∙ q) in
        record { is = w.is ∙ ap (drop d) k; deep = rw k at w.deep; low = omega (arith, w.low, v.cut.low); high = v.cut.high; few = omega (arith, w.few, v.cut.low) }

    pub seek_in : t ≡ Opens → Seeks s at c.end (d + 1)
    seek_in q =
        let k = opens v (sym e ∙ q) in
        record {
          is = w.is ∙ ap (drop d) k ∙ drop_tail d (tail (ahead s c.end)) ∙ ap (λ n. drop n (tail (ahead s c.end))) (sym (add-one d));
          deep = omega (arith, w.deep, ap length k, length_tail (tail (ahead s c.end)));
          low = omega (arith, w.low, v.cut.low);
          high = v.cut.high;
          few = omega (arith, w.few, v.cut.low);
        }

    pub seek_out : t ≡ Closes → (d ≡ 0 → ⊥) → Seeks s at c.end (d - 1)
    seek_out q z =
        let k = closes v (sym e ∙ q) in
        let m : d ≡ suc (d - 1) = omega arith in
        record {
          is = w.is ∙ ap (drop d) k ∙ ap (λ n. drop n (ahead s c.end)) m ∙ sym (drop_tail (d - 1) (ahead s c.end));
          deep = omega (arith, w.deep, ap length k, length_tail (ahead s c.end));
          low = omega (arith, w.low, v.cut.low);
          high = v.cut.high;
          few = omega (arith, w.few, v.cut.low);
        }

    pub seek_end : t ≡ Closes → d ≡ 0 → Behind s at c.end
    seek_end q z =
        record {
          is = w.is ∙ ap (λ n. drop n (tail (ahead s i))) z ∙ closes v (sym e ∙ q);
          low = omega (arith, w.low, v.cut.low);
          high = v.cut.high;
        }

    pub shorter : length s - c.end < length s - i
    shorter = omega (arith, v.cut.low, v.cut.high)

-- ── behind an element ──

module _ {s : List ℕ} {at : ℕ} {c : Cut} (v : Stands s at c) (k : c.kind ≡ Start) (l : 2 ≤ length (ahead s at)) where
  starts : (b : Bool) → c.short ≡ b → from s at ≡ (at, start (name_in s c) (attributes_in s c) b) ∷ from s c.end
  unfolding piece_of
  starts b e = v.is ∙ rw (k, e)

  pub passed_short : c.short ≡ true → Passed s at c c.end
  unfolding tree top
  passed_short e =
      let g = ap levels (starts true e) ∙ short_levels at (from s c.end) (name_in s c) (attributes_in s c) in
      record {
        is = ap top g ∙ sym (rw e);
        deep = omega (arith, l, ap length g, ap length (split (from s c.end)));
        low = v.cut.low;
        high = v.cut.high;
      }

  pub passed_long : {r : ℕ} → c.short ≡ false → Behind s c.end r → Passed s at c r
  unfolding tree top
  passed_long {r} e w =
      let g = ap levels (starts false e) ∙ start_levels at (from s c.end) (name_in s c) (attributes_in s c) (from s r) w.is in
      record {
        is = ap top g ∙ sym (rw e);
        deep = omega (arith, l, ap length g, ap length (split (from s r)));
        low = omega (arith, v.cut.low, w.low);
        high = w.high;
      }

  pub long_deep : c.short ≡ false → 2 ≤ length (ahead s c.end)
  unfolding turn_of
  long_deep e =
      let q = opens v (rw (k, e)) in
      omega (arith, l, ap length q, length_tail (ahead s at), length_tail (tail (ahead s c.end)), length_tail (ahead s c.end))

  pub tag_high : c.end ≤ length s
  tag_high = v.cut.high

pub ruleset passing = (passed_short, passed_long, long_deep, tag_high, rules)

-- ── the next child ──

pub record Looks (s : List ℕ) (at i : ℕ) : Type 0 where
  pub is : first_child (here s at) ≡ first_child (here s i)
  pub deep : 2 ≤ length (ahead s i)
  pub low : at ≤ i
  pub high : i ≤ length s

module _ {s : List ℕ} {at i : ℕ} (w : Looks s at i) where
  pub looked : length s ≤ i → NextChild s at None
  unfolding first_child tree top
  looked h = nowhere (w.is ∙ ap (λ (l : List Nodes). first_child (top l)) (nothing_ahead s i h))

  module _ {c : Cut} (v : Stands s i c) where
    pub look_finish : c.kind ≡ Finish → NextChild s at None
    unfolding first_child tree top piece_of grow
    look_finish k = nowhere (w.is ∙ ap (λ (l : List Nodes). first_child (top l)) (grown_by v k))

    on : turn_of c.kind c.short ≡ Stays → first_child (here s i) ≡ first_child (here s c.end) → Looks s at c.end
    on q e =
        record {
          is = w.is ∙ e;
          deep = omega (arith, w.deep, ap length (stays v q), length_tail (ahead s i), length_tail (ahead s c.end));
          low = omega (arith, w.low, v.cut.low);
          high = v.cut.high;
        }

    look_remark : c.kind ≡ Remark → Looks s at c.end
    unfolding first_child tree top piece_of grow turn_of
    look_remark k = on (rw k) (ap (λ (l : List Nodes). first_child (top l)) (grown_by v k))

    look_refer : c.kind ≡ Refer → Looks s at c.end
    unfolding first_child tree top piece_of grow turn_of
    look_refer k = on (rw k) (ap (λ (l : List Nodes). first_child (top l)) (grown_by v k))

    look_text : c.kind ≡ Text → Looks s at c.end
    unfolding first_child tree top piece_of grow turn_of
    look_text k = on (rw k) (ap (λ (l : List Nodes). first_child (top l)) (grown_by v k))

    look_malformed : c.kind ≡ Malformed → Looks s at c.end
    unfolding first_child tree top piece_of grow turn_of
    look_malformed k = on (rw k) (ap (λ (l : List Nodes). first_child (top l)) (grown_by v k))

    look_unsupported : c.kind ≡ Unsupported → Looks s at c.end
    unfolding first_child tree top piece_of grow turn_of
    look_unsupported k = on (rw k) (ap (λ (l : List Nodes). first_child (top l)) (grown_by v k))

    pub look_on : (c.kind ≡ Start → ⊥) → (c.kind ≡ Finish → ⊥) → Looks s at c.end
    look_on a b = by c.kind refl
      where
        by : (k : Kind) → c.kind ≡ k → Looks s at c.end
        by Start e = absurd (a e)
        by Finish e = absurd (b e)
        by Remark e = look_remark e
        by Refer e = look_refer e
        by Text e = look_text e
        by Malformed e = look_malformed e
        by Unsupported e = look_unsupported e

pub look_start : {s : List ℕ} {at : ℕ} {x : Placed} → Looks s at x.place → Stands s x.place x.cut → x.cut.kind ≡ Start → NextChild s at (Some x)
look_start w v k = there v k w.is w.deep w.low

-- ── a child by its name ──

-- what is asked by name is asked of the children from the first on
named_first : (n : List ℕ) (u : Nodes) → child_of n u ≡ child_of n (first_child u)
unfolding child_of first_child
named_first n end = refl
named_first n (other p c following) = named_first n following
named_first n (element p m s kids following) = refl

named_short : (n : List ℕ) (p : ℕ) (m : List ℕ) (a : List Attribute) (f : Nodes) → same n m ≡ true → child_of n (element p m a end f) ≡ some end
unfolding child_of
named_short n p m a f e = rw e

named_long : (n : List ℕ) (p : ℕ) (m : List ℕ) (a : List Attribute) (kids : Nodes) (fs : List Nodes) → same n m ≡ true
    → 2 ≤ length (grow p (start m a false) (kids ∷ fs)) → child_of n (top (grow p (start m a false) (kids ∷ fs))) ≡ some kids
unfolding child_of grow top
named_long n p m a kids [] e h = absurd (omega arith)
named_long n p m a kids (f ∷ fs) e h = rw e

module _ {s : List ℕ} {p : ℕ} {c : Cut} (v : Stands s p c) (k : c.kind ≡ Start) (l : 2 ≤ length (ahead s p)) where
  long_grown : c.short ≡ false → ahead s p ≡ grow p (start (name_in s c) (attributes_in s c) false) (here s c.end ∷ tail (ahead s c.end))
  unfolding levels
  long_grown q = ap levels (starts v k l false q) ∙ ap (grow p (start (name_in s c) (attributes_in s c) false)) (split (from s c.end))

  part_inside : Inside s (part_of c)
  unfolding Inside part_of
  part_inside = by c.short refl
    where
      by : (b : Bool) → c.short ≡ b → Inside s (cond b Empty (From c.end))
      by true q = tt
      by false q = (v.cut.high, long_deep v k l q)

  module _ (n : List ℕ) where
    named_here : same n (name_in s c) ≡ true → (b : Bool) → c.short ≡ b → nodes_in s (part_of c) ≡ child_of n (here s p)
    unfolding nodes_in part_of tree top
    named_here e true q =
        let g = ap levels (starts v k l true q) ∙ short_levels p (from s c.end) (name_in s c) (attributes_in s c) in
        rw q (sym (ap (λ (x : List Nodes). child_of n (top x)) g ∙ named_short n p (name_in s c) (attributes_in s c) _ e))
    named_here e false q =
        let g = long_grown q in
        rw q (sym (ap (λ (x : List Nodes). child_of n (top x)) g ∙ named_long n p (name_in s c) (attributes_in s c) (here s c.end) (tail (ahead s c.end)) e (rw g at l)))

    named_not : {r : ℕ} → same n (name_in s c) ≡ false → Passed s p c r → child_of n (here s p) ≡ child_of n (here s r)
    unfolding child_of
    named_not e w = ap (child_of n) w.is ∙ rw e

-- what is asked from a place on is what was asked first
pub record Asking (s : List ℕ) (at : ℕ) (n : List ℕ) (i : ℕ) : Type 0 where
  pub is : child_of n (here s at) ≡ child_of n (here s i)
  pub deep : 2 ≤ length (ahead s i)
  pub high : i ≤ length s

pub ask : (s : List ℕ) (at : ℕ) (n : List ℕ) → at ≤ length s → 2 ≤ length (ahead s at) → Asking s at n at
ask s at n h l = record { is = refl; deep = l; high = h }

pub ask_high : {s : List ℕ} {at : ℕ} {n : List ℕ} {i : ℕ} → Asking s at n i → i ≤ length s
ask_high w = w.high

pub ask_deep : {s : List ℕ} {at : ℕ} {n : List ℕ} {i : ℕ} → Asking s at n i → 2 ≤ length (ahead s i)
ask_deep w = w.deep

-- what a next child is
record IsChild (s : List ℕ) (i p : ℕ) (c : Cut) : Type 0 where
  stands : Stands s p c
  kind : c.kind ≡ Start
  first : first_child (here s i) ≡ first_child (here s p)
  deep : 2 ≤ length (ahead s p)
  low : i ≤ p

is_child : {s : List ℕ} {i : ℕ} {r : Maybe Placed} → NextChild s i r → {x : Placed} → r ≡ Some x → IsChild s i x.place x.cut
is_child (there {x = y} v k f l h) {x} e = let z : y ≡ x = cc in rw (← z) record { stands = v; kind = k; first = f; deep = l; low = h }
is_child (nowhere f) e = impossible (cc)

module _ {s : List ℕ} {i : ℕ} {x : Placed} (n : NextChild s i (Some x)) where
  abbrev child_is : IsChild s i x.place x.cut
  child_is = is_child n refl

  pub child_stands : Stands s x.place x.cut
  child_stands = child_is.stands

  pub child_start : x.cut.kind ≡ Start
  child_start = child_is.kind

  pub child_deep : 2 ≤ length (ahead s x.place)
  child_deep = child_is.deep

  pub child_first : first_child (here s i) ≡ first_child (here s x.place)
  child_first = child_is.first

  pub ask_less : {z : ℕ} → Passed s x.place x.cut z → length s - z < length s - i
  ask_less w = omega (arith, child_is.low, w.low, w.high)

  module _ {at : ℕ} {m : List ℕ} (w : Asking s at m i) where
    asked : child_of m (here s at) ≡ child_of m (here s x.place)
    asked = w.is ∙ named_first m (here s i) ∙ ap (child_of m) child_is.first ∙ sym (named_first m (here s x.place))

    pub is_there : {b : Bool} {q : Part} → b ≡ same m (name_in s x.cut) → b ≡ true → q ≡ part_of x.cut → Named s at m q
    is_there f g h =
        rw h record { is = named_here child_is.stands child_is.kind child_is.deep m (sym f ∙ g) x.cut.short refl ∙ sym asked; inside = part_inside child_is.stands child_is.kind child_is.deep }

    pub ask_on : {b : Bool} {z : ℕ} → b ≡ same m (name_in s x.cut) → b ≡ false → Passed s x.place x.cut z → Asking s at m z
    ask_on f g y = record { is = asked ∙ named_not child_is.stands child_is.kind child_is.deep m (sym f ∙ g) y; deep = y.deep; high = y.high }

none_first : {s : List ℕ} {i : ℕ} {r : Maybe Placed} → NextChild s i r → r ≡ None → first_child (here s i) ≡ end
none_first (there v k f l h) e = impossible (cc)
none_first (nowhere f) e = f

pub no_child : {s : List ℕ} {i : ℕ} → NextChild s i None → first_child (here s i) ≡ end
no_child x = none_first x refl

pub not_there : {s : List ℕ} {at : ℕ} {n : List ℕ} {i : ℕ} → Asking s at n i → NextChild s i None → Named s at n Missing
unfolding nodes_in Inside child_of
not_there {n = n} {i = i} w x = record { is = sym (w.is ∙ named_first n (here _ i) ∙ ap (child_of n) (no_child x)); inside = tt }

pub ruleset asking = (ask, ask_high, ask_deep, child_stands, child_start, child_deep, ask_less, is_there, ask_on, not_there, rules)
