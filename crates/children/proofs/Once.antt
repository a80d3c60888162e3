-- One answer: any two places that a contract allows have the same to come, and any two next children are the same. (A content is known by what it
-- holds, not by its place: see the decision on places.)
use mathlib.Core.Path.{◌≡◌, refl, sym, ap, ◌∙◌}
use mathlib.Core.List.{List, [], ◌∷◌}
use mathlib.Core.Bool.{Bool, true, false}
use mathlib.Core.Option.{Option, none, some}
use Prim.Native.Nat.{ℕ, ◌≤◌}
use native.Mathlib.Omega.{arith}
use lib.ListN.{length}
use Rattle.cdi.specs.Pieces.{Attribute, start}
use Rattle.cdi.specs.Tree.{Nodes, end, element, other, grow, levels, top, tree}
use Rattle.cdi.proofs.Quiet.{impossible}
use Rattle.pieces_cuts.specs.Cuts.{piece_of, Stands}
use Rattle.pieces_cuts.specs.declared.Kind.TheVariants.{Start}
use Rattle.pieces_cuts.specs.declared.Cut.{Cut}
use Rattle.pieces.proofs.Once.{piece_at_once}
use Rattle.levels.specs.Ahead.{here}
use Rattle.children.specs.Siblings.{ahead, Behind, Passed, first_child, NextChild, nodes_in, Named}
use Rattle.children.specs.Siblings.NextChild.{there, nowhere}
use Rattle.children.specs.declared.Placed.{Placed}
use Rattle.std.specs.Prelude.{Some, None, Option as Maybe}
use Rattle.children.specs.declared.Part.{Part}

pub behind_once : {s : List ℕ} {at q r : ℕ} → Behind s at q → Behind s at r → ahead s q ≡ ahead s r
behind_once v w = sym v.is ∙ w.is

following : {p : ℕ} {n : List ℕ} {a : List Attribute} {k f g : Nodes} → element p n a k f ≡ element p n a k g → f ≡ g
following e = cc

pub after_once : {s : List ℕ} {at : ℕ} {c : Cut} {q r : ℕ} → Passed s at c q → Passed s at c r → here s q ≡ here s r
after_once v w = following (sym v.is ∙ w.is)

pub content_of_once : {s : List ℕ} {at : ℕ} {n : List ℕ} {q r : Part} → Named s at n q → Named s at n r → nodes_in s q ≡ nodes_in s r
content_of_once v w = v.is ∙ sym w.is

-- ── the next child ──

-- the place of the first of them, if that is an element
place_of : Nodes → Option ℕ
place_of end = none
place_of (element p n a kids f) = some p
place_of (other p c f) = none

grown : (p : ℕ) (n : List ℕ) (a : List Attribute) (short : Bool) (fs : List Nodes) → 2 ≤ length (grow p (start n a short) fs)
    → place_of (first_child (top (grow p (start n a short) fs))) ≡ some p
unfolding grow top first_child place_of
grown p n a short [] h = absurd (omega arith)
grown p n a true (f ∷ fs) h = refl
grown p n a false (f ∷ []) h = absurd (omega arith)
grown p n a false (kids ∷ f ∷ fs) h = refl

stands_at : {s : List ℕ} {p : ℕ} {c : Cut} → Stands s p c → c.kind ≡ Start → 2 ≤ length (ahead s p) → place_of (first_child (here s p)) ≡ some p
unfolding tree levels piece_of
stands_at {s} {p} {c} v e h = rw (v.is, e) (grown p _ _ c.short _ (rw (v.is, e) at h))

same_place : {p q : ℕ} → some p ≡ some q → p ≡ q
same_place e = cc

abbrev child : ℕ → Cut → Placed
child p t = record { place = p; cut = t }

same_child : {c d : Placed} → c.place ≡ d.place → c.cut ≡ d.cut → c ≡ d
same_child {c} {d} x y = ap (λ p. child p c.cut) x ∙ ap (child d.place) y

pub next_child_once : {s : List ℕ} {at : ℕ} (q r : Maybe Placed) → NextChild s at q → NextChild s at r → q ≡ r
unfolding place_of
next_child_once {s} (Some c) (Some d) (there v k e h l) (there w m f i j) =
    let x : c.place ≡ d.place = same_place (sym (stands_at v k h) ∙ ap place_of (sym e ∙ f) ∙ stands_at w m i) in
    let y : c.cut ≡ d.cut = piece_at_once v (rw (← x) at w) in
    ap Some (same_child x y)
next_child_once (Some c) None (there v k e h l) (nowhere f) = let z : some c.place ≡ none = sym (stands_at v k h) ∙ ap place_of (sym e ∙ f) in impossible (cc)
next_child_once None (Some c) (nowhere f) (there v k e h l) = let z : some c.place ≡ none = sym (stands_at v k h) ∙ ap place_of (sym e ∙ f) in impossible (cc)
next_child_once None None (nowhere e) (nowhere f) = refl
