-- How deep the elements of a tree stand: markup without faults keeps depth 24.
use mathlib.Core.Path.{◌≡◌}
use mathlib.Core.List.{List, [], ◌∷◌, tail}
use mathlib.Core.Bool.{true, false}
use Prim.Native.Nat.{ℕ, suc, ◌≤◌}
use native.Mathlib.Omega.{arith}
use lib.ListN.{length}
use Rattle.cdi.specs.Pieces.{Piece, start, finish, remark, refer, text, malformed, unsupported}
use Rattle.cdi.specs.Markup.{Progress, piece_faults, next, markup_faults}
use Rattle.cdi.specs.Tree.{Nodes, end, element, other, grow, levels, top, tree}
use Rattle.cdi.proofs.Quiet.{empty_left, empty_right}
use Rattle.cdi.proofs.Places.{start_fits}

-- the elements of a tree that begins at depth d stand at depth 24 or less
unfoldable pub Deep : ℕ → Nodes → Type 0
Deep d end = Unit
Deep d (other p c following) = Deep d following
Deep d (element p n s kids following) = (d ≤ 24) × Deep (suc d) kids × Deep d following

less_deep : (d : ℕ) (t : Nodes) → Deep (suc d) t → Deep d t
unfolding Deep
less_deep d end h = tt
less_deep d (other p c following) h = less_deep d following h
less_deep d (element p n s kids following) h = (omega arith, less_deep (suc d) kids h.1, less_deep d following h.2)

-- the levels that are still open, below elements of these names
LevelsDeep : List (List ℕ) → List Nodes → Type 0
LevelsDeep ns [] = Unit
LevelsDeep ns (f ∷ fs) = Deep (suc (length ns)) f × LevelsDeep (tail ns) fs

grow_deep : (r : Progress) (p : ℕ) (c : Piece) (fs : List Nodes) → piece_faults r p c ≡ [] → LevelsDeep (next r c).names fs → LevelsDeep r.names (grow p c fs)
unfolding grow next LevelsDeep Deep
grow_deep r p c [] e h = tt
grow_deep r p (start n s true) (f ∷ fs) e h = (((start_fits r p n s true e).0, tt, h.0), h.1)
grow_deep r p (start n s false) (f ∷ []) e h = (less_deep (suc (length r.names)) f h.0, tt)
grow_deep r p (start n s false) (kids ∷ f ∷ fs) e h = (((start_fits r p n s false e).0, h.0, h.1.0), h.1.1)
grow_deep r p (finish n) (f ∷ fs) e h = (tt, h)
grow_deep r p remark (f ∷ fs) e h = h
grow_deep r p (refer c) (f ∷ fs) e h = h
grow_deep r p (text s) (f ∷ fs) e h = h
grow_deep r p malformed (f ∷ fs) e h = h
grow_deep r p unsupported (f ∷ fs) e h = h

levels_deep : (stop : ℕ) (r : Progress) (cs : List (ℕ × Piece)) → markup_faults stop r cs ≡ [] → LevelsDeep r.names (levels cs)
unfolding markup_faults levels LevelsDeep Deep
levels_deep stop r [] e = (tt, tt)
levels_deep stop r (c ∷ cs) e =
    grow_deep r c.0 c.1 (levels cs) (empty_left _ _ e) (levels_deep stop (next r c.1) cs (empty_right (piece_faults r c.0 c.1) _ e))

top_deep : (ns : List (List ℕ)) (fs : List Nodes) → LevelsDeep ns fs → Deep (suc (length ns)) (top fs)
unfolding LevelsDeep top Deep
top_deep ns [] h = tt
top_deep ns (f ∷ fs) h = h.0

-- The tree of markup without faults keeps depth 24.
pub tree_deep : (stop : ℕ) (r : Progress) (cs : List (ℕ × Piece)) → markup_faults stop r cs ≡ [] → Deep (suc (length r.names)) (tree cs)
unfolding tree
tree_deep stop r cs e = top_deep r.names (levels cs) (levels_deep stop r cs e)
