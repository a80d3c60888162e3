-- The levels of the tree, piece by piece.
use mathlib.Core.Path.{◌≡◌, refl, sym, ap, ◌∙◌}
use mathlib.Core.List.{List, [], ◌∷◌, tail}
use mathlib.Core.Bool.{true, false}
use Prim.Native.Nat.{ℕ}
use Rattle.cdi.specs.Pieces.{Attribute, Piece, start, finish, remark, refer, text, malformed, unsupported}
use Rattle.cdi.specs.Tree.{Nodes, end, element, other, grow, levels, top, tree}

grow_split : (p : ℕ) (c : Piece) (f : Nodes) (fs : List Nodes) → grow p c (f ∷ fs) ≡ top (grow p c (f ∷ fs)) ∷ tail (grow p c (f ∷ fs))
unfolding grow top
grow_split p (start n s true) f fs = refl
grow_split p (start n s false) f [] = refl
grow_split p (start n s false) kids (f ∷ fs) = refl
grow_split p (finish n) f fs = refl
grow_split p remark f fs = refl
grow_split p (refer c) f fs = refl
grow_split p (text s) f fs = refl
grow_split p malformed f fs = refl
grow_split p unsupported f fs = refl

-- there is always a level: what is still to come at it, and the levels around it
pub split : (cs : List (ℕ × Piece)) → levels cs ≡ tree cs ∷ tail (levels cs)
unfolding levels tree top
split [] = refl
split (c ∷ cs) = rw (split cs) (grow_split c.0 c.1 (tree cs) (tail (levels cs)))

module _ (i : ℕ) (cs : List (ℕ × Piece)) where
  grown : (c : Piece) → levels ((i, c) ∷ cs) ≡ grow i c (tree cs ∷ tail (levels cs))
  unfolding levels
  grown c = ap (grow i c) (split cs)

  pub remark_levels : levels ((i, remark) ∷ cs) ≡ other i remark (tree cs) ∷ tail (levels cs)
  unfolding grow
  remark_levels = grown remark

  pub refer_levels : (c : ℕ) → levels ((i, refer c) ∷ cs) ≡ other i (refer c) (tree cs) ∷ tail (levels cs)
  unfolding grow
  refer_levels c = grown (refer c)

  pub text_levels : (s : List ℕ) → levels ((i, text s) ∷ cs) ≡ other i (text s) (tree cs) ∷ tail (levels cs)
  unfolding grow
  text_levels s = grown (text s)

  -- a start tag in the short form has no content
  pub short_levels : (n : List ℕ) (s : List Attribute) → levels ((i, start n s true) ∷ cs) ≡ element i n s end (tree cs) ∷ tail (levels cs)
  unfolding grow
  short_levels n s = grown (start n s true)

  -- an end tag opens a level
  pub finish_levels : (n : List ℕ) → levels ((i, finish n) ∷ cs) ≡ end ∷ levels cs
  unfolding grow
  finish_levels n = grown (finish n) ∙ ap (λ (fs : List Nodes). end ∷ fs) (sym (split cs))

  -- a start tag takes what is to come as its content, where what lies around that is what follows the element
  pub start_levels : (n : List ℕ) (s : List Attribute) (ds : List (ℕ × Piece)) → tail (levels cs) ≡ levels ds → levels ((i, start n s false) ∷ cs) ≡ element i n s (tree cs) (tree ds) ∷ tail (levels ds)
  unfolding grow
  start_levels n s ds e = grown (start n s false) ∙ ap (λ (fs : List Nodes). grow i (start n s false) (tree cs ∷ fs)) (e ∙ split ds)
