-- The tree of elements, of pieces that have no fault.
use Rattle.std.specs.Prelude.{List, [], ◌∷◌, true, false, ℕ}
use Rattle.cdi.specs.Pieces.{Attribute, Piece, start, finish, remark, refer, text, malformed, unsupported}

-- what stands in an element, from some point on
pub data Nodes : Type 0 where
  -- nothing more
  end : Nodes
  -- an element: the place of its `<`, its name, its attributes, its content; then what follows it
  element : ℕ → List ℕ → List Attribute → Nodes → Nodes → Nodes
  -- any other piece, with its place; then what follows it
  other : ℕ → Piece → Nodes → Nodes

-- One more piece before what is known already. The list holds what follows at each level that is still open, the innermost first:
-- an end tag opens a level, and its start tag takes that level as its content.
unfoldable pub grow : ℕ → Piece → List Nodes → List Nodes
grow p c [] = []
grow p (start n s true) (f ∷ fs) = element p n s end f ∷ fs
grow p (start n s false) (f ∷ []) = f ∷ []
grow p (start n s false) (kids ∷ f ∷ fs) = element p n s kids f ∷ fs
grow p (finish n) (f ∷ fs) = end ∷ f ∷ fs
grow p remark (f ∷ fs) = other p remark f ∷ fs
grow p (refer c) (f ∷ fs) = other p (refer c) f ∷ fs
grow p (text s) (f ∷ fs) = other p (text s) f ∷ fs
grow p malformed (f ∷ fs) = f ∷ fs
grow p unsupported (f ∷ fs) = f ∷ fs

unfoldable pub levels : List (ℕ × Piece) → List Nodes
levels [] = end ∷ []
levels (c ∷ cs) = grow c.0 c.1 (levels cs)

-- the innermost level
unfoldable pub top : List Nodes → Nodes
top [] = end
top (f ∷ fs) = f

unfoldable pub tree : List (ℕ × Piece) → Nodes
tree cs = top (levels cs)

unfoldable pub tree_page : Unit {0}
unfolding grow levels top tree
tree_page = tt
