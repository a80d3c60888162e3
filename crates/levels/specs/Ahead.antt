-- What is to come from a place on, as pieces and as a tree; the parts of a tag.
use mathlib.Core.List.{List, tail}
use Rattle.std.specs.Prelude.{ℕ, drop}
use Rattle.cdi.specs.Pieces.{Attribute, Piece, attributes, pieces}
use Rattle.pieces_cuts.specs.Places.{part}
use Rattle.pieces_cuts.specs.declared.Cut.{Cut}
use Rattle.cdi.specs.Tree.{Nodes, levels, tree}

-- the pieces from a place on
abbrev pub from : List ℕ → ℕ → List (ℕ × Piece)
from s at = pieces at 0 (drop at s)

-- a tag's name
abbrev pub name_in : List ℕ → Cut → List ℕ
name_in s c = part s c.name c.behind

-- a start tag's attributes
abbrev pub attributes_in : List ℕ → Cut → List Attribute
attributes_in s c = attributes c.behind 0 (drop c.behind s)

-- what is still to come at the level of a place, up to that level's end
abbrev pub here : List ℕ → ℕ → Nodes
here s at = tree (from s at)

-- what is still to come at the levels around it
abbrev pub outer : List ℕ → ℕ → List Nodes
outer s at = tail (levels (from s at))
