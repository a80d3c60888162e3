-- What the children of an element are, by place.
use Rattle.std.specs.Prelude.{◌≡◌, Bool, cond, ℕ, ◌≤◌, ◌<◌, length, Some, None, Option as Maybe}
use mathlib.Core.List.{List, tail}
use Rattle.std.proofs.Math.Option.{Option, none, some}
use Rattle.cdi.specs.Tree.{Nodes, end, element, other, levels}
use Rattle.cdi.specs.Access.{child_of}
use Rattle.pieces_cuts.specs.Cuts.{Stands}
use Rattle.pieces_cuts.specs.declared.Kind.{Kind}
use Rattle.pieces_cuts.specs.declared.Kind.TheVariants.{Start, Finish, Remark, Refer, Text, Malformed, Unsupported}
use Rattle.pieces_cuts.specs.declared.Cut.{Cut}
use Rattle.levels.specs.Ahead.{from, name_in, attributes_in, here}
use Rattle.children.specs.declared.Turn.{Turn}
use Rattle.children.specs.declared.Turn.TheVariants.{Opens, Closes, Stays}
use Rattle.children.specs.declared.Placed.{Placed}
use Rattle.children.specs.declared.Part.{Part}
use Rattle.children.specs.declared.Part.TheVariants.{Missing, Empty, From}

-- what is still to come at each level that is open at a place, the innermost first
abbrev pub ahead : List ℕ → ℕ → List Nodes
ahead s at = levels (from s at)

-- a place in the content, at a level that an end tag closes
abbrev pub InLevel : List ℕ → ℕ → Type 0
InLevel s at = (at ≤ length s) × (2 ≤ length (ahead s at))

unfoldable pub turn_of : Kind → Bool → Turn
turn_of Start short = cond short Stays Opens
turn_of Finish short = Closes
turn_of Remark short = Stays
turn_of Refer short = Stays
turn_of Text short = Stays
turn_of Malformed short = Stays
turn_of Unsupported short = Stays

-- a place behind the end tag that closes the level of another: the levels around that one
pub record Behind (s : List ℕ) (at r : ℕ) : Type 0 where
  pub is : tail (ahead s at) ≡ ahead s r
  pub low : at < r
  pub high : r ≤ length s

-- an element's content, by its start tag
abbrev pub content_of : List ℕ → Cut → Nodes
content_of s c = cond c.short end (here s c.end)

-- a place behind the element whose start tag stands at another
pub record Passed (s : List ℕ) (at : ℕ) (c : Cut) (r : ℕ) : Type 0 where
  pub is : here s at ≡ element at (name_in s c) (attributes_in s c) (content_of s c) (here s r)
  pub deep : 2 ≤ length (ahead s r)
  pub low : at < r
  pub high : r ≤ length s

-- the children from the first on
unfoldable pub first_child : Nodes → Nodes
first_child end = end
first_child (other p c following) = first_child following
first_child (element p n s kids following) = element p n s kids following

pub data NextChild (s : List ℕ) (at : ℕ) : Maybe Placed → Type 0 where
  there : {x : Placed} → Stands s x.place x.cut → x.cut.kind ≡ Start → first_child (here s at) ≡ first_child (here s x.place) → 2 ≤ length (ahead s x.place) → at ≤ x.place → NextChild s at (Some x)
  nowhere : first_child (here s at) ≡ end → NextChild s at None

-- the content of the element with a start tag, as the code says it, and what that means
unfoldable pub part_of : Cut → Part
part_of c = cond c.short Empty (From c.end)

unfoldable pub nodes_in : List ℕ → Part → Option Nodes
nodes_in s Missing = none
nodes_in s Empty = some end
nodes_in s (From q) = some (here s q)

-- a place in content that is closed
unfoldable pub Inside : List ℕ → Part → Type 0
Inside s Missing = Unit
Inside s Empty = Unit
Inside s (From q) = InLevel s q

pub record Named (s : List ℕ) (at : ℕ) (n : List ℕ) (r : Part) : Type 0 where
  pub is : nodes_in s r ≡ child_of n (here s at)
  pub inside : Inside s r
