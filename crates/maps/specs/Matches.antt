-- What a property is compared with, and how.
use Rattle.std.specs.Prelude.{List, Bool, false, cond, ℕ}
use Rattle.cdi.specs.Lists.{ascii, given, same}
use Rattle.cdi.specs.Tree.{Nodes, end}
use Rattle.cdi.specs.Values.{with_sign}
use Rattle.cdi.specs.Access.{Value, integer, event, string, child_of}
use Rattle.maps.specs.declared.Wanted.{Wanted}
use Rattle.maps.specs.declared.Wanted.TheVariants.{Number, Event, Text}

unfoldable pub wanted_of : Wanted → List ℕ → Value
wanted_of (Number b m) t = integer (with_sign b m)
wanted_of (Event v) t = event v
wanted_of Text t = string t

-- no content
abbrev pub no_nodes : Nodes
no_nodes = end

-- an element of that name and content is a relation whose property passes
unfoldable pub match_of : (Nodes → Bool) → List ℕ → Nodes → Bool
match_of f n kids = cond (same n (ascii "relation")) (given (child_of (ascii "property") kids) false f) false
