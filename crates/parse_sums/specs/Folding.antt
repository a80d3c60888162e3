-- The fold of a tree, from left to right.
use Rattle.std.specs.Prelude.{List, ℤ}
use Rattle.cdi.specs.Tree.{Nodes, end, element, other}
use Rattle.parse_sums.specs.Sums.{enter_of, other_of, leave_of, written_of}
use Rattle.parse_sums.specs.declared.State.{State}

-- what a fold gives: the state at the end, and the table
pub record Folded : Type 0 where
  pub state : State
  pub table : List ℤ

abbrev pub folded : State → List ℤ → Folded
folded st t = record { state = st; table = t }

-- an element's content is folded from the state inside it; what follows it, from the state behind it
unfoldable pub fold_nodes : State → List ℤ → Nodes → Folded
fold_nodes st t end = folded st t
fold_nodes st t (other p c following) = fold_nodes (other_of st p c) t following
fold_nodes st t (element p n s kids following) =
    let i = fold_nodes (enter_of st p n s) t kids in
    fold_nodes (leave_of st p n s i.state) (written_of st p n s i.state i.table) following
