-- One answer: any two results that the contract allows are the same.
use mathlib.Core.Path.{◌≡◌, sym, ◌∙◌}
use mathlib.Core.List.{List}
use mathlib.Core.Bool.{Bool}
use Prim.Native.Nat.{ℕ}
use Rattle.cdi.specs.Lists.{any}
use Rattle.cdi.specs.Access.{Value, equals, properties}
use Rattle.levels.specs.Ahead.{here}

pub is_listed_once : (s : List ℕ) (at : ℕ) (v : Value) (r q : Bool) → r ≡ any (equals v) (properties (here s at)) → q ≡ any (equals v) (properties (here s at)) → r ≡ q
is_listed_once s at v r q e f = e ∙ sym f
