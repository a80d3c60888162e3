-- One answer: any two results that a contract allows are the same. (A content is known by what it holds, not by its place: see the decision on places.)
use mathlib.Core.Path.{◌≡◌, sym, ◌∙◌}
use mathlib.Core.List.{List}
use mathlib.Core.Bool.{Bool, true}
use mathlib.Core.Option.{Option}
use Prim.Native.Nat.{ℕ}
use lib.IntN.{ℤ}
use Rattle.cdi.specs.Lists.{ascii, given, any}
use Rattle.cdi.specs.Tree.{Nodes}
use Rattle.cdi.specs.Numbers.{within}
use Rattle.cdi.specs.Rules.{bound_of, is_signed, bounds_of}
use Rattle.cdi.specs.Access.{Value, child_of, properties, has_map, equals}
use Rattle.numbers.specs.Held.{number_of}
use Rattle.numbers.specs.declared.Signed.{Signed}
use Rattle.std.specs.Prelude as std
use Rattle.children.specs.Siblings.{nodes_in}
use Rattle.children.specs.declared.Part.{Part}
use Rattle.settings.specs.Limits.{child_number}

pub child_number_once : (n : List ℕ) (o : Option Nodes) (r q : std.Option Signed) → r ≡ number_of (child_number n o) → q ≡ number_of (child_number n o) → r ≡ q
child_number_once n o r q e f = e ∙ sym f

pub child_in_once : (s : List ℕ) (n : List ℕ) (kids : Nodes) (r q : Part) → nodes_in s r ≡ child_of n kids → nodes_in s q ≡ child_of n kids → nodes_in s r ≡ nodes_in s q
child_in_once s n kids r q e f = e ∙ sym f

pub content_at_once : (s : List ℕ) (o : Option Nodes) (r q : Part) → nodes_in s r ≡ o → nodes_in s q ≡ o → nodes_in s r ≡ nodes_in s q
content_at_once s o r q e f = e ∙ sym f

pub has_map_once : (kids : Nodes) (r q : Bool) → r ≡ has_map kids → q ≡ has_map kids → r ≡ q
has_map_once kids r q e f = e ∙ sym f

pub is_admitted_once : (kids : Nodes) (v : Value) (r q : Bool) → r ≡ given (child_of (ascii "map") kids) true (λ m. any (equals v) (properties m))
    → q ≡ given (child_of (ascii "map") kids) true (λ m. any (equals v) (properties m)) → r ≡ q
is_admitted_once kids v r q e f = e ∙ sym f

pub is_signed_once : (kids : Nodes) (r q : Bool) → r ≡ is_signed (bound_of (ascii "min") kids) → q ≡ is_signed (bound_of (ascii "min") kids) → r ≡ q
is_signed_once kids r q e f = e ∙ sym f

pub is_in_bounds_once : (n : ℕ) (kids : Nodes) (z : ℤ) (r q : Bool) → r ≡ within (bounds_of n kids).min (bounds_of n kids).max z
    → q ≡ within (bounds_of n kids).min (bounds_of n kids).max z → r ≡ q
is_in_bounds_once n kids z r q e f = e ∙ sym f
