-- The numbers in an int's own content.
use Rattle.std.specs.Prelude as std
use Rattle.std.specs.Prelude.{List, Bool, false, ℕ, ℤ, pos}
use Rattle.std.proofs.Math.Option.{Option}
use Rattle.cdi.specs.Lists.{◌>>=◌}
use Rattle.cdi.specs.Tree.{Nodes}
use Rattle.cdi.specs.Rules.{own_number, largest}
use Rattle.cdi.specs.Access.{child_of}
use Rattle.numbers.specs.Held.{signed_of}
use Rattle.numbers.specs.declared.Signed.{Signed}

-- the number that a content is, where there is one
unfoldable pub own_in : Option Nodes → Option ℤ
own_in o = o >>= own_number

-- the number that the child of that name is
unfoldable pub child_number : List ℕ → Option Nodes → Option ℤ
child_number n o = own_in (o >>= child_of n)

-- ── as the code holds them ──

unfoldable pub below_zero : std.Option Signed → Bool
below_zero (std.Some n) = n.negative
below_zero std.None = false

-- the number, or the other one where there is none
unfoldable pub number_or : std.Option Signed → Signed → Signed
number_or (std.Some n) m = n
number_or std.None m = m

-- "Missing min is 0"
unfoldable pub low_of : std.Option Signed → Signed
low_of min = number_or min (signed_of (pos 0))

-- "missing max is the largest value", by min and max
unfoldable pub high_of : ℕ → std.Option Signed → std.Option Signed → Signed
high_of size min max = number_or max (signed_of (largest (below_zero min) size))
