-- The first zero of a part.
use mathlib.Core.Path.{◌≡◌, refl, ap, ◌∙◌}
use mathlib.Core.List.{List, [], ◌∷◌}
use mathlib.Core.Bool.{Bool, true, false, cond}
use Prim.Native.Nat.{ℕ, ◌+◌}
use lib.Dec.{eqb}
use Rattle.std.specs.Prelude.{Some}
use Rattle.std.specs.List.{position, position_from}
use Rattle.std.proofs.Math.Option.{some}
use Rattle.std.proofs.lemmas.Iterator.Adapters.{position_from-zero}
use Rattle.cdi.specs.Text.{zero_from}
use Rattle.values.specs.Held.{zero_at}

zero_from_place : (i : ℕ) (s : List ℕ) → zero_at (position_from (λ b. eqb b 0) i s) ≡ zero_from i s
unfolding zero_at zero_from
zero_from_place i [] = refl
zero_from_place i (b ∷ s) = by (eqb b 0) (zero_from_place (i + 1) s)
  where
    by : (x : Bool) → zero_at (position_from (λ b. eqb b 0) (i + 1) s) ≡ zero_from (i + 1) s
        → zero_at (cond x (Some i) (position_from (λ b. eqb b 0) (i + 1) s)) ≡ cond x (some i) (zero_from (i + 1) s)
    by true h = refl
    by false h = h

-- the first byte that is zero
pub zero_placed : (s : List ℕ) → zero_at (position (λ b. eqb b 0) s) ≡ zero_from 0 s
zero_placed s = ap zero_at (position_from-zero (λ b. eqb b 0) s) ∙ zero_from_place 0 s
