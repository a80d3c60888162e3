-- One byte at a place.
use mathlib.Core.Path.{◌≡◌, refl, sym}
use mathlib.Core.List.{List, [], ◌∷◌}
use mathlib.Core.Bool.{Bool, false, true, ◌&&◌}
use Prim.Native.Nat.{ℕ, ◌≤◌, ◌<◌}
use borrow.Author.Rules.{rules}
use lib.Dec.{eqb}
use lib.ListN.{length, drop, get_or, drop_of_length-le}
use Rattle.cdi.specs.Lists.{begins}
use Rattle.scan.proofs.Along.{drop_next}

module _ (s : List ℕ) (at b : ℕ) where
  pub past_end : length s ≤ at → false ≡ begins (b ∷ []) (drop at s)
  unfolding begins
  past_end h = rw (drop_of_length-le s h)

  pub one_byte : at < length s → eqb b (get_or s at 0) ≡ begins (b ∷ []) (drop at s)
  unfolding begins
  one_byte h = rw (drop_next s at h) (sym (alone (eqb b (get_or s at 0))))
    where
      alone : (t : Bool) → (t && true) ≡ t
      alone true = refl
      alone false = refl

pub ruleset standing = (past_end, one_byte, rules)
