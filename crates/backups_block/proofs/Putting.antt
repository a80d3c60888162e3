-- Filling a block: one part behind the other.
use mathlib.Core.Path.{◌≡◌}
use mathlib.Core.List.{List, [], ◌∷◌, ◌++◌, append_assoc}
use Prim.Native.Nat.{ℕ, ◌+◌, ◌-◌}
use native.Mathlib.Omega.{arith}
use lib.ListN.{length, replicate}
use Rattle.cdi.specs.Values.{bytes_of, padded}
use Rattle.blocks.specs.Blocks.{check_of, front_of, block}

-- the payload, and zeros behind it
pub area_put : (n : ℕ) (s x y z : List ℕ) → x ≡ s → y ≡ replicate (length z) 0 → length z + length s ≡ n → x ++ y ≡ padded n s
unfolding padded
area_put n s x y z e f h =
    let l : length z ≡ n - length s = omega arith in
    rw (e, f, l)

module _ (k sp fl : ℕ) (s x y : List ℕ) where
  pub front_put : x ≡ bytes_of 4 k ++ (bytes_of 2 (length s) ++ (sp ∷ fl ∷ [])) → y ≡ padded 502 s → x ++ y ≡ front_of k sp fl s
  unfolding front_of
  front_put e f = rw (e, f) (simp append_assoc)

  pub block_put : (r : ℕ) → x ≡ front_of k sp fl s → r ≡ check_of x → y ≡ bytes_of 2 r → x ++ y ≡ block k sp fl s
  unfolding block
  block_put r e c f = rw (e, f, c, e)

pub ruleset putting = (area_put, front_put, block_put, arith)
