-- The number that 64 bits are by their sign.
use mathlib.Core.Path.{◌≡◌, sym, ap, ◌∙◌}
use mathlib.Core.Bool.{true}
use Prim.Native.Nat.{ℕ, suc, ◌-◌, ◌^◌, ◌<◌, ◌≤◌}
use native.Mathlib.Omega.{arith}
use native.Mathlib.Decide.{dec_le}
use borrow.Author.Tests.{le-leb, lt-leb}
use mir.Syntax.{w64}
use mir.Val.{to_z}
use mir.ValLaws.{to_z_pos, to_z-neg}
use Rattle.cdi.specs.Values.{uncomplement}

pub turned : (v : ℕ) → v < 2 ^ 64 → to_z w64 v ≡ uncomplement true 8 v
unfolding uncomplement
turned v l = by (dec_le (2 ^ 63) v)
  where
    by : Dec (2 ^ 63 ≤ v) → to_z w64 v ≡ uncomplement true 8 v
    by (yes h) =
        let k = 2 ^ 64 - 1 - v in
        let e : 256 ^ 8 - v ≡ suc k = omega arith in
        let f : v ≡ 2 ^ 64 - suc k = omega arith in
        ap (to_z w64) f ∙ to_z-neg w64 k (omega arith) ∙ sym (rw (le-leb (2 ^ 63) v h, e))
    by (no h) = to_z_pos w64 v (omega arith) ∙ sym (rw (lt-leb (2 ^ 63) v (omega arith)))
