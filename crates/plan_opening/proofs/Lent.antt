-- The content of a text that was opened, as it is lent on.
use mathlib.Core.Path.{◌≡◌}
use mathlib.Core.List.{List}
use Prim.Native.Nat.{ℕ, ◌-◌, ◌≤◌}
use native.Mathlib.Omega.{arith}
use lib.ListN.{length, take, drop, length-take}
use Rattle.std.specs.Prelude.{Result, Ok}
use Rattle.refusals.specs.declared.Refusal.{Refusal}
use Rattle.plan_opening.specs.Openings.{Ended}

module _ (b : List ℕ) {o : Result ℕ Refusal} (e : Ended b o) {z : ℕ} (q : o ≡ Ok z) where
  there : Ended b (Ok z)
  there = rw q at e

  pub lent_end : z ≤ length b
  unfolding Ended
  lent_end = there.1.1.1

  pub lent_whole : length (take (z - 0) (drop 0 b)) ≡ z
  lent_whole = omega (arith, length-take (z - 0) b, lent_end)

  pub lent_long : 22 ≤ length (take (z - 0) (drop 0 b))
  unfolding Ended
  lent_long = omega (arith, there.1.0, lent_whole)

  pub lent_short : length (take (z - 0) (drop 0 b)) ≤ 65535
  unfolding Ended
  lent_short = omega (arith, there.1.1.0, lent_whole)
