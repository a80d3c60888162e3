-- What a piece of the third sort asks for.
use mathlib.Core.Path.{◌≡◌, refl}
use mathlib.Core.List.{List}
use mathlib.Core.Bool.{Bool}
use Prim.Native.Nat.{ℕ, ◌-◌}
use native.Mathlib.Omega.{arith}
use lib.ListN.{drop}
use Rattle.pieces_cuts.specs.declared.Kind.{Kind}
use Rattle.pieces_cuts.specs.declared.Kind.TheVariants.{Start, Finish, Remark, Refer, Text, Malformed, Unsupported}
use Rattle.pieces_cuts.specs.declared.Cut.{Cut}
use Rattle.marks_cuts.specs.Marks.{sort_at}
use Rattle.marks_cuts.proofs.Others.{other_start, other_finish, other_text}
use Rattle.parse_steps.specs.Asks.{step_of}
use Rattle.parse_steps.specs.declared.Step.TheVariants.{Pass, Stop}
use Rattle.parse_marks.specs.Rare.{rare_fault, Rares}

module _ {s : List ℕ} {at n e : ℕ} {r : Bool} (v : Rares s at n e r) (h : sort_at (drop at s) ≡ 3) where
  abbrev c : Cut
  c = v.cut

  -- it is refused with that number
  pub rare_stops : (n ≡ 0 → ⊥) → step_of c.kind ≡ Stop n
  unfolding step_of rare_fault
  rare_stops z = by c.kind v.number
    where
      by : (k : Kind) → n ≡ rare_fault k → step_of k ≡ Stop n
      by Start q = absurd (z q)
      by Finish q = absurd (z q)
      by Remark q = absurd (z q)
      by Refer q = absurd (z q)
      by Text q = absurd (z q)
      by Malformed q = rw q
      by Unsupported q = rw q

  -- or passed
  pub rare_passes : n ≡ 0 → step_of c.kind ≡ Pass
  unfolding step_of rare_fault
  rare_passes z = by c.kind refl v.number
    where
      by : (k : Kind) → c.kind ≡ k → n ≡ rare_fault k → step_of k ≡ Pass
      by Start q e = absurd (other_start h v.stands q)
      by Finish q e = absurd (other_finish h v.stands q)
      by Remark q e = refl
      by Refer q e = refl
      by Text q e = absurd (other_text h v.stands q)
      by Malformed q e = absurd (omega (arith, z, e))
      by Unsupported q e = absurd (omega (arith, z, e))
