-- A comment, an instruction or a reference: what it refers to doesn't count.
use mathlib.Core.Path.{◌≡◌, refl}
use mathlib.Core.Bool.{true}
use Prim.Native.Nat.{ℕ}
use Rattle.cdi.specs.Pieces.{refer}
use Rattle.cdi.specs.Rules.{stray_faults}
use Rattle.rules_judge.specs.declared.Said.{Said}
use Rattle.rules_judge.specs.declared.Said.TheVariants.{Silent, No, Large, Value}
use Rattle.rules_judge.specs.declared.Judge.{Judge}
use Rattle.rules_judge.specs.Judging.{spoken, other_of}
use Rattle.judges_state.specs.Steps.{rare_of}

same_word : (said : Said) (k : ℕ) → spoken said (refer 0) ≡ spoken said (refer k)
unfolding spoken
same_word Silent k = refl
same_word No k = refl
same_word Large k = refl
same_word (Value w) k = refl

module _ (j : Judge) (p : ℕ) where
  pub a_reference : (k : ℕ) → other_of j p (rare_of true) ≡ other_of j p (refer k)
  unfolding other_of rare_of stray_faults
  a_reference k = rw (same_word j.said k)
