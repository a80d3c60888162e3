-- One answer: any two keys that the contract of `first_wrong` allows are the same.
use mathlib.Core.Path.{◌≡◌, sym, ◌∙◌}
use mathlib.Core.List.{List}
use Prim.Native.Nat.{ℕ}
use lib.ListN.{drop}
use Rattle.cdi.specs.Faults.{least}
use Rattle.cdi.specs.Pieces.{attributes}
use Rattle.cdi.specs.Rules.{names_faults}
use Rattle.keys.specs.Keys.{fault_in}
use Rattle.keys.proofs.Once.{key_once}
use Rattle.rules_judge.specs.Judging.{row_at}

pub first_wrong_once : (s : List ℕ) (at e q r : ℕ) → fault_in q ≡ least (names_faults (row_at e).attributes (attributes at 0 (drop at s)))
    → fault_in r ≡ least (names_faults (row_at e).attributes (attributes at 0 (drop at s))) → q ≡ r
first_wrong_once s at e q r v w = key_once q r (v ∙ sym w)
