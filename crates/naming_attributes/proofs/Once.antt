-- The contract allows one answer: any two answers that it allows are equal.
use mathlib.Core.Path.{◌≡◌}
use mathlib.Core.List.{List}
use Prim.Native.Nat.{ℕ}
use Rattle.names.specs.Names.{attribute_number}
use Rattle.pieces_cuts.specs.Places.{part, Name}
use Rattle.naming_words.specs.declared.Named.{Named}
use Rattle.naming_words.proofs.Once.{named_once}

pub attribute_name_once : {s : List ℕ} {at : ℕ} {q r : Named} → Name s at q.behind → q.number ≡ attribute_number (part s at q.behind)
    → Name s at r.behind → r.number ≡ attribute_number (part s at r.behind) → q ≡ r
attribute_name_once = named_once attribute_number
