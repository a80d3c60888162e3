-- The contract allows one answer: any two answers that it allows are equal. That of `naming_ends::element_end` allows 0 besides, on which nothing rests.
use mathlib.Core.Path.{◌≡◌}
use mathlib.Core.List.{List}
use Prim.Native.Nat.{ℕ}
use Rattle.names.specs.Names.{element_number}
use Rattle.pieces_cuts.specs.Places.{part, Name}
use Rattle.naming_words.specs.declared.Named.{Named}
use Rattle.naming_words.proofs.Once.{named_once}

pub element_name_once : {s : List ℕ} {at : ℕ} {q r : Named} → Name s at q.behind → q.number ≡ element_number (part s at q.behind)
    → Name s at r.behind → r.number ≡ element_number (part s at r.behind) → q ≡ r
element_name_once = named_once element_number
