-- Values and attributes that stand at a place, or none.
use Rattle.std.specs.Prelude.{◌≡◌, List, ℕ, ◌+◌, ◌≤◌, drop, Option, MatchOption}
use Rattle.std.proofs.Math.Option.{none}
use Rattle.cdi.specs.Pieces.{quoted, attribute_at}
use Rattle.pieces_cuts.specs.Places.{Quoted, Here, attribute_from, Next}
use Rattle.pieces_cuts.specs.declared.places.Attribute.{Attribute as Places}

-- the place behind the value at a place, or none where no value stands there
abbrev pub Value : List ℕ → ℕ → Option ℕ → Type 0
Value s at r = MatchOption r (quoted (drop at s) ≡ none) (λ e. Quoted s at e × (at + 2 ≤ e))

-- the attribute whose name stands at a place, or none
abbrev pub Placed : List ℕ → ℕ → Option Places → Type 0
Placed s at r = MatchOption r (attribute_at (drop at s) ≡ none) (λ a. Here s at a × (a.end ≡ at → ⊥))

-- the next attribute of a tag from a place on, or none
abbrev pub Follows : List ℕ → ℕ → Option Places → Type 0
Follows s at r = MatchOption r (attribute_from (drop at s) ≡ none) (λ a. Next s at a × (a.end ≡ at → ⊥))
