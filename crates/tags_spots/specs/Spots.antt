-- What is told of an attribute beside its places.
use Rattle.std.specs.Prelude.{◌≡◌, List, Bool, false, ℕ, ◌+◌, ◌-◌, ◌≤◌, eqb}
use Rattle.cdi.specs.Lists.{any}
use Rattle.names.specs.Names.{attribute_number}
use Rattle.pieces_cuts.specs.Places.{part}
use Rattle.pieces_cuts.specs.declared.places.Attribute.{Attribute as Places}
use Rattle.tags_spots.specs.declared.Spot.{Spot}

-- its places
abbrev pub places_of : Spot → Places
places_of r = record { name = r.name; behind = r.behind; value = r.value; close = r.close; end = r.end }

-- the number of its name, and whether `&` stands in its value; nothing where its end is the place from which it was looked for
pub record Tells (s : List ℕ) (at : ℕ) (r : Spot) : Type 0 where
  pub number : (r.end ≡ at → ⊥) → r.number ≡ attribute_number (part s r.name r.behind)
  pub refers : (r.end ≡ at → ⊥) → r.refers ≡ any (eqb 38) (part s r.value r.close)
  pub none : r.end ≡ at → (r.number ≡ 0) × (r.refers ≡ false)

-- whether `&` stands in the value whose quote stands at a place, where one ends before e
pub record Refers (s : List ℕ) (at e : ℕ) (r : Bool) : Type 0 where
  pub is : at + 2 ≤ e → r ≡ any (eqb 38) (part s (at + 1) (e - 1))
  pub none : e ≡ at → r ≡ false
