-- What the places mean that the readers of names, words and attributes answer.
use Rattle.std.specs.Prelude.{◌≡◌, List, [], Bool, true, false, cond, ℕ, ◌+◌, ◌-◌, ◌≤◌, ◌<◌, length, take, drop, get_or, eqb, ltb, Option as Maybe, MatchOption}
use Rattle.std.proofs.Math.Option.{Option, none, some}
use Rattle.cdi.specs.Lists.{ascii, after, begins, beyond}
use Rattle.cdi.specs.Pieces.{Attribute, blank, name_at, quoted, attribute_at, attributes, tag_end}
use Rattle.scan.specs.Spans.{span_end}
use Rattle.pieces_cuts.specs.declared.places.Attribute.{Attribute as Places}

-- the part from place a to before e
abbrev pub part : List ℕ → ℕ → ℕ → List ℕ
part s a e = take (e - a) (drop a s)

-- r stands behind the name at a place, or is that place where no name stands
pub record Name (s : List ℕ) (at r : ℕ) : Type 0 where
  pub is : name_at (drop at s) ≡ cond (eqb r at) none (some (part s at r, drop r s))
  pub low : at ≤ r
  pub high : r ≤ length s

-- r is the place behind the first such word from a place on, or none where there is none
abbrev pub Beyond : List ℕ → List ℕ → ℕ → Maybe ℕ → Type 0
Beyond w s at r = MatchOption r (beyond w (drop at s) ≡ none) (λ e. (beyond w (drop at s) ≡ some (drop e s)) × (0 < e) × (e ≤ length s))

-- ── attributes ──

-- r stands behind the value whose quote stands at a place, or not two bytes behind that place where no value does
pub record Quoted (s : List ℕ) (at r : ℕ) : Type 0 where
  pub is : quoted (drop at s) ≡ cond (ltb r (at + 2)) none (some (part s (at + 1) (r - 1), drop r s))
  pub high : r ≤ length s

-- the attribute that stands in these places
abbrev pub attribute_of : List ℕ → Places → Attribute
attribute_of s r = record { place = r.name; name = part s r.name r.behind; value = part s r.value r.close }

-- its name and its value
abbrev pub texts_of : List ℕ → Places → List ℕ × List ℕ
texts_of s r = (part s r.name r.behind, part s r.value r.close)

-- the places stand in order
pub record Ordered (s : List ℕ) (at : ℕ) (r : Places) : Type 0 where
  pub name : at ≤ r.name
  pub behind : r.name ≤ r.behind
  pub value : r.behind ≤ r.value
  pub close : r.value ≤ r.close
  pub end : r.close ≤ r.end
  pub high : r.end ≤ length s

-- the attribute whose name stands at a place; its end is that place where none does
pub record Here (s : List ℕ) (at : ℕ) (r : Places) : Type 0 where
  pub is : attribute_at (drop at s) ≡ cond (eqb r.end at) none (some (texts_of s r, drop r.end s))
  pub ordered : Ordered s at r
  pub first : r.name ≡ at
  pub last : (r.end ≡ at → ⊥) → r.close + 1 ≡ r.end

-- an attribute with the blanks that must stand before it, and what follows it
unfoldable pub attribute_from : List ℕ → Option ((List ℕ × List ℕ) × List ℕ)
attribute_from s = cond (blank (get_or s 0 0)) (attribute_at (after blank s)) none

-- the next attribute of a tag from a place on; its end is that place where there is none
pub record Next (s : List ℕ) (at : ℕ) (r : Places) : Type 0 where
  pub is : attribute_from (drop at s) ≡ cond (eqb r.end at) none (some (texts_of s r, drop r.end s))
  pub ordered : Ordered s at r
  pub first : (r.end ≡ at → ⊥) → r.name ≡ span_end blank s at
  pub last : (r.end ≡ at → ⊥) → r.close + 1 ≡ r.end

-- a tag's end, where no attribute stands before it
unfoldable pub closing : List ℕ → Option (Bool × List ℕ)
closing t = cond (begins (ascii ">") t) (some (false, drop 1 t)) (cond (begins (ascii "/>") t) (some (true, drop 2 t)) none)

-- r stands behind the last attribute from a place on
pub record Closes (s : List ℕ) (at r : ℕ) : Type 0 where
  pub is : tag_end 0 (drop at s) ≡ closing (after blank (drop r s))
  pub all : attributes r 0 (drop r s) ≡ []
  pub low : at ≤ r
  pub high : r ≤ length s
