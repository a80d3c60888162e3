-- A fixed word that stands at a place as a whole name.
use Rattle.std.specs.Prelude.{◌≡◌, List, [], ◌∷◌, Bool, false, cond, ◌&&◌, ℕ, ◌+◌, length, drop, get_or}
use Rattle.cdi.specs.Lists.{begins, all, between}
use Rattle.cdi.specs.Pieces.{name_start, name_byte}
use Rattle.pieces_cuts.specs.Places.{part, Name}

-- the place behind the word where it stands at a place and no name goes on behind it, or 0
unfoldable pub word_end : List ℕ → List ℕ → ℕ → ℕ
word_end w s at = let r = at + length w in cond (begins w (drop at s)) (cond (name_byte (get_or s r 0)) 0 r) 0

-- a word that is a name
unfoldable pub is_name : List ℕ → Bool
is_name [] = false
is_name (x ∷ w) = name_start x && all name_byte w

-- r is 0, or stands behind the name at a place, and that name's number, which f tells, is k
pub data Known (f : List ℕ → ℕ) (k : ℕ) (s : List ℕ) (at r : ℕ) : Type 0 where
  nothing : r ≡ 0 → Known f k s at r
  found : Name s at r → k ≡ f (part s at r) → Known f k s at r

-- opens this page, to compute whether a fixed word is a name
unfoldable pub whole_page : Unit {0}
unfolding between all name_start name_byte word_end is_name
whole_page = tt
