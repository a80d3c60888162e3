-- Stages 4 to 7: what is wrong with the pieces, each in its place.
use mathlib.Core.List.{List, [], ◌∷◌, ◌++◌, tail}
use Rattle.std.specs.Prelude.{Bool, false, cond, not, ◌&&◌, ◌||◌, ℕ, ◌+◌, length, eqb, ltb}
use Rattle.cdi.specs.Limits.{deepest, most_elements}
use Rattle.cdi.specs.Lists.{any, all, while, same, is_empty}
use Rattle.cdi.specs.Faults.{Fault, fault, unless}
use Rattle.cdi.specs.Pieces.{Attribute, Piece, start, finish, remark, refer, text, malformed, unsupported, blank}

-- how far reading has come: the names of the open elements, innermost first, and how many elements were begun
pub record Progress : Type 0 where
  pub names : List (List ℕ)
  pub begun : ℕ

abbrev pub progress : List (List ℕ) → ℕ → Progress
progress ns b = record { names = ns; begun = b }

-- before or after the root
unfoldable pub outside : Progress → Bool
outside r = is_empty r.names

-- "any `&` in an attribute"
unfoldable pub refers : List Attribute → Bool
refers s = any (λ a. any (eqb 38) a.value) s

unfoldable pub innermost : List (List ℕ) → List ℕ → Bool
innermost [] n = false
innermost (m ∷ ms) n = same m n

-- 4 "malformed markup"; 5 "unsupported, as listed"; 6 "end tag without its start, second root, text or reference outside the root";
-- 7 "depth 25, or element 4,097"
unfoldable pub piece_faults : Progress → ℕ → Piece → List Fault
piece_faults r p (start n s e) =
    unless (not (refers s)) (fault 5 p)
    ++ (unless (not (outside r && ltb 0 r.begun)) (fault 6 p)
    ++ unless (ltb (length r.names) deepest && ltb r.begun most_elements) (fault 7 p))
piece_faults r p (finish n) = unless (innermost r.names n) (fault 6 p)
piece_faults r p remark = []
piece_faults r p (refer c) = unless (not (outside r)) (fault 6 p)
piece_faults r p (text s) = unless (not (outside r) || all blank s) (fault 6 (p + length (while blank s)))
piece_faults r p malformed = fault 4 p ∷ []
piece_faults r p unsupported = fault 5 p ∷ []

-- how far it has come behind a piece
unfoldable pub next : Progress → Piece → Progress
next r (start n s e) = progress (cond e r.names (n ∷ r.names)) (r.begun + 1)
next r (finish n) = progress (tail r.names) r.begun
next r remark = r
next r (refer c) = r
next r (text s) = r
next r malformed = r
next r unsupported = r

-- all faults; the content ends at e: "or unclosed or no root"
unfoldable pub markup_faults : ℕ → Progress → List (ℕ × Piece) → List Fault
markup_faults e r [] = unless (outside r && ltb 0 r.begun) (fault 6 e)
markup_faults e r (c ∷ cs) = piece_faults r c.0 c.1 ++ markup_faults e (next r c.1) cs

unfoldable pub markup_page : Unit {0}
unfolding outside refers innermost piece_faults next markup_faults
markup_page = tt
