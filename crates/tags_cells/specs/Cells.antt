-- What is noted of a tag's attributes: codes and amounts by their numbers, and what is told of all of them.
use Rattle.std.specs.Prelude.{◌≡◌, List, [], ◌∷◌, Bool, false, cond, not, ◌&&◌, ◌||◌, ℕ, ◌≤◌, eqb, length, get_or, set}
use Rattle.cdi.specs.Lists.{any}
use Rattle.cdi.specs.Pieces.{Attribute}
use Rattle.names.specs.Names.{attribute_number}
use Rattle.rules_judge.specs.Tables.{size_in}
use Rattle.tags_values.specs.Codes.{amount_for, code_of, amount_of}

-- ── one attribute more ──

-- an attribute of a known name that is the first of it
unfoldable pub is_first : ℕ → List ℕ → Bool
is_first a codes = not (eqb a 0) && eqb (get_or codes a 0) 0

unfoldable pub with_code : ℕ → List ℕ → List ℕ → List ℕ
with_code a v codes = cond (is_first a codes) (set codes a (code_of a v)) codes

unfoldable pub with_amount : ℕ → List ℕ → List ℕ → List ℕ → List ℕ
with_amount a v codes amounts = cond (is_first a codes) (set amounts a (amount_of a v)) amounts

-- the size that one byte says
unfoldable pub size_of_byte : ℕ → ℕ
size_of_byte b = cond (eqb b 49) 1 (cond (eqb b 50) 2 (cond (eqb b 52) 4 (cond (eqb b 56) 8 0)))

-- the exact size, which the first `size` says
unfoldable pub with_exact : ℕ → List ℕ → List ℕ → ℕ → ℕ
with_exact a v codes exact = cond (eqb a 9 && eqb (get_or codes 9 0) 0) (size_in v) exact

-- ── a name twice ──

-- an attribute of that number
unfoldable pub has_one : ℕ → Attribute → Bool
has_one a x = eqb (attribute_number x.name) a

-- a known name that was met before
unfoldable pub was_met : List ℕ → Attribute → Bool
was_met codes x = not (eqb (get_or codes (attribute_number x.name) 0) 0)

-- one of the known names stands twice
unfoldable pub known_twice : List Attribute → Bool
known_twice [] = false
known_twice (x ∷ s) = (not (eqb (attribute_number x.name) 0) && any (has_one (attribute_number x.name)) s) || known_twice s

-- ── all of them ──

-- before the first
pub record Fresh (codes amounts : List ℕ) : Type 0 where
  pub code : (a : ℕ) → get_or codes a 0 ≡ 0
  pub amount : (a : ℕ) → 1 ≤ a → a ≤ 10 → get_or amounts a 0 ≡ amount_for a
  pub codes_long : length codes ≡ 11
  pub amounts_long : length amounts ≡ 11
