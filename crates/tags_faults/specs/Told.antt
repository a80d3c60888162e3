-- The number of the least fault of a tag's attributes that stands at the tag's `<`, by their codes.
use Rattle.std.specs.Prelude.{◌≡◌, List, [], ◌∷◌, Bool, cond, ℕ, ◌/◌, ◌%◌, ◌^◌, ◌≤◌, eqb, ltb, get_or}
use Rattle.cdi.specs.Faults.{Fault, fault, rank}
use Rattle.cdi.specs.Pieces.{Attribute}
use Rattle.rules_judge.specs.Tables.{rule_at, attribute_of, is_required}
use Rattle.tags_values.specs.Codes.{textual, code_in}

-- the attributes that an element knows, as the bits of a number: bit n is the attribute of number n
unfoldable pub known_sets : List ℕ
known_sets = 0 ∷ 6 ∷ 0 ∷ 24 ∷ 96 ∷ 384 ∷ 768 ∷ 768 ∷ 256 ∷ 1792 ∷ 0 ∷ 0 ∷ []

unfoldable pub known_set : ℕ → ℕ
known_set e = get_or known_sets e 0

unfoldable pub has_bit : ℕ → ℕ → Bool
has_bit s n = eqb ((s / 2 ^ n) % 2) 1

-- the one of two numbers of faults that comes first, of which 0 is none
unfoldable pub lesser_of : ℕ → ℕ → ℕ
lesser_of m n = cond (eqb m 0) n (cond (eqb n 0) m (cond (ltb (rank n) (rank m)) n m))

-- a number that is there, by its code
unfoldable pub own_by : ℕ → ℕ
own_by c = cond (ltb c 3) 0 c

-- one that must be there
unfoldable pub needed_by : ℕ → ℕ
needed_by c = cond (eqb c 0) 86 (own_by c)

-- a text that must be there; whether it is the right one is told at its name
unfoldable pub there_by : ℕ → ℕ
there_by c = cond (eqb c 0) 86 0

-- the size of an int, and that of a float, by the exact size that its text says
unfoldable pub int_by : ℕ → ℕ
int_by exact = cond (ltb exact 1) 10 0

unfoldable pub float_by : ℕ → ℕ → ℕ
float_by c exact = cond (eqb c 0) 86 (cond (ltb exact 2) 10 0)

-- the attribute of a rule, by the codes of a tag's attributes
unfoldable pub rule_by : ℕ → List ℕ → ℕ → ℕ
rule_by k codes exact =
    cond (eqb k 0) 0 (cond (eqb k 10) (int_by exact) (cond (eqb k 11) (float_by (get_or codes 9 0) exact)
    (cond (textual (attribute_of k)) (cond (is_required k) (there_by (get_or codes (attribute_of k) 0)) 0)
    (cond (is_required k) (needed_by (get_or codes (attribute_of k) 0)) (own_by (get_or codes (attribute_of k) 0))))))

-- the three rules of an element
unfoldable pub rules_by : ℕ → List ℕ → ℕ → ℕ
rules_by e codes exact = lesser_of (rule_by (rule_at e 0) codes exact) (lesser_of (rule_by (rule_at e 1) codes exact) (rule_by (rule_at e 2) codes exact))

-- the codes of a tag's attributes
pub record Coded (codes : List ℕ) (s : List Attribute) : Type 0 where
  pub each : (a : ℕ) → 1 ≤ a → a ≤ 10 → get_or codes a 0 ≡ code_in a s

-- the fault of a number at a place; 0 is none
unfoldable pub faults_at : ℕ → ℕ → List Fault
faults_at p n = cond (eqb n 0) [] (fault n p ∷ [])

unfoldable pub told_page : Unit {0}
unfolding lesser_of own_by needed_by there_by textual int_by float_by rule_by rules_by faults_at
told_page = tt
