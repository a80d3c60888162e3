-- The parts of a line, put one behind another.
use mathlib.Core.Path.{◌≡◌, ap, ◌∙◌}
use mathlib.Core.List.{List, [], ◌∷◌, ◌++◌}
use Prim.Native.Nat.{ℕ, ◌^◌, ◌<◌}
use borrow.Author.Rules.{rules}
use lib.ListN.{take}
use borrow.Author.Tests.{eq-eqb, ne_eqb}
use Rattle.io.specs.Digits.{last_digits, IsDigitCount}
use Rattle.lines_items.specs.Bytes.{decimal, next, kind_word, line, refusal_line, count_line}
use Rattle.lines_items.proofs.Spelled.{spelled}

-- the digits that were put are the number's
pub number_put : (t s d : List ℕ) (k n : ℕ) → n < 2 ^ 64 → IsDigitCount 10 1 n k → t ≡ s ++ take k d → take k d ≡ last_digits 10 k n → t ≡ s ++ decimal n
number_put t s d k n h f p q = p ∙ ap (λ (w : List ℕ). s ++ w) (q ∙ spelled k n h f)

pub next_put : (t s u : List ℕ) (n : ℕ) → u ≡ s ++ (32 ∷ []) → t ≡ u ++ decimal n → t ≡ next s n
unfolding next
next_put t s u n p q = q ∙ ap (λ (w : List ℕ). w ++ decimal n) p

module _ (t s : List ℕ) (k : ℕ) where
  pub int_put : t ≡ s ++ (32 ∷ 105 ∷ 110 ∷ 116 ∷ []) → k ≡ 3 → t ≡ s ++ kind_word k
  unfolding kind_word
  int_put p e = rw (p, eq-eqb k 3 e)

  pub string_put : t ≡ s ++ (32 ∷ 115 ∷ 116 ∷ 114 ∷ 105 ∷ 110 ∷ 103 ∷ []) → (k ≡ 3 → ⊥) → k ≡ 4 → t ≡ s ++ kind_word k
  unfolding kind_word
  string_put p a e = rw (p, ne_eqb k 3 a, eq-eqb k 4 e)

  pub eventid_put : t ≡ s ++ (32 ∷ 101 ∷ 118 ∷ 101 ∷ 110 ∷ 116 ∷ 105 ∷ 100 ∷ []) → (k ≡ 3 → ⊥) → (k ≡ 4 → ⊥) → k ≡ 5 → t ≡ s ++ kind_word k
  unfolding kind_word
  eventid_put p a b e = rw (p, ne_eqb k 3 a, ne_eqb k 4 b, eq-eqb k 5 e)

  pub float_put : t ≡ s ++ (32 ∷ 102 ∷ 108 ∷ 111 ∷ 97 ∷ 116 ∷ []) → (k ≡ 3 → ⊥) → (k ≡ 4 → ⊥) → (k ≡ 5 → ⊥) → t ≡ s ++ kind_word k
  unfolding kind_word
  float_put p a b e = rw (p, ne_eqb k 3 a, ne_eqb k 4 b, ne_eqb k 5 e)

pub line_put : (t s a b c d e : List ℕ) (n space address size kind : ℕ) → a ≡ s ++ decimal n → b ≡ next a space → c ≡ next b address → d ≡ next c size
    → e ≡ d ++ kind_word kind → t ≡ e ++ (10 ∷ []) → t ≡ line s n space address size kind
unfolding line
line_put t s a b c d e n space address size kind p q r u v w = rw (w, v, u, r, q, p)

pub refusal_put : (t a b c d : List ℕ) (n place : ℕ) → a ≡ 114 ∷ 101 ∷ 102 ∷ 117 ∷ 115 ∷ 101 ∷ 100 ∷ 32 ∷ [] → b ≡ a ++ decimal n
    → c ≡ b ++ (32 ∷ 97 ∷ 116 ∷ 32 ∷ []) → d ≡ c ++ decimal place → t ≡ d ++ (10 ∷ []) → t ≡ refusal_line n place
unfolding refusal_line
refusal_put t a b c d n place p q r u v = rw (v, u, r, q, p)

pub count_put : (t a b : List ℕ) (n : ℕ) → a ≡ 118 ∷ 97 ∷ 114 ∷ 105 ∷ 97 ∷ 98 ∷ 108 ∷ 101 ∷ 115 ∷ 32 ∷ [] → b ≡ a ++ decimal n → t ≡ b ++ (10 ∷ [])
    → t ≡ count_line n
unfolding count_line
count_put t a b n p q r = rw (r, q, p)

pub ruleset parts = (next_put, int_put, string_put, eventid_put, float_put, line_put, refusal_put, count_put, rules)
