-- Text with zeros behind it.
use mathlib.Core.Path.{◌≡◌, refl, sym, ap, ◌∙◌}
use mathlib.Core.List.{List, [], ◌∷◌, ◌++◌}
use Prim.Native.Nat.{ℕ, suc, zero, ◌+◌, ◌-◌, ◌≤◌, ◌<◌}
use native.Mathlib.Numerals.{add-one}
use native.Mathlib.Omega.{arith}
use borrow.Author.Rules.{rules}
use lib.ListN.{length, take, get_or, set, replicate, length-set, length-append, length-replicate}
use lib.Seq.{take-suc, take-suc-set, take_all}
use Rattle.cdi.specs.Values.{padded}

zero_in : (k i : ℕ) → ◌≡◌ {A = ℕ} (get_or (replicate k 0) i 0) 0
zero_in zero i = refl
zero_in (suc k) zero = refl
zero_in (suc k) (suc i) = zero_in k i

-- behind the text stand zeros
letter : (s : List ℕ) (k i : ℕ) → get_or (s ++ replicate k 0) i 0 ≡ get_or s i 0
letter [] k i = zero_in k i
letter (b ∷ s) k zero = refl
letter (b ∷ s) k (suc i) = letter s k i

padded_length : (n : ℕ) (s : List ℕ) → length s ≤ n → length (padded n s) ≡ n
unfolding padded
padded_length n s h = length-append s (replicate (n - length s) 0) ∙ omega (arith, length-replicate {A = ℕ} (n - length s) 0)

padded_letter : (n : ℕ) (s : List ℕ) (i : ℕ) → get_or (padded n s) i 0 ≡ get_or s i 0
unfolding padded
padded_letter n s i = letter s (n - length s) i

-- the first i bytes are those of the padded text
pub record Padded (n : ℕ) (s part : List ℕ) (i : ℕ) : Type 0 where
  pub is : take i part ≡ take i (padded n s)
  pub size : length part ≡ n

pub none_padded : (s part : List ℕ) → Padded (length part) s part 0
none_padded s part = record { is = refl; size = refl }

module _ {n : ℕ} {s part : List ℕ} {i : ℕ} (v : Padded n s part i) (h : length s ≤ n) where
  pub one_padded : {x : ℕ} → i < length part → x ≡ get_or s i 0 → Padded n s (set part i x) (i + 1)
  one_padded {x} l e =
      let y : get_or (padded n s) i 0 ≡ x = padded_letter n s i ∙ sym e in
      record {
        is =
            rw add-one
            (take-suc-set part i x l
            ∙ ap (λ (t : List ℕ). t ++ (x ∷ [])) v.is
            ∙ ap (λ (z : ℕ). take i (padded n s) ++ (z ∷ [])) (sym y)
            ∙ sym (take-suc (padded n s) i 0 (omega (arith, padded_length n s h, v.size))));
        size = length-set part i x ∙ v.size;
      }

  pub all_padded : length part ≤ i → part ≡ padded n s
  all_padded l =
      sym (take_all i part l) ∙ v.is ∙ take_all i (padded n s) (omega (arith, padded_length n s h, v.size))

pub ruleset padding = (none_padded, one_padded, all_padded, rules)
