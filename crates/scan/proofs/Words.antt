-- A word compared with the bytes from a place on, and a byte looked for.
use mathlib.Core.Path.{◌≡◌, refl, sym, ap, ◌∙◌}
use mathlib.Core.List.{List, [], ◌∷◌}
use mathlib.Core.Bool.{Bool, true, false, ◌&&◌}
use Prim.Native.Nat.{ℕ, ◌+◌, ◌-◌, ◌≤◌, ◌<◌}
use native.Mathlib.Nat.{add-zero, add_assoc}
use native.Mathlib.Omega.{arith}
use borrow.Author.Rules.{rules}
use borrow.Author.Tests.{eq-eqb, ne_eqb, eqb-true, eqb-false}
use lib.Dec.{eqb}
use lib.ListN.{length, take, drop, get_or, drop_of_length-le, length-drop}
use lib.Seq.{take_all}
use lib.Pointwise.{pointwise}
use Rattle.std.specs.List.{list_any}
use Rattle.cdi.specs.Lists.{any, same, begins}
use Rattle.cdi.proofs.Quiet.{impossible}
use Rattle.cdi.proofs.Tests.{both_right}
use Rattle.scan.proofs.Along.{drop_next}

-- the word agrees up to i
pub record Agrees (s : List ℕ) (at : ℕ) (word : List ℕ) (i : ℕ) : Type 0 where
  pub left : begins word (drop at s) ≡ begins (drop i word) (drop (at + i) s)

module _ {s : List ℕ} {at : ℕ} {word : List ℕ} {i : ℕ} (v : Agrees s at word i) where
  pub full : length word ≤ i → true ≡ begins word (drop at s)
  unfolding begins
  full h = sym (v.left ∙ rw (drop_of_length-le word h))

  pub short : length s - at ≤ i → i < length word → false ≡ begins word (drop at s)
  unfolding begins
  short h k = let out : length s ≤ at + i = omega arith in sym (v.left ∙ rw (drop_next word i k, drop_of_length-le s out))

  module _ (k : i < length word) (h : i < length s - at) where
    step : begins word (drop at s) ≡ (eqb (get_or word i 0) (get_or s (at + i) 0) && begins (drop (i + 1) word) (drop (at + i + 1) s))
    unfolding begins
    step = v.left ∙ rw (drop_next word i k, drop_next s (at + i) (omega arith))

    pub differs : (get_or word i 0 ≡ get_or s (at + i) 0 → ⊥) → false ≡ begins word (drop at s)
    differs e = sym (step ∙ rw (ne_eqb _ _ e))

    pub agrees : get_or word i 0 ≡ get_or s (at + i) 0 → Agrees s at word (i + 1)
    agrees e = record { left = step ∙ rw (eq-eqb _ _ e, add_assoc) }

pub start : (s : List ℕ) (at : ℕ) (word : List ℕ) → Agrees s at word 0
start s at word = record { left = rw add-zero }

pub ruleset word_loop = (start, full, short, differs, agrees, rules)

-- a word that a text begins with is no longer than the text
pub begun_length : (w s : List ℕ) → begins w s ≡ true → length w ≤ length s
unfolding begins
begun_length [] s e = omega arith
begun_length (x ∷ w) [] e = impossible (cc)
begun_length (x ∷ w) (y ∷ s) e = let l = begun_length w s (both_right (eqb x y) _ e) in omega arith

both_same : (a b : List ℕ) → pointwise eqb a b ≡ same a b
unfolding same
both_same [] [] = refl
both_same [] (y ∷ b) = refl
both_same (x ∷ a) [] = refl
both_same (x ∷ a) (y ∷ b) = ap (λ r. eqb x y && r) (both_same a b)

pub same_told : (a b : List ℕ) {r : Bool} → r ≡ pointwise eqb a b → r ≡ same a b
same_told a b e = e ∙ both_same a b

turned : (x b : ℕ) → eqb x b ≡ eqb b x
turned x b = by (eqb b x) refl
  where
    by : (t : Bool) → eqb b x ≡ t → eqb x b ≡ t
    by true e = eq-eqb x b (sym (eqb-true b x e))
    by false e = ne_eqb x b (λ h. eqb-false b x e (sym h))

-- the library asks each byte for another one
pub held : (b : ℕ) (s : List ℕ) → list_any (λ y. eqb y b) s ≡ any (eqb b) s
unfolding any
held b [] = refl
held b (x ∷ s) = rw (turned x b, held b s) refl
