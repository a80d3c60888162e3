-- Positions in a list of names: along the list, one part after another, that number k is answered exactly where the name is the kth, and the largest number.
use mathlib.Core.Path.{◌≡◌, refl, sym, ap, ◌∙◌}
use mathlib.Core.Logic.{◌↔◌}
use mathlib.Core.List.{List, [], ◌∷◌, map}
use mathlib.Core.Bool.{Bool, true, false, cond}
use Prim.Native.Nat.{ℕ, zero, suc, ◌+◌, ◌-◌, ◌≤◌, ◌<◌}
use native.Mathlib.Nat.{zero-add, add-zero, suc-add}
use native.Mathlib.Omega.{arith}
use borrow.Author.Rules.{rules}
use borrow.Author.Tests.{eq-eqb, ne_eqb, leb-true}
use lib.Dec.{eqb, leb}
use lib.ListN.{length, take, drop, get_or, get_or-map}
use lib.Seq.{drop-drop}
use Rattle.cdi.specs.Lists.{same}
use Rattle.cdi.proofs.Quiet.{same_equal}
use Rattle.names.specs.Names.{element_names, attribute_names, number_among, number_in, element_number, attribute_number}

-- ── along a list ──

module _ (n : List ℕ) (k : ℕ) {r : ℕ} {t : Bool} (w : List ℕ) (ws : List (List ℕ)) where
  pub hit : r ≡ k + 1 → t ≡ same n w → t ≡ true → r ≡ number_among n k (w ∷ ws)
  unfolding number_among
  hit g e f = g ∙ rw (← e, f)

  pub pass : t ≡ same n w → t ≡ false → r ≡ number_among n (k + 1) ws → r ≡ number_among n k (w ∷ ws)
  unfolding number_among
  pass e f g = g ∙ rw (← e, f)

pub out : (n : List ℕ) (k : ℕ) → 0 ≡ number_among n k []
unfolding number_among
out n k = refl

pub ruleset chain = (hit, pass, out)

-- ── one part after another ──

parts : (n : List ℕ) (k c d : ℕ) (ws : List (List ℕ))
    → number_among n k (take (c + d) ws) ≡ cond (eqb (number_among n k (take c ws)) 0) (number_among n (k + c) (take d (drop c ws))) (number_among n k (take c ws))
unfolding number_among
parts n k zero d ws = rw (zero-add, add-zero)
parts n k (suc c) zero [] = rw suc-add refl
parts n k (suc c) (suc d) [] = rw suc-add refl
parts n k (suc c) d (w ∷ ws) = rw suc-add (by (same n w) (parts n (k + 1) c d ws))
  where
    further : k + 1 + c ≡ k + suc c
    further = omega arith

    by : (t : Bool)
        → number_among n (k + 1) (take (c + d) ws) ≡ cond (eqb (number_among n (k + 1) (take c ws)) 0) (number_among n (k + 1 + c) (take d (drop c ws))) (number_among n (k + 1) (take c ws))
        → cond t (k + 1) (number_among n (k + 1) (take (c + d) ws))
        ≡ cond (eqb (cond t (k + 1) (number_among n (k + 1) (take c ws))) 0) (number_among n (k + suc c) (take d (drop c ws))) (cond t (k + 1) (number_among n (k + 1) (take c ws)))
    by true e = rw (ne_eqb (k + 1) 0 (omega arith))
    by false e = e ∙ rw further

module _ (ws : List (List ℕ)) (i c e : ℕ) (n : List ℕ) {r : ℕ} (f : r ≡ number_in ws i c n) where
  both : (d : ℕ) → c + d ≡ e → number_in ws i e n ≡ cond (eqb r 0) (number_in ws (i + c) d n) r
  unfolding number_in
  both d g = rw (← g, parts n i c d (drop i ws), f, drop-drop c i ws)

  pub later : {q : ℕ} (j d : ℕ) → r ≡ 0 → q ≡ number_in ws j d n → i + c ≡ j → c + d ≡ e → q ≡ number_in ws i e n
  later j d z g h k = g ∙ sym (both d k ∙ rw (eq-eqb r 0 z, h))

  pub earlier : (r ≡ 0 → ⊥) → leb c e ≡ true → r ≡ number_in ws i e n
  earlier z h = sym (both (e - c) (omega (arith, leb-true c e h)) ∙ rw (ne_eqb r 0 z))

all_elements : (n : List ℕ) → number_in element_names 0 23 n ≡ element_number n
unfolding number_in element_number element_names
all_elements n = refl

all_attributes : (n : List ℕ) → number_in attribute_names 0 10 n ≡ attribute_number n
unfolding number_in attribute_number attribute_names
all_attributes n = refl

pub of_element : (n : List ℕ) {r : ℕ} → r ≡ number_in element_names 0 23 n → r ≡ element_number n
of_element n e = e ∙ all_elements n

pub of_attribute : (n : List ℕ) {r : ℕ} → r ≡ number_in attribute_names 0 10 n → r ≡ attribute_number n
of_attribute n e = e ∙ all_attributes n

pub ruleset in_turn_law = (later, earlier, of_element, of_attribute, rules)

-- ── the kth ──

-- k + 1, k + 2, ..
unfoldable pub counted : ℕ → List (List ℕ) → List ℕ
counted k [] = []
counted k (w ∷ ws) = (k + 1) ∷ counted (k + 1) ws

-- where the name stands that is answered with r
found : (n : List ℕ) (ws : List (List ℕ)) (k r : ℕ) → number_among n k ws ≡ r → 1 ≤ r → (k + 1 ≤ r) × (n ≡ get_or ws (r - (k + 1)) [])
unfolding number_among
found n [] k r e h = absurd (omega arith)
found n (w ∷ ws) k r e h = by (same n w) refl e (found n ws (k + 1) r)
  where
    first : k + 1 ≡ r → r - (k + 1) ≡ 0
    first f = omega arith

    next : k + 1 + 1 ≤ r → r - (k + 1) ≡ suc (r - (k + 1 + 1))
    next f = omega arith

    by : (t : Bool) → same n w ≡ t → cond t (k + 1) (number_among n (k + 1) ws) ≡ r
        → (number_among n (k + 1) ws ≡ r → 1 ≤ r → (k + 1 + 1 ≤ r) × (n ≡ get_or ws (r - (k + 1 + 1)) []))
        → (k + 1 ≤ r) × (n ≡ get_or (w ∷ ws) (r - (k + 1)) [])
    by true f g ih = (omega arith, same_equal n w f ∙ ap (λ j. get_or (w ∷ ws) j []) (sym (first g)))
    by false f g ih = let p = ih g h in (omega (arith, p.0), p.1 ∙ ap (λ j. get_or (w ∷ ws) j []) (sym (next p.0)))

counted_at : (k j d : ℕ) (ws : List (List ℕ)) → j < length ws → get_or (counted k ws) j d ≡ k + (j + 1)
unfolding counted
counted_at k j d [] h = absurd (omega arith)
counted_at k zero d (w ∷ ws) h = refl
counted_at k (suc j) d (w ∷ ws) h = counted_at (k + 1) j d ws (omega arith) ∙ further
  where
    further : k + 1 + (j + 1) ≡ k + (suc j + 1)
    further = omega arith

-- no name stands twice, since each has its own number
module _ (ws : List (List ℕ)) (own : map (λ n. number_among n 0 ws) ws ≡ counted 0 ws) where
  kth_there : (n : List ℕ) (j : ℕ) → number_among n 0 ws ≡ j + 1 → n ≡ get_or ws j []
  kth_there n j e = (found n ws 0 (j + 1) e (omega arith)).1 ∙ ap (λ i. get_or ws i []) at
    where
      at : j + 1 - (0 + 1) ≡ j
      at = omega arith

  kth_back : (n : List ℕ) (j : ℕ) → j < length ws → n ≡ get_or ws j [] → number_among n 0 ws ≡ j + 1
  kth_back n j h e = ap f e ∙ sym (get_or-map f ws j []) ∙ ap (λ l. get_or l j (f [])) own ∙ counted_at 0 j (f []) ws h ∙ zero-add (j + 1)
    where
      f : List ℕ → ℕ
      f m = number_among m 0 ws

  pub kth : (n : List ℕ) (j : ℕ) → j < length ws → (number_among n 0 ws ≡ j + 1) ↔ (n ≡ get_or ws j [])
  kth n j h = (kth_there n j, kth_back n j h)

-- the number after j is answered exactly where j names of the list stand before the name
pub element_kth : (n : List ℕ) (j : ℕ) → j < 23 → (element_number n ≡ j + 1) ↔ (n ≡ get_or element_names j [])
unfolding element_number element_names number_among counted same
element_kth n j h = kth element_names refl n j h

pub attribute_kth : (n : List ℕ) (j : ℕ) → j < 10 → (attribute_number n ≡ j + 1) ↔ (n ≡ get_or attribute_names j [])
unfolding attribute_number attribute_names number_among counted same
attribute_kth n j h = kth attribute_names refl n j h

-- ── the largest ──

among_high : (n : List ℕ) (k : ℕ) (ws : List (List ℕ)) → number_among n k ws ≤ k + length ws
unfolding number_among
among_high n k [] = omega arith
among_high n k (w ∷ ws) = by (same n w) (among_high n (k + 1) ws)
  where
    by : (t : Bool) → number_among n (k + 1) ws ≤ k + 1 + length ws → cond t (k + 1) (number_among n (k + 1) ws) ≤ k + suc (length ws)
    by true e = omega arith
    by false e = omega arith

pub element_high : (n : List ℕ) → element_number n ≤ 23
unfolding element_number element_names
element_high n = among_high n 0 element_names

pub attribute_high : (n : List ℕ) → attribute_number n ≤ 10
unfolding attribute_number attribute_names
attribute_high n = among_high n 0 attribute_names
