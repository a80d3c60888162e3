-- The rules of an element by the codes, one law for each way through the code.
use mathlib.Core.Path.{◌≡◌, refl, sym, ap, ◌∙◌}
use mathlib.Core.List.{List, [], ◌∷◌}
use mathlib.Core.Bool.{Bool, true}
use mathlib.Core.Logic.{⊎_elim}
use Prim.Native.Nat.{ℕ, zero, suc, ◌/◌, ◌%◌, ◌^◌, ◌≤◌, ◌<◌}
use native.Mathlib.Omega.{arith}
use borrow.Author.Rules.{rules}
use borrow.Author.Tests.{lt-ltb, le-ltb, eq-eqb, ne_eqb}
use lib.Dec.{eqb}
use lib.ListN.{length, get_or, get_or-eq_default}
use Rattle.cdi.specs.Faults.{rank}
use Rattle.scan.proofs.Tests.{eq_or_ne, lt_or_le}
use Rattle.rules_judge.specs.Tables.{rule_numbers, rule_at, attribute_of, is_one_of, tables_page}
use Rattle.rules_judge.proofs.Below.{all_below, below, Below, at_below, alike, alike_equal}
use Rattle.tags_faults.specs.Told.{known_sets, known_set, has_bit, lesser_of, rule_by, rules_by, told_page}

-- ── which attributes an element knows ──

is_known : ℕ → ℕ → Bool
is_known e n = is_one_of (attribute_of (rule_at e 0)) (attribute_of (rule_at e 1)) (attribute_of (rule_at e 2)) n

knows : all_below 12 (λ e. all_below 11 (λ n. alike (has_bit (known_set e) n) (is_known e n))) ≡ true
unfolding all_below alike is_known known_sets known_set has_bit tables_page
knows = refl

-- no element from 12 on knows an attribute
knows_none : all_below 11 (λ n. alike (has_bit 0 n) (is_one_of 0 0 0 n)) ≡ true
unfolding all_below alike has_bit tables_page
knows_none = refl

module _ (e : ℕ) where
  pub none_known : 12 ≤ e → (i : ℕ) → rule_at e i ≡ 0
  unfolding rule_at
  none_known h i = ap (λ (l : List ℕ). get_or l i 0) (get_or-eq_default rule_numbers [] (unfold rule_numbers in h))

  no_set : 12 ≤ e → known_set e ≡ 0
  unfolding known_set
  no_set h = get_or-eq_default known_sets 0 (unfold known_sets in h)

  -- an attribute's bit says whether the element knows it
  pub bit_known : {s n : ℕ} {t : Bool} → n ≤ 10 → s ≡ known_set e → t ≡ has_bit s n → t ≡ is_one_of (attribute_of (rule_at e 0)) (attribute_of (rule_at e 1)) (attribute_of (rule_at e 2)) n
  bit_known {s} {n} h p q = q ∙ rw p (⊎_elim near far (lt_or_le e 12))
    where
      near : e < 12 → has_bit (known_set e) n ≡ is_one_of (attribute_of (rule_at e 0)) (attribute_of (rule_at e 1)) (attribute_of (rule_at e 2)) n
      near k = unfold is_known in alike_equal _ _ (below 11 (λ n. alike (has_bit (known_set e) n) (is_known e n)) (below 12 _ knows e k) n (omega arith))

      far : 12 ≤ e → has_bit (known_set e) n ≡ is_one_of (attribute_of (rule_at e 0)) (attribute_of (rule_at e 1)) (attribute_of (rule_at e 2)) n
      far k = rw (no_set k, none_known k 0, none_known k 1, none_known k 2) (unfold attribute_of in alike_equal _ _ (below 11 _ knows_none n (omega arith)))

  pub set_is : {k : ℕ} → k ≡ e → get_or known_sets k 0 ≡ known_set e
  unfolding known_set
  set_is q = rw q

  pub set_none : 12 ≤ e → 0 ≡ known_set e
  set_none h = sym (no_set h)

pub bit_is : (s n : ℕ) {m : ℕ} → m ≡ n → eqb ((s / 2 ^ m) % 2) 1 ≡ has_bit s n
unfolding has_bit
bit_is s n e = rw e

pub ruleset bits = (bit_is, rules)

pub ruleset known_sets_law = (set_is, set_none, rules)

-- ── the faults ──

module _ (m n : ℕ) where
  pub no_first : m ≡ 0 → n ≡ lesser_of m n
  unfolding lesser_of
  no_first e = rw (eq-eqb m 0 e)

  module _ (e : m ≡ 0 → ⊥) where
    pub no_second : n ≡ 0 → m ≡ lesser_of m n
    unfolding lesser_of
    no_second f = rw (ne_eqb m 0 e, eq-eqb n 0 f)

    module _ (f : n ≡ 0 → ⊥) {i j a b : ℕ} (p : i ≡ n) (q : a ≡ rank i) (r : j ≡ m) (t : b ≡ rank j) where
      pub second_first : a < b → n ≡ lesser_of m n
      unfolding lesser_of
      second_first h = rw (ne_eqb m 0 e, ne_eqb n 0 f, ← p, ← r, ← q, ← t, lt-ltb a b h) refl

      pub first_first : b ≤ a → m ≡ lesser_of m n
      unfolding lesser_of
      first_first h = rw (ne_eqb m 0 e, ne_eqb n 0 f, ← p, ← r, ← q, ← t, le-ltb a b h) refl

pub ruleset firsts = (no_first, no_second, second_first, first_first, rules)

pub chain : (x y u : ℕ) {z r : ℕ} → r ≡ lesser_of x z → z ≡ lesser_of y u → r ≡ lesser_of x (lesser_of y u)
chain x y u e f = e ∙ rw f

-- an element of that number, by its three rules
pub by_rules : (e k : ℕ) (codes : List ℕ) (exact : ℕ) {x y w z : ℕ} → e ≡ k → x ≡ rule_by (rule_at k 0) codes exact → y ≡ rule_by (rule_at k 1) codes exact → w ≡ rule_by (rule_at k 2) codes exact
    → z ≡ lesser_of x (lesser_of y w) → z ≡ rules_by e codes exact
unfolding rules_by
by_rules e k codes exact q f g h r = r ∙ rw (f, g, h, q)

nine : (e : ℕ) → e < 10 → 6 ≤ e → (e ≡ 6 → ⊥) → (e ≡ 7 → ⊥) → (e ≡ 8 → ⊥) → e ≡ 9
nine e h l a b c = omega arith

-- a float is what is left
pub by_last : (e : ℕ) (codes : List ℕ) (exact : ℕ) {x y w z : ℕ} → 6 ≤ e → e < 10 → (e ≡ 6 → ⊥) → (e ≡ 7 → ⊥) → (e ≡ 8 → ⊥)
    → x ≡ rule_by (rule_at 9 0) codes exact → y ≡ rule_by (rule_at 9 1) codes exact → w ≡ rule_by (rule_at 9 2) codes exact → z ≡ lesser_of x (lesser_of y w) → z ≡ rules_by e codes exact
by_last e codes exact l h a b c f g k r = by_rules e 9 codes exact (nine e h l a b c) f g k r

three : (e : ℕ) → e < 6 → (e ≡ 4 → ⊥) → (e ≡ 5 → ⊥) → e ≤ 3
three e h a b = omega arith

two : (e : ℕ) → (e ≡ 0 → ⊥) → (e ≡ 1 → ⊥) → e ≤ 3 → (e ≡ 3 → ⊥) → e ≡ 2
two e a b h d = omega arith

no_row : (i : ℕ) → ◌≡◌ {A = ℕ} (get_or (0 ∷ 0 ∷ 0 ∷ []) i 0) 0
no_row zero = refl
no_row (suc zero) = refl
no_row (suc (suc zero)) = refl
no_row (suc (suc (suc i))) = refl

-- the text itself and identification have no rules; text, a map and a relation have none either
pub no_rules : (e : ℕ) (codes : List ℕ) (exact : ℕ) → rule_at e 0 ≡ 0 → rule_at e 1 ≡ 0 → rule_at e 2 ≡ 0 → 0 ≡ rules_by e codes exact
unfolding rules_by rule_by lesser_of
no_rules e codes exact f g h = rw (f, g, h)

beyond : (e : ℕ) → 10 ≤ e → (e ≡ 10 → ⊥) → (e ≡ 11 → ⊥) → length rule_numbers ≤ e
unfolding rule_numbers
beyond e h q z = omega arith

module _ (e : ℕ) (codes : List ℕ) where
  pub outer_none : e < 6 → (e ≡ 4 → ⊥) → (e ≡ 5 → ⊥) → (e ≡ 1 → ⊥) → (e ≡ 3 → ⊥) → 0 ≡ rules_by e codes 0
  outer_none h a b c d = ⊎_elim
      (λ (q : e ≡ 0). unfold tables_page in no_rules e codes 0 (rw q) (rw q) (rw q))
      (λ (q : e ≡ 0 → ⊥). unfold tables_page in let w : e ≡ 2 = two e q c (three e h a b) d in no_rules e codes 0 (rw w) (rw w) (rw w))
      (eq_or_ne e 0)

  OuterAny : ℕ → ℕ → Type 0
  OuterAny exact k = rules_by k codes 0 ≡ rules_by k codes exact

  outer_each : (exact : ℕ) → Below (OuterAny exact) 6
  unfolding Below OuterAny told_page tables_page
  outer_each exact = (refl, (refl, (refl, (refl, (refl, (refl, tt))))))

  module _ (exact : ℕ) where
    pub outer_told : {r : ℕ} → e < 6 → r ≡ rules_by e codes 0 → r ≡ rules_by e codes exact
    unfolding OuterAny
    outer_told h f = f ∙ at_below (OuterAny exact) 6 (outer_each exact) e h

    pub none_told : 10 ≤ e → 0 ≡ rules_by e codes exact
    none_told h = no_rules e codes exact (far 0) (far 1) (far 2)
      where
        far : (i : ℕ) → rule_at e i ≡ 0
        far i = unfold rule_at rule_numbers in ⊎_elim
            (λ (q : e ≡ 10). rw q (no_row i))
            (λ (q : e ≡ 10 → ⊥). ⊎_elim
            (λ (z : e ≡ 11). rw z (no_row i))
            (λ (z : e ≡ 11 → ⊥). ap (λ (l : List ℕ). get_or l i 0) (get_or-eq_default rule_numbers [] (beyond e h q z)))
            (eq_or_ne e 11))
            (eq_or_ne e 10)

pub ruleset fault_cases = (outer_told, none_told, rules)
