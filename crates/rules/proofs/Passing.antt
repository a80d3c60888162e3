-- Entering a child and leaving it, by its entry and its number.
use mathlib.Core.Path.{◌≡◌, refl, sym, ap, ◌∙◌}
use mathlib.Core.List.{List, [], ◌∷◌, ◌++◌}
use mathlib.Core.Bool.{Bool, true, false, cond, ◌&&◌, ◌||◌}
use mathlib.Core.Option.{none, some}
use mathlib.Core.Logic.{⊎_elim}
use Prim.Native.Nat.{ℕ}
use native.Mathlib.Omega.{arith}
use borrow.Author.Tests.{lt-ltb, le-ltb, eq-eqb, ne_eqb}
use lib.Dec.{eqb, leb}
use Rattle.cdi.specs.Lists.{is_empty}
use Rattle.cdi.specs.Faults.{fault, unless}
use Rattle.cdi.specs.Pieces.{Attribute}
use Rattle.cdi.specs.Rows.{row_of}
use Rattle.cdi.specs.Rules.{entry_of, attribute_faults, size_text, size_of}
use Rattle.scan.proofs.Tests.{lt_or_le}
use Rattle.names.specs.Names.{element_number}
use Rattle.rules_judge.specs.Judging.{Least, blamed, row_at, is_foreign, fresh, entry_faults, enter_of, missing, number_blame, bound_blame, int_blame, bound_sound, passed, leave_of}
use Rattle.rules_judge.specs.declared.Judge.{Judge}
use Rattle.rules_judge.specs.Tables.{entry_at, many_at, in_turn, turn_number, size_in, int_size}
use Rattle.rules_judge.specs.Parts.{is_limit, missing_by, number_by, int_by, limit_sound, left_of}
use Rattle.rules_judge.proofs.Blaming.{blamed_in_turn}
use Rattle.rules.proofs.Named.{numbered}
use Rattle.rules.proofs.Numbering.{is_int_law, is_relation, is_min, is_max, is_numeric_law, entry_known}
use Rattle.rules_judge.proofs.Sized.{int_size_law, size_is}

-- ── order and count ──

turn_faults : (last p : ℕ) (e : ℕ × Bool) → entry_faults last p e ≡ unless (in_turn last e.0 e.1) (fault (turn_number last e.0) p)
unfolding entry_faults in_turn turn_number unless
turn_faults last p e = ⊎_elim
    (λ h. rw (lt-ltb e.0 last h, ne_eqb e.0 last (λ z. omega arith)) (by e.1))
    (λ h. rw (le-ltb e.0 last h))
    (lt_or_le e.0 last)
  where
    by : (t : Bool) → fault 82 p ∷ unless (t || true) (fault 83 p) ≡ fault 82 p ∷ []
    by true = refl
    by false = refl

-- ── a child's entry ──

module _ (k : ℕ) (n : List ℕ) {c e : ℕ} (ec : c ≡ element_number n) (ee : e ≡ entry_at k c) where
  entry_here : e ≡ entry_at k (element_number n)
  entry_here = ee ∙ ap (entry_at k) ec

  none_here : e ≡ 0 → entry_of (row_at k) n ≡ none
  none_here z = entry_known k n ∙ rw (← entry_here, z)

  some_here : (e ≡ 0 → ⊥) → entry_of (row_at k) n ≡ some (e, eqb e (many_at k))
  some_here z = entry_known k n ∙ rw (← entry_here, ne_eqb e 0 z)

-- ── entering a child ──

module _ (j : Judge) (p : ℕ) (n : List ℕ) (s : List Attribute) {r : Judge} where
  pub foreign_entered : j.row ≡ 24 → r ≡ fresh j.least 24 j.numeric → r ≡ enter_of j p n s
  unfolding enter_of is_foreign
  foreign_entered e f = f ∙ rw (eq-eqb _ _ e)

  module _ {c e : ℕ} (f : j.row ≡ 24 → ⊥) (ec : c ≡ element_number n) (ee : e ≡ entry_at j.row c) where
    pub unknown_entered : {l : Least} → e ≡ 0 → l ≡ blamed j.least (fault 81 p ∷ []) → r ≡ fresh l 24 j.numeric → r ≡ enter_of j p n s
    unfolding enter_of is_foreign
    unknown_entered z g h = h ∙ rw (ne_eqb _ _ f, none_here j.row n ec ee z, g)

    pub known_entered : {t i : Bool} {a b : Least} → (e ≡ 0 → ⊥) → t ≡ in_turn j.last e (eqb e (many_at j.row))
        → a ≡ blamed j.least (unless t (fault (turn_number j.last e) p)) → b ≡ blamed a (attribute_faults p (row_at c) s) → i ≡ (j.numeric || eqb c 6) → r ≡ fresh b c i
        → r ≡ enter_of j p n s
    unfolding enter_of is_foreign
    known_entered {t} {i} {a} {b} z et ea eb ei er = er ∙ sym (rw (ne_eqb _ _ f, some_here j.row n ec ee z, is_int_law n, ← ec, ← ei) (ap (λ (l : Least). fresh l c i) (sym least_is)))
      where
        row_is : row_at c ≡ row_of n
        row_is = ap row_at ec ∙ (numbered j.row n _ (some_here j.row n ec ee z)).row

        least_is : b ≡ blamed j.least (entry_faults j.last p (e, eqb e (many_at j.row)) ++ attribute_faults p (row_of n) s)
        least_is = blamed_in_turn j.least (unless t (fault (turn_number j.last e) p)) (attribute_faults p (row_at c) s) ea eb ∙ rw (turn_faults, et, row_is)

-- ── leaving a child ──

module _ (p : ℕ) (n : List ℕ) where
  missing_by_law : (i : Judge) → missing p n i ≡ missing_by p (element_number n) i.one i.two
  unfolding missing missing_by
  missing_by_law i = rw (is_relation n)

  number_by_law : (j i : Judge) → number_blame j p n i ≡ number_by p j.numeric (element_number n) i.said
  unfolding number_blame number_by
  number_by_law j i = rw (is_numeric_law n)

  int_by_law : (s : List Attribute) (i : Judge) → int_blame p n s i ≡ int_by p (element_number n) (int_size s) i
  unfolding int_blame int_by int_size
  int_by_law s i = rw (is_int_law n, ← int_size_law (size_text s)) (by (eqb (element_number n) 6) (leb 1 (size_in (size_text s))) refl)
    where
      by : (x t : Bool) → leb 1 (size_in (size_text s)) ≡ t
          → cond (x && (t && i.sound)) (bound_blame p (size_of s) i.low i.high) [] ≡ cond (x && (t && i.sound)) (bound_blame p (size_in (size_text s)) i.low i.high) []
      by true true e = unfold size_of in rw (size_is (size_text s) e)
      by true false e = refl
      by false t e = refl

  sound_by : (j : Judge) (s : List Attribute) (e : ℕ × Bool) (i : Judge) → bound_sound j p n s e i ≡ limit_sound (element_number n) (in_turn j.last e.0 e.1) s i.said
  unfolding bound_sound limit_sound is_limit
  sound_by j s e i = rw (is_min n, is_max n, turn_faults, quiet (in_turn j.last e.0 e.1))
    where
      quiet : (t : Bool) → is_empty (unless t (fault (turn_number j.last e.0) p)) ≡ t
      quiet true = unfold is_empty unless in refl
      quiet false = unfold is_empty unless in refl

module _ (j : Judge) (p : ℕ) (n : List ℕ) (s : List Attribute) (i : Judge) {r : Judge} where
  pub foreign_left : j.row ≡ 24 → r ≡ passed j i → r ≡ leave_of j p n s i
  unfolding leave_of is_foreign
  foreign_left e f = f ∙ rw (eq-eqb _ _ e)

  module _ {c e : ℕ} (f : j.row ≡ 24 → ⊥) (ec : c ≡ element_number n) (ee : e ≡ entry_at j.row c) where
    pub unknown_left : e ≡ 0 → r ≡ passed j i → r ≡ leave_of j p n s i
    unfolding leave_of is_foreign
    unknown_left z g = g ∙ rw (ne_eqb _ _ f, none_here j.row n ec ee z)

    pub known_left : {t u : Bool} {a b l : Least} → (e ≡ 0 → ⊥)
        → a ≡ blamed i.least (missing_by p c i.one i.two) → b ≡ blamed a (number_by p j.numeric c i.said) → l ≡ blamed b (int_by p c (int_size s) i)
        → t ≡ in_turn j.last e (eqb e (many_at j.row)) → u ≡ (j.sound && limit_sound c t s i.said) → r ≡ left_of j p c e i.said l u
        → r ≡ leave_of j p n s i
    unfolding leave_of is_foreign left_of
    known_left {t} {u} {a} {b} {l} z ea eb el et eu er =
        er ∙ sym (rw (ne_eqb _ _ f, some_here j.row n ec ee z, missing_by_law, number_by_law, int_by_law, sound_by, is_min n, is_max n, ← ec, ← et, ← eu, ← least_is))
      where
        least_is : l ≡ blamed i.least (missing_by p c i.one i.two ++ (number_by p j.numeric c i.said ++ int_by p c (int_size s) i))
        least_is = blamed_in_turn i.least _ _ ea (blamed_in_turn _ _ _ eb el)
