-- A child that is left, by each way through the code.
use mathlib.Core.Path.{◌≡◌, refl, sym, ap, ◌∙◌}
use mathlib.Core.List.{[], append-nil}
use mathlib.Core.Bool.{Bool, true, false, cond, not, ◌&&◌, ◌||◌}
use mathlib.Core.Option.{some}
use mathlib.Core.Logic.{⊎_elim}
use Prim.Native.Nat.{ℕ, ◌≤◌, ◌<◌, max}
use native.Mathlib.Omega.{arith}
use borrow.Author.Rules.{rules}
use borrow.Author.Tests.{eq-eqb, ne_eqb}
use lib.Dec.{eqb, leb}
use Rattle.cdi.specs.Faults.{fault, unless, lesser, least}
use Rattle.scan.proofs.Tests.{eq_or_ne}
use Rattle.keys.specs.Keys.{fault_in}
use Rattle.rules_judge.specs.declared.Said.{Said}
use Rattle.rules_judge.specs.declared.Said.TheVariants.{Silent, No, Large, Value}
use Rattle.rules_judge.specs.declared.Judge.{Judge as Known}
use Rattle.rules_judge.specs.Judging.{blamed, said_faults, bound_blame, passed}
use Rattle.rules_judge.specs.Tables.{many_at, in_turn}
use Rattle.rules_judge.specs.Parts.{is_numeric, is_limit, missing_by, number_by, int_by, left_of}
use Rattle.judges_state.specs.declared.Judge.{Judge}
use Rattle.judges_state.specs.Decoded.{least_in, said_of, judge_of}
use Rattle.judges_state.specs.Steps.{turn_of, size_at, content_faults, sound_by, left_by, bounded_by}
use Rattle.judges_state.proofs.Blaming.{key_blamed, key_blamed_with, key_kept}
use Rattle.judges_state.proofs.Saying.{is_value_law, said_none}
use Rattle.judges_state.proofs.Changed.{changed}

-- ── what it has said ──

module _ (l said p : ℕ) where
  pub no_number : (r : ℕ) → said < 2 → fault_in r ≡ lesser (fault_in l) (some (fault 9 p)) → least_in r ≡ blamed (least_in l) (said_faults p (said_of said 0))
  unfolding said_faults said_of
  no_number r h f = key_blamed r l 9 p _ (⊎_elim (λ e. rw (eq-eqb said 0 e)) (λ e. rw (ne_eqb said 0 e, eq-eqb said 1 (omega arith))) (eq_or_ne said 0)) f

  pub out_of_range : (r : ℕ) → said ≡ 2 → fault_in r ≡ lesser (fault_in l) (some (fault 10 p)) → least_in r ≡ blamed (least_in l) (said_faults p (said_of said 0))
  unfolding said_faults said_of
  out_of_range r e f = key_blamed r l 10 p _ (rw e) f

  pub a_number : 2 ≤ said → (said ≡ 2 → ⊥) → least_in l ≡ blamed (least_in l) (said_faults p (said_of said 0))
  unfolding said_faults said_of
  a_number h e = key_kept l _ (rw (ne_eqb said 0 (λ z. omega arith), ne_eqb said 1 (λ z. omega arith), ne_eqb said 2 e))

pub ruleset said_faults_law = (no_number, out_of_range, a_number, rules)

-- ── the faults behind its content ──

-- what is told of a word doesn't depend on its magnitude
any_magnitude : (p said m : ℕ) → said_faults p (said_of said 0) ≡ said_faults p (said_of said m)
unfolding said_faults said_of
any_magnitude p said m = by (eqb said 0) (eqb said 1) (eqb said 2)
  where
    word : Bool → Bool → Bool → ℕ → Said
    word x y z k = cond x Silent (cond y No (cond z Large (Value (record { negative = eqb said 4; magnitude = k }))))

    by : (x y z : Bool) → said_faults p (word x y z 0) ≡ said_faults p (word x y z m)
    by true y z = refl
    by false true z = refl
    by false false true = refl
    by false false false = refl

and_false : (t : Bool) → (t && false) ≡ false
and_false true = refl
and_false false = refl

module _ (p child size : ℕ) (numeric : Bool) (i : Known) where
  none_missing : (child ≡ 11 → ⊥) → missing_by p child i.one i.two ≡ []
  unfolding missing_by unless
  none_missing e = rw (ne_eqb child 11 e)

  none_asked : (numeric && is_numeric child) ≡ false → number_by p numeric child i.said ≡ []
  unfolding number_by
  none_asked e = rw e

  no_int : (child ≡ 6 → ⊥) → int_by p child (size_at size) i ≡ []
  unfolding int_by
  no_int e = rw (ne_eqb child 6 e)

  -- a relation and an int are no numbers
  relation_faults : child ≡ 11 → content_faults p child numeric size i ≡ unless (i.one && i.two) (fault 84 p)
  unfolding content_faults missing_by is_numeric
  relation_faults e = rw (none_asked (rw e (and_false numeric)), no_int (λ z. omega arith), eq-eqb child 11 e) (append-nil (unless (i.one && i.two) (fault 84 p)))

  int_faults : child ≡ 6 → content_faults p child numeric size i ≡ int_by p child (size_at size) i
  unfolding content_faults is_numeric
  int_faults e = rw (none_missing (λ z. omega arith), none_asked (rw e (and_false numeric)))

  other_faults : (child ≡ 11 → ⊥) → (child ≡ 6 → ⊥) → content_faults p child numeric size i ≡ number_by p numeric child i.said
  unfolding content_faults
  other_faults e f = rw (none_missing e, no_int f) (append-nil (number_by p numeric child i.said))

module _ (l p child size : ℕ) (numeric : Bool) (i : Judge) where
  pub relation_told : (r : ℕ) → child ≡ 11 → fault_in r ≡ lesser (fault_in l) (least (unless (i.one && i.two) (fault 84 p)))
      → least_in r ≡ blamed (least_in l) (content_faults p child numeric size (judge_of i))
  unfolding judge_of
  relation_told r e f = key_blamed_with r l _ f ∙ ap (blamed (least_in l)) (sym (relation_faults p child size numeric (judge_of i) e))

  module _ (e : child ≡ 6) where
    quiet_int : int_by p child (size_at size) (judge_of i) ≡ [] → least_in l ≡ blamed (least_in l) (content_faults p child numeric size (judge_of i))
    quiet_int f = key_kept l _ (int_faults p child size numeric (judge_of i) e ∙ f)

    pub no_size : size ≡ 0 → least_in l ≡ blamed (least_in l) (content_faults p child numeric size (judge_of i))
    unfolding int_by size_at
    no_size f = quiet_int (rw (eq-eqb child 6 e, f))

    some_size : (n : ℕ) → (n ≡ 0 → ⊥) → leb 1 (size_at n) ≡ true
    unfolding size_at
    some_size n f = rw (ne_eqb n 0 f) (by (eqb n 1) (eqb n 2) (eqb n 4))
      where
        by : (x y z : Bool) → leb 1 (cond x 1 (cond y 2 (cond z 4 8))) ≡ true
        by true y z = refl
        by false true z = refl
        by false false true = refl
        by false false false = refl

    pub not_sound : (size ≡ 0 → ⊥) → i.sound ≡ false → least_in l ≡ blamed (least_in l) (content_faults p child numeric size (judge_of i))
    unfolding int_by judge_of
    not_sound f g = quiet_int (rw (eq-eqb child 6 e, some_size size f, g))

    pub bounds_told : (r : ℕ) → (size ≡ 0 → ⊥) → i.sound ≡ true → least_in r ≡ blamed (least_in l) (bound_blame p (size_at size) (judge_of i).low (judge_of i).high)
        → least_in r ≡ blamed (least_in l) (content_faults p child numeric size (judge_of i))
    bounds_told r f g h = h ∙ ap (blamed (least_in l)) (sym (int_faults p child size numeric (judge_of i) e ∙ there))
      where
        sound_is : (judge_of i).sound ≡ true
        sound_is = unfold judge_of in g

        there : int_by p child (size_at size) (judge_of i) ≡ bound_blame p (size_at size) (judge_of i).low (judge_of i).high
        there = unfold int_by in rw (eq-eqb child 6 e, some_size size f, sound_is)

  module _ (e : child ≡ 11 → ⊥) (f : child ≡ 6 → ⊥) {t : Bool} (g : t ≡ is_numeric child) where
    pub not_asked : (numeric && t) ≡ false → least_in l ≡ blamed (least_in l) (content_faults p child numeric size (judge_of i))
    not_asked h = key_kept l _ (other_faults p child size numeric (judge_of i) e f ∙ none_asked p child size numeric (judge_of i) (rw (← g) h))

    pub word_told : (r : ℕ) → (numeric && t) ≡ true → least_in r ≡ blamed (least_in l) (said_faults p (said_of i.said 0))
        → least_in r ≡ blamed (least_in l) (content_faults p child numeric size (judge_of i))
    unfolding number_by judge_of
    word_told r h k = k ∙ ap (blamed (least_in l)) (any_magnitude p i.said i.magnitude ∙ sym (other_faults p child size numeric (judge_of i) e f ∙ rw (← g, h)))

pub ruleset content_faults_law = (relation_told, no_size, not_sound, bounds_told, not_asked, word_told, rules)

-- ── the judge behind it ──

module _ (j i : Judge) (p child entry size : ℕ) (bare : Bool) where
  pub passed_by : entry ≡ 0 → judge_of (changed j i.least j.last 1 j.magnitude j.one j.two j.sound) ≡ left_by (judge_of j) p child entry bare size (judge_of i)
  unfolding left_by passed judge_of
  passed_by e = rw (eq-eqb entry 0 e, said_none)

  pub left_by_law : (r : Judge) (l last : ℕ) {turn sound : Bool} → (entry ≡ 0 → ⊥) → turn ≡ in_turn j.last entry (eqb entry (many_at j.row))
      → least_in l ≡ blamed (least_in i.least) (content_faults p child j.numeric size (judge_of i)) → last ≡ max j.last entry
      → sound ≡ (j.sound && (not (is_limit child) || (turn && (bare && leb 3 i.said))))
      → judge_of r ≡ bounded_by (judge_of (changed j l last 1 j.magnitude (j.one || eqb entry 1) (j.two || eqb entry 2) sound)) p child (said_of i.said i.magnitude)
      → judge_of r ≡ left_by (judge_of j) p child entry bare size (judge_of i)
  unfolding left_by left_of bounded_by turn_of sound_by judge_of
  left_by_law r l last z et el eh es er = er ∙ rw (said_none, el, eh, es, et, ne_eqb entry 0 z, is_value_law i.said i.magnitude)

pub ruleset leaving = (passed_by, left_by_law, rules)
