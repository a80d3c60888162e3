-- What the judge as plain numbers answers means a step of the judge: entering a child, another piece, leaving a child, a plain leaf.
use mathlib.Core.Path.{◌≡◌, refl, sym, ap, ◌∙◌}
use mathlib.Core.List.{List, []}
use mathlib.Core.Bool.{Bool, true, false, cond, not, ◌&&◌, ◌||◌}
use mathlib.Core.Option.{Option}
use Prim.Native.Nat.{ℕ, ◌+◌, ◌≤◌, ◌<◌}
use Rattle.cdi.specs.Lists.{is_empty, lists_page}
use Rattle.cdi.specs.Faults.{Fault, least}
use Rattle.cdi.specs.Pieces.{Attribute, text, pieces_page}
use Rattle.cdi.specs.Numbers.{number, numbers_page}
use Rattle.cdi.specs.Rules.{attribute_faults}
use Rattle.cdi.proofs.Named.{Behind}
use Rattle.cdi.proofs.Quiet.{impossible}
use Rattle.names.specs.Names.{element_number}
use Rattle.rules_judge.specs.declared.Said.TheVariants.{Silent, No}
use Rattle.rules_judge.specs.Judging.{row_at, said_by, is_value, enter_of, other_of, leave_of}
use Rattle.rules_judge.specs.Tables.{entry_at, int_size}
use Rattle.rules_judge.specs.Parts.{is_numeric}
use Rattle.judges_state.specs.declared.Judge.{Judge}
use Rattle.judges_state.specs.Decoded.{said_of, judge_of}
use Rattle.judges_state.specs.Steps.{entered_by, left_by, leaf_by}
use Rattle.judges_state.proofs.Saying.{is_value_law}
use Rattle.judges_model.proofs.Entered.{entered}
use Rattle.judges_model.proofs.Left.{left}
use Rattle.judges_model.proofs.Leaf.{leaf_run, leaf_empty}

-- ── a child ──

module _ (j : Judge) (p : ℕ) (n : List ℕ) (s : List Attribute) {child entry : ℕ} (ec : child ≡ element_number n) (ee : entry ≡ entry_at j.row child) where
  there : entry ≡ entry_at (judge_of j).row child
  unfolding judge_of
  there = ee

  pub child_entered : (r : Judge) (o : Option Fault) → Behind (p + 1) s → least (attribute_faults p (row_at child) s) ≡ o
      → judge_of r ≡ entered_by (judge_of j) p child entry o
      → judge_of r ≡ enter_of (judge_of j) p n s
  child_entered r o b e f = f ∙ entered (judge_of j) p n s b o ec there e

  -- an int has that size; of other elements none is asked
  pub child_left_where : (i r : Judge) {bare : Bool} {size : ℕ} → bare ≡ is_empty s → (child ≡ 6 → size ≡ int_size s) → judge_of r ≡ left_by (judge_of j) p child entry bare size (judge_of i)
      → judge_of r ≡ leave_of (judge_of j) p n s (judge_of i)
  child_left_where i r {bare} {size} e f g = g ∙ left (judge_of j) p n s (judge_of i) ec there e f

  pub child_left : (i r : Judge) {bare : Bool} {size : ℕ} → bare ≡ is_empty s → size ≡ int_size s → judge_of r ≡ left_by (judge_of j) p child entry bare size (judge_of i)
      → judge_of r ≡ leave_of (judge_of j) p n s (judge_of i)
  child_left i r e f g = child_left_where i r e (λ z. f) g

-- ── a plain leaf ──

empty_none : said_by (number []) ≡ No
unfolding said_by numbers_page lists_page pieces_page
empty_none = refl

module _ (j r : Judge) (p : ℕ) (n : List ℕ) {child entry : ℕ} (ec : child ≡ element_number n) (ee : entry ≡ entry_at j.row child) (h : 12 ≤ child) (o : j.last < entry)
    (said m : ℕ) (t : List ℕ) {good : Bool} (es : said_of said m ≡ cond (j.numeric && is_numeric child) (said_by (number t)) Silent)
    (eg : good ≡ (not (j.numeric && is_numeric child) || is_value (said_of said 0))) (g : good ≡ true)
    (er : judge_of r ≡ leaf_by (judge_of j) p child entry (said_of said m)) where
  any_magnitude : is_value (said_of said 0) ≡ is_value (said_of said m)
  any_magnitude = is_value_law said 0 ∙ sym (is_value_law said m)

  good_said : (not (j.numeric && is_numeric child) || is_value (said_of said m)) ≡ true
  good_said = rw (← any_magnitude) (sym eg ∙ g)

  -- with one run of text
  pub leaf_with_run : (q : ℕ) → judge_of r ≡ leave_of (judge_of j) p n [] (other_of (enter_of (judge_of j) p n []) q (text t))
  unfolding judge_of
  leaf_with_run q = er ∙ leaf_run (judge_of j) p n ec ee h o q t (said_of said m) es good_said

  -- with nothing in it
  pub leaf_with_nothing : t ≡ [] → judge_of r ≡ leave_of (judge_of j) p n [] (enter_of (judge_of j) p n [])
  unfolding judge_of is_value
  leaf_with_nothing e = er ∙ by (j.numeric && is_numeric child) refl
    where
      by : (b : Bool) → (j.numeric && is_numeric child) ≡ b → leaf_by (judge_of j) p child entry (said_of said m) ≡ leave_of (judge_of j) p n [] (enter_of (judge_of j) p n [])
      by true f =
          let none : said_of said m ≡ No = es ∙ rw (f, e) empty_none in
          let one : is_value (said_of said m) ≡ true = rw f at good_said in
          let z : false ≡ true = sym (ap is_value none) ∙ one in
          impossible (cc)
      by false f = rw (es, f) (leaf_empty (judge_of j) p n ec ee h o f)
