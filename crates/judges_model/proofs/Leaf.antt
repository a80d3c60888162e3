-- A plain leaf by its number is an element that is entered, holds a run of text or nothing, and is left.
use mathlib.Core.Path.{◌≡◌, refl, sym, ap, ◌∙◌}
use mathlib.Core.List.{List, []}
use mathlib.Core.Option.{none}
use mathlib.Core.Bool.{Bool, true, false, cond, not, ◌&&◌, ◌||◌}
use Prim.Native.Nat.{ℕ, ◌≤◌, ◌<◌, max}
use native.Mathlib.Omega.{arith}
use borrow.Author.Tests.{le-ltb, le-leb, ne_eqb}
use lib.Dec.{eqb}
use Rattle.cdi.specs.Lists.{is_empty}
use Rattle.cdi.specs.Faults.{unless, least}
use Rattle.cdi.specs.Pieces.{text}
use Rattle.cdi.specs.Numbers.{number}
use Rattle.cdi.specs.Rules.{rules_faults, names_faults, attribute_faults, stray_faults}
use Rattle.cdi.proofs.Named.{Behind}
use Rattle.cdi.proofs.Quiet.{impossible}
use Rattle.names.specs.Names.{element_number}
use Rattle.rules_judge.specs.declared.Said.{Said}
use Rattle.rules_judge.specs.declared.Said.TheVariants.{Silent, No, Large, Value}
use Rattle.rules_judge.specs.declared.Judge.{Judge}
use Rattle.rules_judge.specs.Judging.{blamed, row_at, is_foreign, is_number_row, said_by, said_faults, is_value, spoken, fresh, enter_of, other_of, leave_of}
use Rattle.rules_judge.specs.Tables.{entry_at, in_turn, many_at}
use Rattle.rules_judge.specs.Parts.{is_numeric, missing_by, number_by, int_by, left_of}
use Rattle.rules_judge.proofs.Blaming.{blamed_none}
use Rattle.rules.proofs.Numbering.{number_below}
use Rattle.rules_judge.proofs.Tabled.{no_attributes, text_held}
use Rattle.judges_state.specs.Steps.{faults_of, row_in, tag_faults, turn_of, entered_by, content_faults, sound_by, left_by, leaf_by}
use Rattle.judges_model.proofs.Entered.{entered}
use Rattle.judges_model.proofs.Left.{left}

or_true : (t : Bool) → (t || true) ≡ true
or_true true = refl
or_true false = refl

or_false : (t : Bool) → (t || false) ≡ t
or_false true = refl
or_false false = refl

-- a number has no fault
value_good : (p : ℕ) (said : Said) → is_value said ≡ true → said_faults p said ≡ []
unfolding is_value said_faults
value_good p Silent e = impossible (cc)
value_good p No e = impossible (cc)
value_good p Large e = impossible (cc)
value_good p (Value w) e = refl

module _ (j : Judge) (p : ℕ) (n : List ℕ) {child entry : ℕ} (ec : child ≡ element_number n) (ee : entry ≡ entry_at j.row child) (h : 12 ≤ child) (o : j.last < entry) where
  in_turn_law : turn_of j entry ≡ true
  unfolding turn_of in_turn
  in_turn_law = rw (le-ltb entry j.last (omega arith), ne_eqb entry j.last (λ z. omega arith), or_true (eqb entry (many_at j.row)))

  no_faults : attribute_faults p (row_at child) [] ≡ []
  unfolding attribute_faults rules_faults names_faults
  no_faults = rw (no_attributes child h)

  -- nothing is judged by its tag
  entered_leaf : enter_of j p n [] ≡ fresh j.least child j.numeric
  unfolding entered_by tag_faults row_in faults_of Behind least
  entered_leaf = sym (entered j p n [] tt none ec ee (ap least no_faults))
      ∙ rw (ne_eqb entry 0 (λ z. omega arith), in_turn_law, ← blamed_none j.least, ne_eqb child 6 (λ z. omega arith), or_false j.numeric)

  -- nor by its text
  run_least : (q : ℕ) (t : List ℕ) → (other_of (fresh j.least child j.numeric) q (text t)).least ≡ j.least
  unfolding other_of is_foreign fresh stray_faults unless
  run_least q t = rw (ne_eqb child 24 (λ z. omega (arith, number_below n ec)), ← text_held child, le-leb 12 child h, ← blamed_none j.least)

  run_said : (q : ℕ) (t : List ℕ) → (other_of (fresh j.least child j.numeric) q (text t)).said ≡ cond (j.numeric && is_numeric child) (said_by (number t)) Silent
  unfolding other_of is_foreign fresh is_number_row is_numeric spoken
  run_said q t = rw (ne_eqb child 24 (λ z. omega (arith, number_below n ec)))

  module _ (said : Said) (good : (not (j.numeric && is_numeric child) || is_value said) ≡ true) where
    no_word : number_by p j.numeric child said ≡ []
    unfolding number_by
    no_word = by (j.numeric && is_numeric child) good
      where
        by : (t : Bool) → (not t || is_value said) ≡ true → cond t (said_faults p said) [] ≡ []
        by true e = value_good p said e
        by false e = refl

    left_leaf : (i : Judge) → i.least ≡ j.least → i.said ≡ said → leaf_by j p child entry said ≡ leave_of j p n [] i
    left_leaf i a b = leaf_is ∙ left j p n [] i {size = 0} {bare = true} ec ee (unfold is_empty in refl) (λ z. omega arith)
      where
        quiet : content_faults p child j.numeric 0 i ≡ []
        quiet = unfold content_faults missing_by int_by unless in rw (ne_eqb child 11 (λ z. omega arith), ne_eqb child 6 (λ z. omega arith), b, no_word)

        least_is : blamed i.least (content_faults p child j.numeric 0 i) ≡ j.least
        least_is = rw (quiet, a, ← blamed_none j.least)

        last_is : max j.last entry ≡ entry
        last_is = omega arith

        leaf_is : leaf_by j p child entry said ≡ left_by j p child entry true 0 i
        leaf_is = unfold leaf_by left_by left_of sound_by in rw (ne_eqb entry 0 (λ z. omega arith), least_is, last_is, in_turn_law, b)

  -- With one run of text, and what it says where it must be a number.
  pub leaf_run : (q : ℕ) (t : List ℕ) (said : Said) → said ≡ cond (j.numeric && is_numeric child) (said_by (number t)) Silent → (not (j.numeric && is_numeric child) || is_value said) ≡ true
      → leaf_by j p child entry said ≡ leave_of j p n [] (other_of (enter_of j p n []) q (text t))
  leaf_run q t said e good = left_leaf said good _ (rw entered_leaf (run_least q t)) (rw entered_leaf (run_said q t ∙ sym e))

  -- With nothing in it, where it need not be a number.
  pub leaf_empty : (j.numeric && is_numeric child) ≡ false → leaf_by j p child entry Silent ≡ leave_of j p n [] (enter_of j p n [])
  unfolding fresh
  leaf_empty e = left_leaf Silent (rw e) _ (rw entered_leaf) (rw entered_leaf)
