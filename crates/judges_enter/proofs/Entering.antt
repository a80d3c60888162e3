-- Entering a child, by each way through the code.
use mathlib.Core.Path.{◌≡◌, sym, ap, ◌∙◌}
use mathlib.Core.Bool.{Bool, true, false, ◌||◌}
use mathlib.Core.Option.{some}
use Prim.Native.Nat.{ℕ, ◌≤◌, ◌<◌}
use borrow.Author.Rules.{rules}
use borrow.Author.Tests.{lt-ltb, le-ltb, eq-eqb, ne_eqb}
use lib.Dec.{eqb}
use Rattle.cdi.specs.Faults.{fault, lesser}
use Rattle.keys.specs.Keys.{fault_in}
use Rattle.rules_judge.specs.Judging.{blamed, fresh}
use Rattle.rules_judge.specs.Tables.{many_at, in_turn, turn_number}
use Rattle.judges_state.specs.declared.Judge.{Judge}
use Rattle.judges_state.specs.Decoded.{least_in, judge_of}
use Rattle.judges_state.specs.Steps.{faults_of, row_in, tag_faults, turn_of, entered_by}
use Rattle.judges_state.proofs.Blaming.{one_least, key_blamed_with, key_blamed, key_kept}

-- ── the row inside ──

pub no_row : (entry child : ℕ) → entry ≡ 0 → 24 ≡ row_in entry child
unfolding row_in
no_row entry child e = rw (eq-eqb entry 0 e)

pub own_row : (entry child : ℕ) → (entry ≡ 0 → ⊥) → child ≡ row_in entry child
unfolding row_in
own_row entry child e = rw (ne_eqb entry 0 e)

pub ruleset rows_in = (no_row, own_row, rules)

-- ── order and count ──

module _ (last entry : ℕ) where
  pub out_of_order : entry < last → 82 ≡ turn_number last entry
  unfolding turn_number
  out_of_order h = rw (lt-ltb entry last h)

  pub too_often : last ≤ entry → 83 ≡ turn_number last entry
  unfolding turn_number
  too_often h = rw (le-ltb entry last h)

pub ruleset turns = (out_of_order, too_often, rules)

-- ── the faults of a tag ──

module _ (l p row last entry k : ℕ) (turn : Bool) where
  pub not_judged : entry ≡ 0 → row ≡ 24 → least_in l ≡ blamed (least_in l) (tag_faults p row last entry turn (fault_in k))
  unfolding tag_faults
  not_judged e f = key_kept l _ (rw (eq-eqb entry 0 e, eq-eqb row 24 f))

  pub no_entry : (r : ℕ) → entry ≡ 0 → (row ≡ 24 → ⊥) → fault_in r ≡ lesser (fault_in l) (some (fault 81 p)) → least_in r ≡ blamed (least_in l) (tag_faults p row last entry turn (fault_in k))
  unfolding tag_faults
  no_entry r e f g = key_blamed r l 81 p _ (rw (eq-eqb entry 0 e, ne_eqb row 24 f)) g

  module _ (e : entry ≡ 0 → ⊥) where
    pub no_turn : (r : ℕ) {m : ℕ} → turn ≡ false → m ≡ turn_number last entry → fault_in r ≡ lesser (fault_in l) (some (fault m p)) → least_in r ≡ blamed (least_in l) (tag_faults p row last entry turn (fault_in k))
    unfolding tag_faults
    no_turn r {m} f x g = key_blamed r l m p _ (rw (ne_eqb entry 0 e, f, x)) g

    pub in_turn_law : (r : ℕ) → turn ≡ true → fault_in r ≡ lesser (fault_in l) (fault_in k) → least_in r ≡ blamed (least_in l) (tag_faults p row last entry turn (fault_in k))
    unfolding tag_faults
    in_turn_law r f g = rw (ne_eqb entry 0 e, f) (key_blamed_with r l (faults_of (fault_in k)) (g ∙ ap (lesser (fault_in l)) (sym (one_least (fault_in k)))))

pub ruleset tag_faults_law = (not_judged, no_entry, no_turn, in_turn_law, rules)

-- ── the judge inside ──

pub entered_with : (j : Judge) (p child entry k l row : ℕ) (r : Judge) {turn : Bool} → turn ≡ in_turn j.last entry (eqb entry (many_at j.row))
    → least_in l ≡ blamed (least_in j.least) (tag_faults p j.row j.last entry turn (fault_in k)) → row ≡ row_in entry child
    → judge_of r ≡ fresh (least_in l) row (j.numeric || eqb row 6) → judge_of r ≡ entered_by (judge_of j) p child entry (fault_in k)
unfolding entered_by turn_of judge_of
entered_with j p child entry k l row r e f g h = h ∙ rw (f, e, g)

pub ruleset entering = (entered_with, rules)
