-- Entering a child by its number is entering it by its name.
use mathlib.Core.Path.{◌≡◌, refl, sym, ap, ◌∙◌}
use mathlib.Core.List.{List, [], ◌∷◌}
use mathlib.Core.Bool.{Bool, true, false, cond, not, ◌||◌}
use mathlib.Core.Option.{Option, none, some}
use mathlib.Core.Logic.{⊎_elim}
use Prim.Native.Nat.{ℕ, ◌+◌, ◌≤◌}
use native.Mathlib.Omega.{arith}
use borrow.Author.Tests.{le-ltb, le-leb, leb-true, eq-eqb, ne_eqb}
use lib.Dec.{leb, ltb}
use lib.IntN.{ℤ}
use Rattle.cdi.specs.Lists.{given, between}
use Rattle.cdi.specs.Faults.{Fault, fault, unless, rank, before, lesser, least}
use Rattle.cdi.specs.Pieces.{Attribute}
use Rattle.cdi.specs.Rows.{Form, fixed, range, size, formatting, AttributeRule, Row}
use Rattle.cdi.specs.Rules.{attribute_value, range_faults, form_faults, rule_faults, rules_faults, names_faults, attribute_faults}
use Rattle.cdi.proofs.Named
use Rattle.cdi.proofs.Named.{Silent, silent_none, silent_append, names_silent}
use Rattle.scan.proofs.Tests.{eq_or_ne}
use Rattle.names.specs.Names.{element_number}
use Rattle.rules_judge.specs.Judging.{Least, as_fault, to_least, blamed, row_at, enter_of}
use Rattle.rules_judge.specs.declared.Judge.{Judge}
use Rattle.rules_judge.specs.Tables.{entry_at, turn_number}
use Rattle.rules_judge.proofs.Blaming.{blamed_none, blamed_append}
use Rattle.rules_judge.proofs.Tabled.{no_entry}
use Rattle.rules.proofs.Passing.{foreign_entered, unknown_entered, known_entered}
use Rattle.judges_state.proofs.Blaming.{one_least}
use Rattle.judges_state.specs.Steps.{faults_of, row_in, tag_faults, turn_of, entered_by}

-- ── the faults of attributes come behind those of order and count ──

module _ (m p : ℕ) (low : rank m ≤ 10) where
  behind_unless : (t : Bool) (n : ℕ) → leb 10 (rank n) ≡ true → Silent m p (unless t (fault n p))
  unfolding unless least lesser before
  behind_unless true n h = refl
  behind_unless false n h = rw (le-ltb p p (omega arith), eq-eqb p p refl, le-leb (rank m) (rank n) (omega (arith, leb-true 10 (rank n) h)))

  range_behind : (test : ℤ → Bool) (o : Option ℤ) → Silent m p (range_faults p test o)
  unfolding range_faults rank between
  range_behind test none = unfold unless in behind_unless false 9 refl
  range_behind test (some z) = behind_unless (test z) 10 refl

  form_behind : (f : Form) (v : List ℕ) → Silent m p (form_faults p f v)
  unfolding form_faults rank between
  form_behind (fixed t) v = silent_none m p
  form_behind (range lo hi) v = range_behind _ _
  form_behind (size ts) v = behind_unless _ 10 refl
  form_behind formatting v = silent_none m p

  rule_behind : (a : AttributeRule) (s : List Attribute) → Silent m p (rule_faults p a s)
  unfolding rule_faults
  rule_behind a s = by (attribute_value a.name s)
    where
      by : (o : Option (List ℕ)) → Silent m p (given o (unless (not a.required) (fault 86 p)) (form_faults p a.form))
      by none = unfold rank between in behind_unless (not a.required) 86 refl
      by (some v) = form_behind a.form v

  rules_behind : (rules : List AttributeRule) (s : List Attribute) → Silent m p (rules_faults p rules s)
  unfolding rules_faults
  rules_behind [] s = silent_none m p
  rules_behind (a ∷ rules) s = silent_append m p (rule_faults p a s) (rules_faults p rules s) (rule_behind a s) (rules_behind rules s)

  attributes_behind : (r : Row) (s : List Attribute) → Named.Behind (p + 1) s → Silent m p (attribute_faults p r s)
  unfolding attribute_faults
  attributes_behind r s h = silent_append m p (rules_faults p r.attributes s) (names_faults r.attributes s) (rules_behind r.attributes s) (names_silent m p r.attributes s h)

-- ── entering ──

-- only the least of some faults counts
pub blamed_alike : (l : Least) (fs gs : List Fault) → least fs ≡ least gs → blamed l fs ≡ blamed l gs
unfolding blamed
blamed_alike l fs gs e = ap (λ (o : Option Fault). to_least (lesser (as_fault l) o)) e

or_false : (t : Bool) → (t || false) ≡ t
or_false true = refl
or_false false = refl

module _ (j : Judge) (p : ℕ) (n : List ℕ) (s : List Attribute) (w : Named.Behind (p + 1) s) (o : Option Fault) {child entry : ℕ} (ec : child ≡ element_number n) (ee : entry ≡ entry_at j.row child) where
  low : rank (turn_number j.last entry) ≤ 10
  unfolding turn_number rank between
  low = by (ltb entry j.last)
    where
      by : (t : Bool) → rank (cond t 82 83) ≤ 10
      by true = omega arith
      by false = omega arith

  -- the faults of a tag in its turn, or not
  told : (t : Bool) → least (attribute_faults p (row_at child) s) ≡ o
      → blamed j.least (cond t (faults_of o) (fault (turn_number j.last entry) p ∷ []))
      ≡ blamed (blamed j.least (unless t (fault (turn_number j.last entry) p))) (attribute_faults p (row_at child) s)
  unfolding unless least lesser
  told true h = blamed_alike j.least (faults_of o) (attribute_faults p (row_at child) s) (one_least o ∙ sym h) ∙ ap (λ (l : Least). blamed l (attribute_faults p (row_at child) s)) (blamed_none j.least)
  told false h =
      let f = fault (turn_number j.last entry) p in
      blamed_alike j.least (f ∷ []) (f ∷ attribute_faults p (row_at child) s) (sym (attributes_behind (turn_number j.last entry) p low (row_at child) s w))
      ∙ sym (blamed_append j.least (f ∷ []) (attribute_faults p (row_at child) s))

  foreign : j.row ≡ 24 → entered_by j p child entry o ≡ enter_of j p n s
  unfolding entered_by tag_faults row_in
  foreign e = foreign_entered j p n s e (rw (eq-eqb entry 0 (ee ∙ sym (no_entry j.row (omega arith) child)), eq-eqb j.row 24 e, ← blamed_none j.least, or_false j.numeric))

  module _ (f : j.row ≡ 24 → ⊥) where
    unknown : entry ≡ 0 → entered_by j p child entry o ≡ enter_of j p n s
    unfolding entered_by tag_faults row_in
    unknown z = unknown_entered j p n s f ec ee z refl (rw (eq-eqb entry 0 z, ne_eqb j.row 24 f, or_false j.numeric))

    known_child : (entry ≡ 0 → ⊥) → least (attribute_faults p (row_at child) s) ≡ o → entered_by j p child entry o ≡ enter_of j p n s
    unfolding entered_by tag_faults row_in turn_of
    known_child z h = known_entered j p n s f ec ee z refl refl refl refl (rw (ne_eqb entry 0 z, told (turn_of j entry) h))

  -- Entering a child by its number and entry, where that is the least of its attributes' faults, is entering it by its name.
  pub entered : least (attribute_faults p (row_at child) s) ≡ o → entered_by j p child entry o ≡ enter_of j p n s
  entered h = ⊎_elim foreign (λ f. ⊎_elim (unknown f) (λ z. known_child f z h) (eq_or_ne entry 0)) (eq_or_ne j.row 24)
