-- Stage 13: the rows are copied to the front of the table where they fit, and nothing else is written.
use mathlib.Core.Path.{◌≡◌, refl, sym, ap, ◌∙◌}
use mathlib.Core.List.{List}
use mathlib.Core.Bool.{Bool, true, cond}
use mathlib.Core.Logic.{⊎_elim}
use Prim.Native.Nat.{ℕ, ◌*◌, ◌≤◌, ◌<◌}
use native.Mathlib.Omega.{arith}
use borrow.Author.Rules.{rules}
use borrow.Author.Tests.{le-leb, lt-leb, leb-true}
use Rattle.std.specs.Prelude.{Result, Ok, Err}
use lib.Dec.{leb}
use lib.IntN.{ℤ}
use lib.ListN.{length, take}
use lib.Seq.{take_all}
use Rattle.cdi.specs.Faults.{Answer, accepted, refused, ◌and_then◌}
use Rattle.cdi.specs.Table.{records_of}
use Rattle.cdi.specs.Planning.{Description, markup, elements, addressing, counting, described, planned, counts_of, placed, table_after}
use Rattle.cdi.proofs.Quiet.{impossible}
use Rattle.cdi.proofs.PlanOf.{length_table}
use Rattle.scan.proofs.Tests.{lt_or_le}
use Rattle.cdi.proofs.Room.{fits, fits_table, short, short_table, refuses, refuses_table}
use Rattle.refusals.specs.declared.Refusal.{Refusal}
use Rattle.refusals.specs.Refusals.{fault_of}
use Rattle.plan_stages.specs.declared.Planned.{Planned}
use Rattle.plan_stages.specs.Outlines.{Outline, outline, outlined, outline_of, of_markup, in_room, said_of, Few, answer_of, put_of, planned_by, after_by}

-- ── the whole plan ──

-- the rows of an outline are 8 numbers for each record
unfoldable Whole : Answer Outline → Type 0
Whole (accepted o) = length o.rows ≡ 8 * o.records
Whole (refused f) = Unit

whole_outlined : (a : Answer Description) → Whole (a and_then outlined)
unfolding Whole outlined
whole_outlined (accepted d) = length_table d.segments
whole_outlined (refused f) = tt

whole_markup : (c : List ℕ) → Whole (of_markup c)
unfolding of_markup
whole_markup c = whole_outlined (markup c and_then elements and_then addressing and_then counting)

-- of rows that were filled with what content describes, as far as there was room
module _ (c : List ℕ) (r : List ℤ) (l : ℕ) {a : Result Planned Refusal} (e : said_of a r ≡ (of_markup c and_then in_room l)) where
  pub not_described : {f : Refusal} → a ≡ Err f → of_markup c ≡ refused (fault_of f)
  unfolding said_of in_room
  not_described {f} q = by (of_markup c) (sym (ap (λ x. said_of x r) q) ∙ e)
    where
      by : (o : Answer Outline) → refused (fault_of f) ≡ (o and_then in_room l) → o ≡ refused (fault_of f)
      by (accepted o) x = impossible (cc)
      by (refused g) x = cc

  -- the records and variables are counted whether or not there was room
  pub is_counted : {P : Type 0} {d : Planned} → a ≡ Ok d → ((o : Outline) → of_markup c ≡ accepted o → d.records ≡ o.records → d.variables ≡ o.variables → take (8 * d.records) r ≡ take l o.rows → length o.rows ≡ 8 * d.records → P) → P
  unfolding said_of in_room Whole
  is_counted {P} {d} q f = by (of_markup c) refl (whole_markup c) (sym (ap (λ x. said_of x r) q) ∙ e)
    where
      by : (o : Answer Outline) → of_markup c ≡ o → Whole o → accepted (outline d.records d.variables (take (8 * d.records) r)) ≡ (o and_then in_room l) → P
      by (accepted o) k w x =
          let y : outline d.records d.variables (take (8 * d.records) r) ≡ outline o.records o.variables (take l o.rows) = cc in
          let z : d.records ≡ o.records = ap (λ (i : Outline). i.records) y in
          f o k z (ap (λ (i : Outline). i.variables) y) (ap (λ (i : Outline). i.rows) y) (w ∙ ap (λ (m : ℕ). 8 * m) (sym z))
      by (refused g) k w x = impossible (cc)

  -- where there was room, the rows are all there
  pub is_described : {d : Planned} → a ≡ Ok d → 8 * d.records ≤ l → of_markup c ≡ accepted (outline d.records d.variables (take (8 * d.records) r))
  is_described {d} q h = is_counted q λ o k i j z w.
      k ∙ sym (ap (λ x. accepted (outline d.records d.variables x)) (z ∙ take_all l o.rows (omega (arith, w, h))) ∙ ap (λ x. accepted (outline x d.variables o.rows)) i ∙ ap (λ x. accepted (outline o.records x o.rows)) j)

  module _ (t : List ℤ) {f : Refusal} (q : a ≡ Err f) where
    pub not_planned : Err f ≡ planned_by (of_markup c) (length t)
    unfolding planned_by
    not_planned = sym (rw (not_described q))

    pub not_written : t ≡ after_by (of_markup c) t
    unfolding after_by
    not_written = sym (rw (not_described q))

  module _ (t : List ℤ) {d : Planned} (q : a ≡ Ok d) (m : length r ≡ l) (h : 8 * d.records ≤ length r) where
    pub is_planned : {w : Result Planned Refusal} → w ≡ put_of d.records d.variables (length t) → w ≡ planned_by (of_markup c) (length t)
    unfolding planned_by
    is_planned k = k ∙ sym (rw (is_described q (omega arith)))

    pub is_written : {t' : List ℤ} → t' ≡ cond (leb (8 * d.records) (length t)) (placed (take (8 * d.records) r) t) t → t' ≡ after_by (of_markup c) t
    unfolding after_by
    is_written k = k ∙ sym (rw (is_described q (omega arith)))

pub few_told : {a : Result Planned Refusal} {d : Planned} → Few a → a ≡ Ok d → d.records ≤ 4096
unfolding Few
few_told f q = rw q at f

-- rows for 4,096 records are enough
pub roomy : {a : Result Planned Refusal} {d : Planned} {k : ℕ} → Few a → a ≡ Ok d → 32768 ≤ k → 8 * d.records ≤ k
roomy f q h = omega (arith, few_told f q)

pub ruleset planning = (not_planned, not_written, is_planned, is_written, few_told, rules)

-- ── the definitions of planning, by the outline ──

module _ (b : List ℕ) (t : List ℤ) where
  planned_by_law : (a : Answer Description) → described b ≡ a → answer_of (planned_by (a and_then outlined) (length t)) ≡ planned b t
  unfolding outlined planned_by put_of answer_of counts_of
  planned_by_law (accepted d) q = ⊎_elim
      (λ (h : length t < 8 * records_of d.segments). rw (lt-leb _ _ h) (sym (short b t d q h)))
      (λ (h : 8 * records_of d.segments ≤ length t). rw (le-leb _ _ h) (sym (fits b t d q h)))
      (lt_or_le (length t) (8 * records_of d.segments))
  planned_by_law (refused f) q = sym (refuses b t f q)

  written_by : (a : Answer Description) → described b ≡ a → after_by (a and_then outlined) t ≡ table_after b t
  unfolding outlined after_by
  written_by (accepted d) q = ⊎_elim
      (λ (h : length t < 8 * records_of d.segments). rw (lt-leb _ _ h) (sym (short_table b t d q h)))
      (λ (h : 8 * records_of d.segments ≤ length t). rw (le-leb _ _ h) (sym (fits_table b t d q h)))
      (lt_or_le (length t) (8 * records_of d.segments))
  written_by (refused f) q = sym (refuses_table b t f q)

  pub planned_so : {r : Result Planned Refusal} → r ≡ planned_by (outline_of b) (length t) → answer_of r ≡ planned b t
  unfolding outline_of
  planned_so k = ap answer_of k ∙ planned_by_law (described b) refl

  pub written_so : {u : List ℤ} → u ≡ after_by (outline_of b) t → u ≡ table_after b t
  unfolding outline_of
  written_so k = k ∙ written_by (described b) refl
