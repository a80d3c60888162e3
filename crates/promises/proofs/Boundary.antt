-- What the library's calls under C names promise beyond their contracts: which results say what, and what may be called without a check.
use mathlib.Core.Path.{◌≡◌, refl, sym, ap, ◌∙◌}
use mathlib.Core.List.{List, [], ◌∷◌, map}
use mathlib.Core.Bool.{Bool, true, false, cond}
use mathlib.Core.Logic.{◌⊎◌, inl, inr, ⊎_elim}
use Prim.Native.Nat.{ℕ, zero, suc, ◌*◌, ◌≤◌}
use native.Mathlib.Omega.{arith}
use borrow.Author.Tests.{eqb-true, eqb-false}
use lib.Dec.{eqb}
use lib.IntN.{ℤ}
use lib.ListN.{take, get_or}
use Rattle.cdi.specs.Faults.{Fault, fault, Answer, accepted, refused, ◌and_then◌}
use Rattle.cdi.specs.Walk.{Found, walk}
use Rattle.cdi.specs.Plans.{is_plan, segments_of, variable_of, locating}
use Rattle.cdi.specs.Planning.{Description, Counts, described, planned, table_after}
use Rattle.cdi.specs.Access as A
use Rattle.cdi.specs.Access.{Window, Value, exact, written}
use Rattle.cdi.proofs.Quiet.{impossible}
use Rattle.cdi.specs.Table.{same_table, table_of}
use Rattle.cdi.proofs.PlanOf.{table_itself}
use Rattle.std.specs.Prelude.{Result, Ok, Err}
use Rattle.refusals.specs.declared.Refusal.{Refusal}
use Rattle.refusals.specs.Refusals.{refusal}
use Rattle.plan_stages.specs.Outlines.{sizes, answer_of}
use Rattle.plan.proofs.Promises.{told, accepted_faultless}
use Rattle.listing_fill.specs.Batch.{listing}
use Rattle.access_kinds.specs.Told.{window_of}
use Rattle.access_lookup.specs.Told.{end_in, known_of}
use Rattle.access_lookup.proofs.Seeking.{known_plan}
use Rattle.access_reading.specs.Told.{reading_of, ReadAt}
use Rattle.access_reading.specs.declared.Reading.TheVariants as reading
use Rattle.access_writing.specs.Told.{written_of}
use Rattle.outcomes.specs.Outcomes.{number_in, value_after}
use Rattle.undo_model.specs.Sessions.{State, Edit, edited, undone, answered}
use Rattle.undo_laws.proofs.Edits.{edit_30, undo_31, undo_35, undo_refused, edit_refused}
use Rattle.planksling_out.specs.Readings.{showing}
use Rattle.planksling.specs.Answers.{tested, shown}
use Rattle.promises.proofs.Terms.{TextNumber}
use Rattle.promises.proofs.Steps as steps
use Rattle.promises.proofs.Accesses as accesses
use Rattle.promises.proofs.Calls as calls

-- ── the result is 0 exactly where the call is accepted ──

module _ {A : Type 0} where
  -- no refusal has the number 0
  abbrev Numbered : Answer A → Type 0
  Numbered a = (f : Fault) → a ≡ refused f → 1 ≤ f.number

  pub zero_accepts : (a : Answer A) → Numbered a → 0 ≡ number_in a → (x : A) × (a ≡ accepted x)
  unfolding number_in
  zero_accepts (accepted x) k e = (x, refl)
  zero_accepts (refused f) k e = absurd (omega (arith, k f refl))

text_positive : (m : ℕ) → TextNumber m → 1 ≤ m
text_positive m (inl h) = omega arith
text_positive m (inr (inl (inl h))) = omega arith
text_positive m (inr (inl (inr h))) = omega arith
text_positive m (inr (inr h)) = omega arith

not_shown : (f : Fault) (at : ℕ) (a : Answer A.Reading) → showing at a ≡ refused f → a ≡ refused f
unfolding showing
not_shown f at (accepted r) e = impossible (cc)
not_shown f at (refused g) e = cc

module _ (b : List ℕ) (t : List ℤ) where
  pub plan_numbered : Numbered (planned b t)
  unfolding answer_of
  plan_numbered f e = ⊎_elim (text_positive f.number) (λ z. omega arith) (steps.refused_number b t {r = Err (refusal f.number f.place)} (sym e) refl)

  pub check_numbered : Numbered (known_of b t)
  unfolding known_of
  check_numbered f e = by (described b and_then exact t) refl e
    where
      by : (a : Answer Description) → (described b and_then exact t) ≡ a → (a and_then λ d. accepted (end_in b)) ≡ refused f → 1 ≤ f.number
      by (accepted d) q e = impossible (cc)
      by (refused g) q e = let z : g ≡ f = cc in ⊎_elim (text_positive f.number) (λ y. rw y (omega arith)) (accesses.exact_number b t f (rw z at q))

  module _ (n : ℕ) (w : Window) where
    pub write_numbered : (v : Value) → Numbered (written b t n w v)
    unfolding written_of
    write_numbered v f e = ⊎_elim (text_positive f.number) (λ z. omega arith) (accesses.write_number b t n w v (Err (refusal f.number f.place)) (sym e) refl)

  module _ (n space first : ℕ) (bytes : List ℕ) where
    pub read_numbered : Numbered (shown b t n space first bytes)
    unfolding shown reading_of ReadAt
    read_numbered f e =
        ⊎_elim (text_positive f.number) (λ z. omega arith) (accesses.read_number b t n space first bytes (Err (refusal f.number f.place)) (sym (not_shown f _ _ e)) tt refl)

-- 20, or another answer
gated : {A : Type 0} (x : Bool) (a : Answer A) → Numbered a → Numbered (cond x a (refused (fault 20 0)))
gated true a k f e = k f e
gated false a k f e = let z : f ≡ fault 20 0 = cc in rw z (omega arith)

given_number : {A : Type 0} (x : A) → Numbered (accepted x)
given_number x f e = impossible (cc)

-- where there is no variable n, it is 21
no_variable : (vs : List Found) (n : ℕ) (f : Fault) → get_or (map accepted vs) n (refused (fault 21 0)) ≡ refused f → f ≡ fault 21 0
no_variable [] n f e = cc
no_variable (v ∷ vs) zero f e = impossible (cc)
no_variable (v ∷ vs) (suc n) f e = no_variable vs n f e

module _ (t : List ℤ) where
  pub test_numbered : Numbered (tested t)
  unfolding tested
  test_numbered = gated (is_plan t) (accepted tt) (given_number tt)

  module _ (n : ℕ) where
    pub list_numbered : (o : List ℕ) → Numbered (listing t n o)
    unfolding listing
    list_numbered o = gated (is_plan t) _ (given_number _)

    pub find_numbered : Numbered (variable_of (segments_of t) n)
    unfolding variable_of
    find_numbered f e = rw (no_variable (walk (segments_of t)) n f e) (omega arith)

    pub locate_numbered : Numbered (locating t n)
    unfolding locating
    locate_numbered = gated (is_plan t) (variable_of (segments_of t) n) find_numbered

-- ── after a planning that returned 0, the checked calls may be made: no check is needed ──

module _ (b : List ℕ) (t : List ℤ) (returned : 0 ≡ number_in (planned b t)) (y : ℕ) {n : ℕ} (records : n ≡ value_after (λ (a : Counts). a.records) (planned b t) y) where
  counted : (c : Counts) × (planned b t ≡ accepted c)
  counted = zero_accepts (planned b t) (plan_numbered b t) returned

  abbrev c : Counts
  c = counted.0

  rows : n ≡ c.records
  unfolding value_after
  rows = records ∙ rw counted.1

  answers : answer_of (Ok (sizes c.records c.variables)) ≡ planned b t
  unfolding answer_of
  answers = sym counted.1

  abbrev text : List ℕ
  text = (accepted_faultless b t answers refl).text

  abbrev plan : List ℤ
  plan = take (8 * n) (table_after b t)

  plan_is : plan ≡ table_of (told text)
  plan_is = ap (λ k. take (8 * k) (table_after b t)) rows ∙ calls.plan_is b t answers refl text (accepted_faultless b t answers refl).faultless.ends refl

  -- the records are exactly the table of this text, and the end is where its first zero stands
  pub planned_known : known_of b plan ≡ accepted (end_in b)
  unfolding known_of exact
  planned_known =
      let d = calls.described_is b t answers refl text (accepted_faultless b t answers refl).faultless.ends in
      rw (plan_is, d, table_itself (table_of (told text)))

  -- they are a plan
  pub planned_plan : is_plan plan ≡ true
  planned_plan = known_plan b plan planned_known

-- a table that passes the check of text and table is a plan
pub checked_plan : (b : List ℕ) (t : List ℤ) (e : ℕ) → known_of b t ≡ accepted e → is_plan t ≡ true
checked_plan b t e h = known_plan b t h

-- ── of a text and a table that have been checked, a refusal is from 21 on and has place 0 ──

module _ (b : List ℕ) (t : List ℤ) {end : ℕ} (checked : known_of b t ≡ accepted end) (n space first : ℕ) (bytes : List ℕ) {f : Fault} where
  pub write_place : (v : Value) → written b t n (window_of space first bytes) v ≡ refused f → (21 ≤ f.number) × (f.number ≤ 27) × (f.place ≡ 0)
  unfolding written_of
  write_place v e = accesses.write_checked b t n (window_of space first bytes) v (Err (refusal f.number f.place)) (sym e) checked refl

  pub read_place : shown b t n space first bytes ≡ refused f → (21 ≤ f.number) × (f.number ≤ 28) × (f.place ≡ 0)
  unfolding shown reading_of ReadAt
  read_place e = accesses.read_checked b t n space first bytes (Err (refusal f.number f.place)) (sym (not_shown f _ _ e)) tt checked refl

-- ── edits and undos (R-6) ──

-- the numbers of an edit's refusals: those of writing, and 30; and of an undo's: 1 to 12 and 20 as of writing, 31, 35
abbrev pub EditNumber : ℕ → Type 0
EditNumber m = TextNumber m ⊎ (((20 ≤ m) × (m ≤ 27)) ⊎ (m ≡ 30))

abbrev pub UndoNumber : ℕ → Type 0
UndoNumber m = TextNumber m ⊎ ((m ≡ 20) ⊎ ((m ≡ 31) ⊎ (m ≡ 35)))

numbered : {f g : Fault} → f ≡ g → f.number ≡ g.number
numbered e = ap (λ (x : Fault). x.number) e

module _ (b : List ℕ) (t : List ℤ) (s : State) (f : Fault) where
  -- why an edit is refused: writing is, or it is 30 at 0
  edit_cause : (e : Edit) → edited b t e s ≡ refused f → (written b t e.number s.window e.value ≡ refused f) ⊎ (f ≡ fault 30 0)
  edit_cause e q = by (written b t e.number s.window e.value) refl
    where
      by : (a : Answer (Unit {0})) → written b t e.number s.window e.value ≡ a → (written b t e.number s.window e.value ≡ refused f) ⊎ (f ≡ fault 30 0)
      by (accepted tt) p = inr (edit_30 b t s e f p q)
      by (refused g) p = let y = edit_refused b t s e g p in inl (cc)

  -- why an undo is: text or table are, or it is 31 or 35 at 0
  undo_cause : undone b t s ≡ refused f → ((described b and_then exact t) ≡ refused f) ⊎ ((f ≡ fault 31 0) ⊎ (f ≡ fault 35 0))
  undo_cause q = by (described b and_then exact t) refl
    where
      stands : (d : Description) → (described b and_then exact t) ≡ accepted d → (x : Bool) → eqb s.session 0 ≡ x → (f ≡ fault 31 0) ⊎ (f ≡ fault 35 0)
      stands d p true x = let y = undo_31 b t s d p (eqb-true _ _ x) in inl (cc)
      stands d p false x = inr (undo_35 b t s d f p (eqb-false _ _ x) q)

      by : (a : Answer Description) → (described b and_then exact t) ≡ a → ((described b and_then exact t) ≡ refused f) ⊎ ((f ≡ fault 31 0) ⊎ (f ≡ fault 35 0))
      by (accepted d) p = inr (stands d p (eqb s.session 0) refl)
      by (refused g) p = let y = undo_refused b t s g p in inl (cc)

  module _ (e : Edit) (q : edited b t e s ≡ refused f) where
    pub edit_number : EditNumber f.number
    unfolding written_of
    edit_number =
        ⊎_elim
        (λ p. ⊎_elim inl (λ h. inr (inl h)) (accesses.write_number b t e.number s.window e.value (Err (refusal f.number f.place)) (sym p) refl))
        (λ z. inr (inr (numbered z)))
        (edit_cause e q)

    -- of a text and a table that have been checked it has place 0
    pub edit_place : {end : ℕ} → known_of b t ≡ accepted end → (21 ≤ f.number) × (f.number ≤ 30) × (f.place ≡ 0)
    unfolding written_of
    edit_place k =
        ⊎_elim
        (λ p. let h = accesses.write_checked b t e.number s.window e.value (Err (refusal f.number f.place)) (sym p) k refl in (h.0, omega arith, h.2))
        (λ z. rw z (omega arith, omega arith, refl))
        (edit_cause e q)

  module _ (q : undone b t s ≡ refused f) where
    pub undo_number : UndoNumber f.number
    undo_number =
        ⊎_elim
        (λ p. ⊎_elim inl (λ z. inr (inl (numbered z))) (accesses.exact_number b t f p))
        (λ r. inr (inr (⊎_elim (λ z. inl (numbered z)) (λ z. inr (numbered z)) r)))
        (undo_cause q)

    pub undo_place : {end : ℕ} → known_of b t ≡ accepted end → (f ≡ fault 31 0) ⊎ (f ≡ fault 35 0)
    unfolding known_of
    undo_place k = ⊎_elim (λ p. let z = rw p at k in impossible (cc)) (λ r. r) (undo_cause q)

-- so a call under a C name returns 0 exactly where it is accepted
module _ (b : List ℕ) (t : List ℤ) (s : State) where
  pub edit_numbered : (e : Edit) → Numbered (edited b t e s)
  edit_numbered e f q = ⊎_elim (text_positive f.number) (λ h. ⊎_elim (λ z. omega arith) (λ z. omega arith) h) (edit_number b t s f e q)

  pub undo_numbered : Numbered (undone b t s)
  undo_numbered f q = ⊎_elim (text_positive f.number) (λ h. ⊎_elim (λ z. omega arith) (λ h. ⊎_elim (λ z. omega arith) (λ z. omega arith) h) h) (undo_number b t s f q)

pub answered_numbered : (a : Answer State) → Numbered a → Numbered (answered a)
unfolding answered
answered_numbered (accepted s) k f e = impossible (cc)
answered_numbered (refused g) k f e = let z : g ≡ f = cc in k f (ap refused z)
