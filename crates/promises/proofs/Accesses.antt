-- The steps to the page, of writing and reading with any table: why they are refused, and what an accepted write has passed.
use mathlib.Core.Path.{◌≡◌, refl, sym, ap, ◌∙◌}
use mathlib.Core.List.{List, [], ◌∷◌}
use mathlib.Core.Bool.{Bool, true, false, cond, not, false≢true}
use mathlib.Core.Option.{Option, none, some}
use mathlib.Core.Logic.{◌⊎◌, inl, inr, ⊎_elim, ◌↔◌}
use Prim.Native.Nat.{ℕ, ◌≤◌, ◌<◌}
use native.Mathlib.Omega.{arith}
use borrow.Author.Tests.{eq-eqb}
use lib.IntN.{ℤ}
use lib.Dec.{eqb}
use lib.ListN.{length, take, get_or}
use Rattle.scan.proofs.Tests.{lt_or_le}
use Rattle.cdi.specs.Lists.{given}
use Rattle.cdi.specs.Tree.{end}
use Rattle.cdi.specs.Faults.{Fault, fault, Answer, accepted, refused, ◌and_then◌, is_accepted}
use Rattle.cdi.specs.Text.{zero_from, is_utf8}
use Rattle.cdi.specs.Walk.{Found, walk}
use Rattle.cdi.specs.Table.{table_of, same_table}
use Rattle.cdi.specs.Plans.{place_of, is_plan, segments_of, variable_of, locating}
use Rattle.cdi.specs.Planning.{Description, described}
use Rattle.cdi.specs.Access.{Window, Value, string, Setting, content_at, exact, setting_in, setting_of, is_inside, is_float, first_cause, write_causes, written, Reading, own_bytes, text_in, value_in, read_causes, read_from, read}
use Rattle.cdi.proofs.Quiet.{impossible, same_refused, through, test_passed}
use Rattle.cdi.proofs.PlanOf.{same_table_law, table_itself}
use Rattle.cdi.proofs.Back.{Passed, passed}
use Rattle.cdi.proofs.Promises.{nth_is, nth_none, count_is}
use Rattle.locate.specs.Answers.{told_of}
use Rattle.std.specs.Prelude.{Result, Err, Ok}
use Rattle.locate.specs.declared.Variable.{Variable}
use Rattle.locate.specs.declared.Absent.{Absent}
use Rattle.locate.specs.declared.Absent.TheVariants.{NotAPlan, NoVariable}
use Rattle.locate.proofs.Once.{one_case}
use Rattle.access_kinds.specs.Told.{window_of}
use Rattle.access_lookup.specs.Told.{end_in, known_of}
use Rattle.access_writing.specs.Told.{written_of}
use Rattle.refusals.specs.declared.Refusal.{Refusal}
use Rattle.refusals.specs.Refusals.{refusal}
use Rattle.access_reading.specs.Told.{reading_of, ReadAt}
use Rattle.access_reading.specs.declared.Reading as Read
use Rattle.access_reading.specs.declared.Reading.TheVariants as reading
use Rattle.access.specs.Told.{start_for}
use Rattle.access.proofs.Once.{write_once, read_once}
use Rattle.promises.proofs.Steps.{described_number}
use Rattle.promises.proofs.Terms as why
use Rattle.promises.proofs.Terms.{TextNumber, AccessCause, variable_at}

-- ── tables ──

another : (t u : List ℤ) → (t ≡ u → ⊥) → same_table t u ≡ false
another t u h = by (same_table t u) refl
  where
    by : (b : Bool) → same_table t u ≡ b → same_table t u ≡ false
    by true e = absurd (h (same_table_law t u e))
    by false e = e

-- ── why an access is refused ──

module _ (b : List ℕ) (t : List ℤ) (n : ℕ) where
  module _ {d : Description} (e : described b ≡ accepted d) where
    other_table : same_table t (table_of d.segments) ≡ false → setting_of b t n ≡ refused (fault 20 0)
    unfolding setting_of exact
    other_table h = rw (e, h)

    no_variable : same_table t (table_of d.segments) ≡ true → length (walk d.segments) ≤ n → setting_of b t n ≡ refused (fault 21 0)
    unfolding setting_of exact setting_in
    no_variable h l = rw (e, h, nth_none d.segments n (omega (arith, count_is d.segments)))

    abbrev some_variable : Found
    some_variable = record { number = 0; space = 0; address = 0; size = 0; kind = 0 }

    abbrev entry : Found
    entry = get_or (walk d.segments) n some_variable

    a_variable : same_table t (table_of d.segments) ≡ true → n < length (walk d.segments)
        → setting_of b t n ≡ accepted (record { variable = entry; content = given (content_at (place_of t entry.number) d.nodes) end (λ k. k) })
    unfolding setting_of exact setting_in
    a_variable h l = rw (e, h, nth_is d.segments n some_variable (omega (arith, count_is d.segments)))

  refused_text : {f : Fault} → described b ≡ refused f → setting_of b t n ≡ refused f
  unfolding setting_of
  refused_text e = rw e

  module _ {A : Type 0} (f : Setting → Answer A) (m p : ℕ) where
    abbrev Own : Setting → Type 0
    Own s = f s ≡ refused (fault m p)

    pub access_refused : AccessCause b t n Own m p → (setting_of b t n and_then f) ≡ refused (fault m p)
    access_refused (why.text e) = rw (refused_text e)
    access_refused (why.table {d = d} e k q s) = rw (other_table e (another t (table_of d.segments) k), q, s)
    access_refused (why.number {d = d} e k l q s) =
        let h : same_table t (table_of d.segments) ≡ true = ap (λ x. same_table t x) (sym k) ∙ table_itself t in
        rw (no_variable e h l, q, s)
    access_refused (why.variable e o) = rw e o

    number_is : (x y : ℕ) → ◌≡◌ {A = Answer A} (refused (fault x y)) (refused (fault m p)) → (m ≡ x) × (p ≡ y)
    number_is x y e = let z = sym (same_refused e) in (ap (λ (g : Fault). g.number) z, ap (λ (g : Fault). g.place) z)

    pub access_cause : (setting_of b t n and_then f) ≡ refused (fault m p) → AccessCause b t n Own m p
    access_cause h = by (setting_of b t n) refl h
      where
        tables : {d : Description} → described b ≡ accepted d → (x : Bool) → same_table t (table_of d.segments) ≡ x → {g : Fault} → setting_of b t n ≡ refused g → ◌≡◌ {A = Answer A} (refused g) (refused (fault m p)) → AccessCause b t n Own m p
        tables {d} e false q {g} z h =
            let y = other_table e q in
            let w : g ≡ fault 20 0 = cc in
            let v = number_is 20 0 (rw w at h) in
            why.table e (λ k. false≢true (sym q ∙ ap (λ x. same_table t x) (sym k) ∙ table_itself t)) v.0 v.1
        tables {d} e true q {g} z h = ⊎_elim (λ l. let y = a_variable e q l in impossible (cc)) beyond (lt_or_le n (length (walk d.segments)))
          where
            beyond : length (walk d.segments) ≤ n → AccessCause b t n Own m p
            beyond l =
                let y = no_variable e q l in
                let w : g ≡ fault 21 0 = cc in
                let v = number_is 21 0 (rw w at h) in
                why.number e (same_table_law t _ q) l v.0 v.1

        texts : (a : Answer Description) → described b ≡ a → {g : Fault} → setting_of b t n ≡ refused g → ◌≡◌ {A = Answer A} (refused g) (refused (fault m p)) → AccessCause b t n Own m p
        texts (refused x) e {g} z h =
            let y = refused_text e in
            let w : x ≡ fault m p = cc in
            why.text (rw w at e)
        texts (accepted d) e z h = tables e (same_table t (table_of d.segments)) refl z h

        by : (a : Answer Setting) → setting_of b t n ≡ a → (a and_then f) ≡ refused (fault m p) → AccessCause b t n Own m p
        by (accepted s) e h = why.variable e h
        by (refused g) e h = texts (described b) refl e h

-- ── the numbers ──

abbrev told_as : Window → Setting → Value → Reading
told_as w s v = record { value = v; writable = is_accepted (first_cause (write_causes w v s)) }

-- those of a variable that is there have place 0
abbrev OfVariable : ℕ → ℕ → ℕ → Type 0
OfVariable hi m p = (22 ≤ m) × (m ≤ hi) × (p ≡ 0)

same_number_law : {A : Type 0} {m p k : ℕ} → ◌≡◌ {A = Answer A} (refused (fault k 0)) (refused (fault m p)) → (m ≡ k) × (p ≡ 0)
same_number_law {A} {m} {p} {k} e = let z : fault m p ≡ fault k 0 = cc in (ap (λ (x : Fault). x.number) z, ap (λ (x : Fault). x.place) z)

module _ {m p : ℕ} where
  first_number : {P : Type 0} (x : Bool) (k : ℕ) (cs : List (Bool × ℕ)) → first_cause ((x, k) ∷ cs) ≡ refused (fault m p) → ((m ≡ k) × (p ≡ 0) → P) → (first_cause cs ≡ refused (fault m p) → P) → P
  unfolding first_cause
  first_number true k cs e f g = f (same_number_law e)
  first_number false k cs e f g = g e

  no_cause : {P : Type 0} → first_cause [] ≡ refused (fault m p) → P
  unfolding first_cause
  no_cause e = impossible (cc)

  write_own : (w : Window) (v : Value) (s : Setting) → first_cause (write_causes w v s) ≡ refused (fault m p) → OfVariable 27 m p
  unfolding write_causes
  write_own w v s e =
      first_number _ 27 _ e (λ k. (omega arith, omega arith, k.1)) λ e.
      first_number _ 22 _ e (λ k. (omega arith, omega arith, k.1)) λ e.
      first_number _ 23 _ e (λ k. (omega arith, omega arith, k.1)) λ e.
      first_number _ 25 _ e (λ k. (omega arith, omega arith, k.1)) λ e.
      first_number _ 24 _ e (λ k. (omega arith, omega arith, k.1)) λ e.
      first_number _ 26 _ e (λ k. (omega arith, omega arith, k.1)) λ e.
      no_cause e

  read_text : (bytes : List ℕ) → text_in bytes ≡ refused (fault m p) → (m ≡ 28) × (p ≡ 0)
  unfolding text_in
  read_text bytes e = by (zero_from 0 bytes) e
    where
      either : (x : Bool) (y : Value) → cond x (accepted y) (refused (fault 28 0)) ≡ refused (fault m p) → (m ≡ 28) × (p ≡ 0)
      either true y e = impossible (cc)
      either false y e = same_number_law e

      by : (o : Option ℕ) → given o (refused (fault 28 0)) (λ e. cond (is_utf8 (take e bytes)) (accepted (string (take e bytes))) (refused (fault 28 0))) ≡ refused (fault m p) → (m ≡ 28) × (p ≡ 0)
      by none e = same_number_law e
      by (some z) e = either (is_utf8 (take z bytes)) (string (take z bytes)) e

  read_value : (s : Setting) (bytes : List ℕ) → value_in s bytes ≡ refused (fault m p) → (m ≡ 28) × (p ≡ 0)
  unfolding value_in
  read_value s bytes e = by (eqb s.variable.kind 3) (eqb s.variable.kind 4) _ _ e
    where
      by : (x y : Bool) (z u : Value) → cond x (accepted z) (cond y (text_in bytes) (accepted u)) ≡ refused (fault m p) → (m ≡ 28) × (p ≡ 0)
      by true y z u e = impossible (cc)
      by false true z u e = read_text bytes e
      by false false z u e = impossible (cc)

  read_own : (w : Window) (s : Setting) → read_from w s ≡ refused (fault m p) → OfVariable 28 m p
  unfolding read_from read_causes
  read_own w s e = by (first_cause (read_causes w s)) refl e
    where
      given_value : (a : Answer Value) → value_in s (own_bytes w s.variable) ≡ a → (g : Value → Reading) → (a and_then λ v. accepted (g v)) ≡ refused (fault m p) → OfVariable 28 m p
      given_value (accepted v) q g e = impossible (cc)
      given_value (refused x) q g e =
          let z : x ≡ fault m p = cc in
          let k = read_value s (own_bytes w s.variable) (rw z at q) in
          (omega arith, omega arith, k.1)

      caused : {x : Fault} → first_cause ((is_float s, 27) ∷ (not (is_inside w s.variable), 26) ∷ []) ≡ refused x → x ≡ fault m p → OfVariable 28 m p
      caused {x} q z =
          first_number _ 27 _ (rw z at q) (λ k. (omega arith, omega arith, k.1)) λ e.
          first_number _ 26 _ e (λ k. (omega arith, omega arith, k.1)) λ e.
          no_cause e

      by : (a : Answer (Unit {0})) → first_cause ((is_float s, 27) ∷ (not (is_inside w s.variable), 26) ∷ []) ≡ a
          → (a and_then λ u. value_in s (own_bytes w s.variable) and_then λ v. accepted (told_as w s v)) ≡ refused (fault m p) → OfVariable 28 m p
      by (accepted u) q e = given_value (value_in s (own_bytes w s.variable)) refl _ e
      by (refused x) q e = let z : x ≡ fault m p = cc in caused q z

  access_number : {b : List ℕ} {t : List ℤ} {n : ℕ} {own : Setting → Type 0} (hi : ℕ) → 21 ≤ hi → ((s : Setting) → own s → OfVariable hi m p) → AccessCause b t n own m p → TextNumber m ⊎ ((20 ≤ m) × (m ≤ hi))
  access_number {b} hi l f (why.text e) = inl (described_number b (fault m p) e)
  access_number hi l f (why.table e k q s) = inr (omega arith, omega arith)
  access_number hi l f (why.number e k j q s) = inr (omega arith, omega arith)
  access_number hi l f (why.variable {s = s} e o) = let k = f s o in inr (omega arith, omega arith)

  -- of a text and a table that have been checked, they are from 21 on and have place 0
  access_checked : {b : List ℕ} {t : List ℤ} {n e : ℕ} {own : Setting → Type 0} (hi : ℕ) → 21 ≤ hi → ((s : Setting) → own s → OfVariable hi m p) → known_of b t ≡ accepted e → AccessCause b t n own m p
      → (21 ≤ m) × (m ≤ hi) × (p ≡ 0)
  unfolding known_of exact
  access_checked hi l f h (why.text e) = let z = rw e at h in impossible (cc)
  access_checked {b} {t} hi l f h (why.table {d = d} e k q s) =
      through (exact t d) (λ x. accepted (end_in b)) _ (rw e at h) λ x y z. absurd (k (same_table_law t _ (test_passed (same_table t (table_of d.segments)) (fault 20 0) d x y).0))
  access_checked hi l f h (why.number e k j q s) = (omega arith, omega arith, s)
  access_checked hi l f h (why.variable {s = s} e o) = let k = f s o in (omega arith, omega arith, k.2)

-- those of a text with its table
pub exact_number : (b : List ℕ) (t : List ℤ) (f : Fault) → (described b and_then exact t) ≡ refused f → TextNumber f.number ⊎ (f ≡ fault 20 0)
unfolding exact
exact_number b t f e = by (described b) refl e
  where
    same : (x : Bool) (d : Description) → cond x (accepted d) (refused (fault 20 0)) ≡ refused f → f ≡ fault 20 0
    same true d e = impossible (cc)
    same false d e = cc

    by : (a : Answer Description) → described b ≡ a → (a and_then exact t) ≡ refused f → TextNumber f.number ⊎ (f ≡ fault 20 0)
    by (accepted d) q e = inr (same (same_table t (table_of d.segments)) d e)
    by (refused g) q e = let z : g ≡ f = cc in inl (described_number b f (rw z at q))

-- ── of the code's answers ──

passes_all : (w : Window) (v : Value) (s : Setting) → Passed w v s → first_cause (write_causes w v s) ≡ accepted tt
unfolding first_cause write_causes
passes_all w v s p = rw (p.allowed, eq-eqb _ _ p.kind, p.bounds, p.text, p.mapped, p.inside)

module _ (b : List ℕ) (t : List ℤ) (n : ℕ) (w : Window) (v : Value) (s : Result (Unit {0}) Refusal) (said : written_of s ≡ written b t n w v) where
  module _ {m p : ℕ} where
    write_cause : s ≡ Err (refusal m p) → AccessCause b t n (λ x. first_cause (write_causes w v x) ≡ refused (fault m p)) m p
    unfolding written_of written
    write_cause e = access_cause b t n (λ x. first_cause (write_causes w v x)) m p (sym said ∙ ap written_of e)

    write_refused : AccessCause b t n (λ x. first_cause (write_causes w v x) ≡ refused (fault m p)) m p → s ≡ Err (refusal m p)
    unfolding written_of written
    write_refused k = write_once b t n w v s (Err (refusal m p)) said (sym (access_refused b t n (λ x. first_cause (write_causes w v x)) m p k))

    pub write_refused_exactly : s ≡ Err (refusal m p) ↔ AccessCause b t n (λ x. first_cause (write_causes w v x) ≡ refused (fault m p)) m p
    write_refused_exactly = (write_cause, write_refused)

    pub write_number : s ≡ Err (refusal m p) → TextNumber m ⊎ ((20 ≤ m) × (m ≤ 27))
    write_number e = access_number 27 (omega arith) (λ x o. write_own w v x o) (write_cause e)

    pub write_checked : {end : ℕ} → known_of b t ≡ accepted end → s ≡ Err (refusal m p) → (21 ≤ m) × (m ≤ 27) × (p ≡ 0)
    write_checked h e = access_checked 27 (omega arith) (λ x o. write_own w v x o) h (write_cause e)

  write_passed : s ≡ (Ok tt) → (x : Setting) × (setting_of b t n ≡ accepted x) × Passed w v x
  unfolding written_of written
  write_passed e = through (setting_of b t n) (λ x. first_cause (write_causes w v x)) tt (sym said ∙ ap written_of e) λ x found causes. (x, found, passed w v x causes)

  write_accepted : (x : Setting) → setting_of b t n ≡ accepted x → Passed w v x → s ≡ (Ok tt)
  unfolding written_of written
  write_accepted x found all = write_once b t n w v s (Ok tt) said (let z : written b t n w v ≡ accepted tt = rw found (passes_all w v x all) in sym z)

  pub write_accepted_exactly : s ≡ (Ok tt) ↔ ((x : Setting) × (setting_of b t n ≡ accepted x) × Passed w v x)
  write_accepted_exactly = (write_passed, λ x. write_accepted x.0 x.1 x.2)

module _ (b : List ℕ) (t : List ℤ) (n space first : ℕ) (bytes : List ℕ) (q : Result Read.Reading Refusal) (is : reading_of bytes q ≡ read b t n (window_of space first bytes)) (at : ReadAt (start_for b t n first) bytes q) {m p : ℕ} where
  read_cause : q ≡ Err (refusal m p) → AccessCause b t n (λ x. read_from (window_of space first bytes) x ≡ refused (fault m p)) m p
  unfolding reading_of read
  read_cause e = access_cause b t n (read_from (window_of space first bytes)) m p (sym is ∙ ap (reading_of bytes) e)

  read_refused : AccessCause b t n (λ x. read_from (window_of space first bytes) x ≡ refused (fault m p)) m p → q ≡ Err (refusal m p)
  unfolding reading_of read ReadAt
  read_refused k = read_once b t n space first bytes q (Err (refusal m p)) is (sym (access_refused b t n (read_from (window_of space first bytes)) m p k)) at tt

  pub read_refused_exactly : q ≡ Err (refusal m p) ↔ AccessCause b t n (λ x. read_from (window_of space first bytes) x ≡ refused (fault m p)) m p
  read_refused_exactly = (read_cause, read_refused)

  pub read_number : q ≡ Err (refusal m p) → TextNumber m ⊎ ((20 ≤ m) × (m ≤ 28))
  read_number e = access_number 28 (omega arith) (λ x o. read_own (window_of space first bytes) x o) (read_cause e)

  pub read_checked : {end : ℕ} → known_of b t ≡ accepted end → q ≡ Err (refusal m p) → (21 ≤ m) × (m ≤ 28) × (p ≡ 0)
  read_checked h e = access_checked 28 (omega arith) (λ x o. read_own (window_of space first bytes) x o) h (read_cause e)

-- ── locating in any table ──

module _ (t : List ℤ) (n : ℕ) (q : Result Variable Absent) (is : told_of q ≡ locating t n) where
  not_a_plan : is_plan t ≡ false → q ≡ Err NotAPlan
  unfolding told_of locating
  not_a_plan h = let z : locating t n ≡ refused (fault 20 0) = rw h in one_case q (Err NotAPlan) (is ∙ z)

  module _ (h : is_plan t ≡ true) where
    by_walk : locating t n ≡ variable_of (segments_of t) n
    unfolding locating
    by_walk = rw h

    beyond_count : length (walk (segments_of t)) ≤ n → q ≡ Err NoVariable
    unfolding told_of
    beyond_count l = one_case q (Err NoVariable) (is ∙ by_walk ∙ nth_none (segments_of t) n (omega (arith, count_is (segments_of t))))

    below_count : n < length (walk (segments_of t)) → (o : Found) → q ≡ variable_at (get_or (walk (segments_of t)) n o)
    unfolding told_of
    below_count l o = one_case q _ (is ∙ by_walk ∙ nth_is (segments_of t) n o (omega (arith, count_is (segments_of t))))

  pub locates : (is_plan t ≡ false → q ≡ Err NotAPlan)
      × (is_plan t ≡ true → length (walk (segments_of t)) ≤ n → q ≡ Err NoVariable)
      × (is_plan t ≡ true → n < length (walk (segments_of t)) → (o : Found) → q ≡ variable_at (get_or (walk (segments_of t)) n o))
  locates = (not_a_plan, beyond_count, below_count)
