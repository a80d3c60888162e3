-- The steps to the page: the least fault, texts that agree up to a zero, the cause of a refusal.
use mathlib.Core.Path.{◌≡◌, refl, sym, ap, ◌∙◌}
use mathlib.Core.List.{List, [], ◌∷◌, ◌++◌}
use mathlib.Core.Bool.{Bool, true, false, cond}
use mathlib.Core.Option.{Option, none, some}
use mathlib.Core.Logic.{◌⊎◌, inl, inr, ⊎_elim, ◌↔◌}
use Prim.Native.Nat.{ℕ, zero, suc, ◌+◌, ◌*◌, ◌≤◌, ◌<◌, min}
use native.Mathlib.Omega.{arith}
use borrow.Author.Tests.{ne_eqb, le-leb, lt-leb}
use lib.IntN.{ℤ}
use lib.ListN.{length, take, length-append}
use lib.Seq.{take-append-le}
use Rattle.scan.proofs.Tests.{lt_or_le}
use Rattle.cdi.specs.Lists.{begins}
use Rattle.cdi.specs.Faults.{Fault, fault, before, lesser, least, accepted, refused}
use Rattle.cdi.specs.Text.{zero_from, end_of, content, bad_character, first_line}
use Rattle.cdi.specs.Markup.{progress}
use Rattle.cdi.specs.Tree.{tree}
use Rattle.cdi.specs.Walk.{total}
use Rattle.cdi.specs.Table.{records_of}
use Rattle.cdi.specs.Planning.{describe, ending, characters, opening, cut, markup, elements, leaving, addressing, counting, described, counts_of, room, planned, table_after}
use Rattle.cdi.specs.Access.{Window, Value, setting_of, written, window_after, read}
use Rattle.cdi.proofs.Quiet.{impossible, quiet}
use Rattle.cdi.proofs.Least as order
use Rattle.cdi.proofs.Room.{refuses}
use Rattle.cdi.proofs.Zero.{NoZero, described_alike}
use Rattle.access.specs.Told.{start_for}
use Rattle.plan.proofs.Promises.{told, Faultless, Told, faultless_accepted, accepted_faultless}
use Rattle.std.specs.Prelude.{Result, Ok, Err}
use Rattle.refusals.specs.declared.Refusal.{Refusal}
use Rattle.refusals.specs.Refusals.{refusal}
use Rattle.plan_stages.specs.Outlines.{sizes, answer_of}
use Rattle.plan_stages.specs.declared.Planned.{Planned}
use Rattle.plan.proofs.Once.{plan_once}
use Rattle.access_kinds.specs.Told.{window_of}
use Rattle.access_writing.specs.Told.{written_of}
use Rattle.access_reading.specs.Told.{reading_of, ReadAt}
use Rattle.access_reading.specs.declared.Reading.{Reading}
use Rattle.access.proofs.Once.{write_once, read_once}
use Rattle.promises.proofs.Terms as why
use Rattle.promises.proofs.Terms.{MarkupNumber, RuleNumber, TextNumber, Among, of_markup, of_elements, root_of, Opened, Formed, Ruled, Kept, Counted, Cause}
use Rattle.promises.proofs.Numbers.{From, nothing, then, of_markup_law, of_elements_law, of_address}

-- ── the least fault ──

-- it is one of the list
pub least_among : (fs : List Fault) (f : Fault) → least fs ≡ some f → Among f fs
unfolding least lesser Among
least_among [] f e = impossible (cc)
least_among (g ∷ fs) f e = by (least fs) refl e (least_among fs f)
  where
    by : (o : Option Fault) → least fs ≡ o → lesser (some g) o ≡ some f → (least fs ≡ some f → Among f fs) → (f ≡ g) ⊎ Among f fs
    by none q h k = let z : g ≡ f = cc in inl (sym z)
    by (some x) q h k = pick (before g x) h
      where
        pick : (t : Bool) → some (cond t g x) ≡ some f → (f ≡ g) ⊎ Among f fs
        pick true h = let z : g ≡ f = cc in inl (sym z)
        pick false h = inr (k (q ∙ h))

itself : (f : Fault) → before f f ≡ true
itself f = by (before f f) refl
  where
    by : (t : Bool) → before f f ≡ t → before f f ≡ true
    by true e = e
    by false e = order.total f f e

-- and before every other
pub least_before : (fs : List Fault) (f g : Fault) → least fs ≡ some f → Among g fs → before f g ≡ true
unfolding least lesser Among
least_before [] f g e a = absurd a
least_before (h ∷ fs) f g e a = by (least fs) refl e a (λ x q a. least_before fs x g q a)
  where
    by : (o : Option Fault) → least fs ≡ o → lesser (some h) o ≡ some f → (g ≡ h) ⊎ Among g fs → ((x : Fault) → least fs ≡ some x → Among g fs → before x g ≡ true) → before f g ≡ true
    by none q e (inl z) others = let y : f ≡ g = cc in rw y (itself g)
    by none q e (inr a) others = absurd (rw (quiet fs q) at a)
    by (some x) q e a others = pick (before h x) refl e a
      where
        pick : (t : Bool) → before h x ≡ t → some (cond t h x) ≡ some f → (g ≡ h) ⊎ Among g fs → before f g ≡ true
        pick true p e (inl z) = let y : f ≡ g = cc in rw y (itself g)
        pick true p e (inr a) = let y : f ≡ h = cc in rw y (order.transitive h x g p (others x q a))
        pick false p e (inl z) = let y : f ≡ x = cc in rw (y, z) (order.total h x p)
        pick false p e (inr a) = let y : f ≡ x = cc in rw y (others x q a)

numbered : {P : ℕ → Type 0} (fs : List Fault) (f : Fault) → From P fs → Among f fs → P f.number
unfolding Among
numbered [] f nothing a = absurd a
numbered (g ∷ fs) f (then h x) (inl e) = rw e h
numbered (g ∷ fs) f (then h x) (inr a) = numbered fs f x a

markup_number : (c : List ℕ) (f : Fault) → least (of_markup c) ≡ some f → MarkupNumber f.number
markup_number c f e = numbered (of_markup c) f (of_markup_law (length c) (progress [] 0) (cut c)) (least_among (of_markup c) f e)

rule_number : (c : List ℕ) (f : Fault) → least (of_elements c) ≡ some f → RuleNumber f.number
rule_number c f e = numbered (of_elements c) f (of_elements_law (tree (cut c))) (least_among (of_elements c) f e)

address_number : (c : List ℕ) (f : Fault) → leaving 0 (told c) ≡ some f → f.number ≡ 11
address_number c f e = of_address 0 (told c) f e

-- ── texts that agree up to and including a first zero ──

front : (n : ℕ) (c : List ℕ) → NoZero c → NoZero (take n c)
unfolding NoZero
front zero c h = tt
front (suc n) [] h = tt
front (suc n) (b ∷ c) h = (h.0, front n c h.1)

no_zero : (at : ℕ) (s : List ℕ) → NoZero s → zero_from at s ≡ none
unfolding NoZero zero_from
no_zero at [] h = refl
no_zero at (b ∷ s) h = rw (ne_eqb b 0 h.0) (no_zero (at + 1) s h.1)

module _ (c : List ℕ) (h : NoZero c) where
  module _ (l : 65535 < length c) (x : List ℕ) where
    too_late : content (c ++ 0 ∷ x) ≡ none
    unfolding content end_of
    too_late = rw (take-append-le 65536 c (0 ∷ x) (omega arith), no_zero 0 (take 65536 c) (front 65536 c h))

    pub endless : ending (c ++ 0 ∷ x) ≡ refused (fault 1 65536)
    unfolding ending
    endless = rw too_late (ap (λ k. refused (fault 1 k)) (omega (arith, length-append c (0 ∷ x))))

  late : (x y : List ℕ) → 65535 < length c → described (c ++ 0 ∷ x) ≡ described (c ++ 0 ∷ y)
  unfolding described
  late x y l = rw (endless l x, endless l y)

  pub late_planned : 65535 < length c → (x : List ℕ) (t : List ℤ) → planned (c ++ 0 ∷ x) t ≡ refused (fault 1 65536)
  unfolding planned described
  late_planned l x t = rw (endless l x)

  pub described_same : (x y : List ℕ) → described (c ++ 0 ∷ x) ≡ described (c ++ 0 ∷ y)
  described_same x y = ⊎_elim (λ l. late x y l) (λ l. described_alike c x y h l) (lt_or_le 65535 (length c))

-- what two texts that describe the same get
module _ (a b : List ℕ) (e : described a ≡ described b) where
  pub planned_same : (t : List ℤ) → planned a t ≡ planned b t
  unfolding planned
  planned_same t = rw e

  pub table_same : (t : List ℤ) → table_after a t ≡ table_after b t
  unfolding table_after
  table_same t = rw (e, table_after)

  setting_same : (t : List ℤ) (n : ℕ) → setting_of a t n ≡ setting_of b t n
  unfolding setting_of
  setting_same t n = rw e

  pub written_same : (t : List ℤ) (n : ℕ) (w : Window) (v : Value) → written a t n w v ≡ written b t n w v
  unfolding written
  written_same t n w v = rw (setting_same t n)

  pub window_same : (t : List ℤ) (n : ℕ) (w : Window) (v : Value) → window_after a t n w v ≡ window_after b t n w v
  unfolding window_after
  window_same t n w v = rw (setting_same t n, window_after)

  pub read_same : (t : List ℤ) (n : ℕ) (w : Window) → read a t n w ≡ read b t n w
  unfolding read
  read_same t n w = rw (setting_same t n)

  pub start_same : (t : List ℤ) (n first : ℕ) → start_for a t n first ≡ start_for b t n first
  unfolding start_for
  start_same t n first = rw (setting_same t n, start_for)

  -- on the code's answers
  pub plans_alike : (t : List ℤ) (r q : Result Planned Refusal) (u o : List ℤ) → answer_of r ≡ planned a t → answer_of q ≡ planned b t → u ≡ table_after a t → o ≡ table_after b t → (r ≡ q) × (u ≡ o)
  plans_alike t r q u o f g i j = (plan_once b t r q (f ∙ planned_same t) g, i ∙ table_same t ∙ sym j)

  module _ (t : List ℤ) (n space first : ℕ) (bytes : List ℕ) where
    abbrev w : Window
    w = window_of space first bytes

    pub writes_alike : (v : Value) (r q : Result (Unit {0}) Refusal) (u o : List ℕ) → written_of r ≡ written a t n w v → written_of q ≡ written b t n w v → u ≡ window_after a t n w v → o ≡ window_after b t n w v → (r ≡ q) × (u ≡ o)
    writes_alike v r q u o f g i j = (write_once b t n w v r q (f ∙ written_same t n w v) g, i ∙ window_same t n w v ∙ sym j)

    pub reads_alike : (r q : Result Reading Refusal) → reading_of bytes r ≡ read a t n w → reading_of bytes q ≡ read b t n w → ReadAt (start_for a t n first) bytes r → ReadAt (start_for b t n first) bytes q → r ≡ q
    reads_alike r q f g i j = read_once b t n space first bytes r q (f ∙ read_same t n w) g (rw (start_same t n first) at i) j

-- ── the cause of a refusal ──

module _ (b : List ℕ) where
  pub counted_described : {c : List ℕ} → Counted b c → described b ≡ accepted (describe (tree (cut c)) (tree (cut c)))
  unfolding described ending characters opening markup elements addressing counting least
  counted_described k = rw (k.0.0.0.0.0, k.0.0.0.0.1, k.0.0.0.0.2, k.0.0.0.1, k.0.0.1, k.0.1, le-leb _ _ k.1)

  module _ (t : List ℤ) where
    pub cause_refused : {m p : ℕ} → Cause b t m p → planned b t ≡ refused (fault m p)
    unfolding planned described ending characters opening markup elements addressing counting room least
    cause_refused (why.endless e q s) = rw (e, q, s)
    cause_refused (why.character e f q) = rw (e, f, q)
    cause_refused (why.line e f g q s) = rw (e, f, g, q, s)
    cause_refused (why.markup o e) = rw (o.0, o.1, o.2, e)
    cause_refused (why.rule o e) = rw (o.0.0, o.0.1, o.0.2, o.1, e)
    cause_refused (why.address o e) = rw (o.0.0.0, o.0.0.1, o.0.0.2, o.0.1, o.1, e)
    cause_refused (why.count o l q s) = rw (o.0.0.0.0, o.0.0.0.1, o.0.0.0.2, o.0.0.1, o.0.1, o.1, lt-leb _ _ l, q, s)
    cause_refused (why.room k l q s) = rw (counted_described k, lt-leb _ _ l, q, s)

    -- no fault, or a cause
    abbrev pub Verdict : Type 0
    Verdict = ((c : List ℕ) × Faultless b t c) ⊎ ((f : Fault) × Cause b t f.number f.place)

    at_room : (c : List ℕ) → Counted b c → Verdict
    at_room c k = ⊎_elim (λ l. inr (fault 13 0, why.room k l refl refl)) (λ l. inl (c, whole l)) (lt_or_le (length t) (8 * records_of (told c)))
      where
        whole : 8 * records_of (told c) ≤ length t → Faultless b t c
        whole l = record {
          ends = k.0.0.0.0.0;
          allowed = k.0.0.0.0.1;
          opens = k.0.0.0.0.2;
          formed = k.0.0.0.1;
          ruled = k.0.0.1;
          inside = k.0.1;
          counted = k.1;
          roomy = l;
        }

    at_count : (c : List ℕ) → Kept b c → Verdict
    at_count c k = ⊎_elim (λ l. inr (fault 12 (root_of c), why.count k l refl refl)) (λ l. at_room c (k, l)) (lt_or_le 1000000 (total (told c)))

    at_address : (c : List ℕ) → Ruled b c → Verdict
    at_address c k = by (leaving 0 (told c)) refl
      where
        by : (o : Option Fault) → leaving 0 (told c) ≡ o → Verdict
        by none q = at_count c (k, q)
        by (some f) q = inr (f, why.address k q)

    at_rule : (c : List ℕ) → Formed b c → Verdict
    at_rule c k = by (least (of_elements c)) refl
      where
        by : (o : Option Fault) → least (of_elements c) ≡ o → Verdict
        by none q = at_address c (k, quiet _ q)
        by (some f) q = inr (f, why.rule k q)

    at_markup : (c : List ℕ) → Opened b c → Verdict
    at_markup c k = by (least (of_markup c)) refl
      where
        by : (o : Option Fault) → least (of_markup c) ≡ o → Verdict
        by none q = at_rule c (k, quiet _ q)
        by (some f) q = inr (f, why.markup k q)

    at_line : (c : List ℕ) → content b ≡ some c → bad_character c ≡ none → Verdict
    at_line c e g = by (begins first_line c) refl
      where
        by : (o : Bool) → begins first_line c ≡ o → Verdict
        by true q = at_markup c (e, g, q)
        by false q = inr (fault 3 0, why.line e g q refl refl)

    at_character : (c : List ℕ) → content b ≡ some c → Verdict
    at_character c e = by (bad_character c) refl
      where
        by : (o : Option ℕ) → bad_character c ≡ o → Verdict
        by none q = at_line c e q
        by (some p) q = inr (fault 2 p, why.character e q refl)

    pub verdict : Verdict
    verdict = by (content b) refl
      where
        by : (o : Option (List ℕ)) → content b ≡ o → Verdict
        by none q = inr (fault 1 (min (length b) 65536), why.endless q refl refl)
        by (some c) q = at_character c q

module _ {b : List ℕ} {t : List ℤ} {m p : ℕ} where
  -- each stage has its numbers
  pub cause_number : Cause b t m p → TextNumber m ⊎ (m ≡ 13)
  cause_number (why.endless e q s) = inl (inl (omega arith, omega arith))
  cause_number (why.character e f q) = inl (inl (omega arith, omega arith))
  cause_number (why.line e f g q s) = inl (inl (omega arith, omega arith))
  cause_number (why.markup {c = c} o e) = let n = markup_number c (fault m p) e in inl (inl (omega (arith, n.0), n.1))
  cause_number (why.rule {c = c} o e) = inl (inr (inl (rule_number c (fault m p) e)))
  cause_number (why.address {c = c} o e) = let n = address_number c (fault m p) e in inl (inr (inr (omega arith, omega arith)))
  cause_number (why.count o l q s) = inl (inr (inr (omega arith, omega arith)))
  cause_number (why.room k l q s) = inr q

  pub thirteen : Cause b t m p → m ≡ 13 → (c : List ℕ) × Counted b c × (length t < 8 * records_of (told c)) × (p ≡ 0)
  thirteen (why.endless e q s) h = absurd (omega arith)
  thirteen (why.character e f q) h = absurd (omega arith)
  thirteen (why.line e f g q s) h = absurd (omega arith)
  thirteen (why.markup {c = c} o e) h = let n = markup_number c (fault m p) e in absurd (omega arith)
  thirteen (why.rule {c = c} o e) h = ⊎_elim (λ (n : (81 ≤ m) × (m ≤ 88)). absurd (omega (arith, n.0))) (λ (n : (9 ≤ m) × (m ≤ 10)). absurd (omega (arith, n.1))) (rule_number c (fault m p) e)
  thirteen (why.address {c = c} o e) h = let n = address_number c (fault m p) e in absurd (omega arith)
  thirteen (why.count o l q s) h = absurd (omega arith)
  thirteen (why.room {c = c} k l q s) h = (c, k, l, s)

-- a refusal has a cause
pub cause_of : (b : List ℕ) (t : List ℤ) {m p : ℕ} → planned b t ≡ refused (fault m p) → Cause b t m p
cause_of b t {m} {p} e = by (verdict b t)
  where
    by : Verdict b t → Cause b t m p
    by (inl (c, f)) = let z = faultless_accepted b t c f in impossible (cc)
    by (inr (f, k)) =
        let z = cause_refused b t k in
        let y : f ≡ fault m p = cc in
        rw y at k

-- ── the code's answers of planning ──

pub late_answer : (c : List ℕ) → NoZero c → 65535 < length c → (x : List ℕ) (t : List ℤ) (r : Result Planned Refusal) → answer_of r ≡ planned (c ++ 0 ∷ x) t → r ≡ Err (refusal 1 65536)
unfolding answer_of
late_answer c h l x t r e = plan_once (c ++ 0 ∷ x) t r (Err (refusal 1 65536)) e (sym (late_planned c h l x t))

module _ (b : List ℕ) (t : List ℤ) {r : Result Planned Refusal} (answer : answer_of r ≡ planned b t) where
  refused_cause : {m p : ℕ} → r ≡ Err (refusal m p) → Cause b t m p
  unfolding answer_of
  refused_cause e = cause_of b t (sym answer ∙ ap answer_of e)

  cause_answer : {m p : ℕ} → Cause b t m p → r ≡ Err (refusal m p)
  unfolding answer_of
  cause_answer {m} {p} k = plan_once b t r (Err (refusal m p)) answer (sym (cause_refused b t k))

  pub refused_exactly : {m p : ℕ} → r ≡ Err (refusal m p) ↔ Cause b t m p
  refused_exactly = (refused_cause, cause_answer)

  pub refused_number : {m p : ℕ} → r ≡ Err (refusal m p) → TextNumber m ⊎ (m ≡ 13)
  refused_number e = cause_number (refused_cause e)

  pub short_exactly : {p : ℕ} → r ≡ Err (refusal 13 p) ↔ ((c : List ℕ) × Counted b c × (length t < 8 * records_of (told c)) × (p ≡ 0))
  short_exactly = ((λ e. thirteen (refused_cause e) refl), (λ x. cause_answer (why.room x.1 x.2 refl x.3)))

  faultless_answer : (c : List ℕ) → Faultless b t c → r ≡ Ok (sizes (records_of (told c)) (total (told c)))
  unfolding answer_of counts_of
  faultless_answer c f = plan_once b t r _ answer (sym (faultless_accepted b t c f))

  told_answer : {n v : ℕ} → Told b t n v → r ≡ Ok (sizes n v)
  told_answer x = faultless_answer x.text x.faultless ∙ sym (rw (x.records, x.variables))

  pub accepted_exactly : {n v : ℕ} → r ≡ Ok (sizes n v) ↔ Told b t n v
  accepted_exactly = ((λ e. accepted_faultless b t answer e), told_answer)

-- stages 1 to 12 have their numbers
pub described_number : (b : List ℕ) (f : Fault) → described b ≡ refused f → TextNumber f.number
described_number b f e = by (cause_number k)
  where
    k : Cause b [] f.number f.place
    k = cause_of b [] (refuses b [] f e)

    by : TextNumber f.number ⊎ (f.number ≡ 13) → TextNumber f.number
    by (inl n) = n
    by (inr h) = let z = thirteen k h in let y = counted_described b {c = z.0} z.1 in impossible (cc)

pub stage_numbers : (b c : List ℕ) (f : Fault)
    → (described b ≡ refused f → TextNumber f.number)
    × (least (of_markup c) ≡ some f → MarkupNumber f.number)
    × (least (of_elements c) ≡ some f → RuleNumber f.number)
    × (leaving 0 (told c) ≡ some f → f.number ≡ 11)
stage_numbers b c f = ((λ e. described_number b f e), (λ e. markup_number c f e), (λ e. rule_number c f e), (λ e. address_number c f e))
