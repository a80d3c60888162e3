-- The number that is told is that of the least fault at the tag's `<`.
use mathlib.Core.Path.{◌≡◌, refl, sym, ap, ◌∙◌}
use mathlib.Core.List.{List, [], ◌∷◌, ◌++◌, map, append_assoc, append-nil}
use mathlib.Core.Bool.{Bool, true, false, cond, not, ◌&&◌, ◌||◌}
use mathlib.Core.Option.{Option, none, some}
use mathlib.Core.Logic.{⊎_elim}
use Prim.Native.Nat.{ℕ, zero, suc, ◌-◌, ◌≤◌, ◌<◌}
use native.Mathlib.Omega.{arith}
use borrow.Author.Tests.{lt-ltb, le-ltb, le-leb, lt-leb, eq-eqb, ne_eqb, eqb-true, eqb-false, leb-true}
use Rattle.cdi.proofs.Tests.{both_left, both_right}
use lib.Dec.{eqb, ltb, leb}
use lib.IntN.{ℤ, pos}
use lib.Signed.{lt_z}
use lib.ListN.{get_or, get_or-eq_default}
use Rattle.cdi.specs.Lists.{ascii, given, among, lists_page}
use Rattle.cdi.specs.Faults.{fault, unless, rank, before, lesser, least}
use Rattle.cdi.specs.Pieces.{Attribute, pieces_page}
use Rattle.cdi.specs.Numbers.{trimmed, number, within, numbers_page}
use Rattle.cdi.specs.Rows.{Form, fixed, range, size, formatting, AttributeRule, rows_page}
use Rattle.cdi.specs.Rules.{attribute_value, range_faults, form_faults, rule_faults, rules_faults, size_text}
use Rattle.cdi.proofs.Least.{least_append}
use Rattle.scan.proofs.Tests.{lt_or_le, eq_or_ne}
use Rattle.rules_judge.specs.Judging.{row_at}
use Rattle.rules_judge.specs.Tables.{rule_numbers, rule_of, rule_at, attribute_of, is_required, attribute_name, form_of, size_in, int_size, tables_page}
use Rattle.rules_judge.proofs.Below.{all_below, below, Below, at_below, alike, alike_equal}
use Rattle.rules_judge.proofs.Sized.{int_size_law, float_size}
use Rattle.rules_judge.proofs.Tabled.{row_rules}
use Rattle.tags_values.specs.Codes.{textual, range_code, form_code, code_faults, rule_for, code_of, code_in}
use Rattle.tags_values.proofs.Formed.{form_codes, code_high}
use Rattle.tags_values.proofs.Numbered.{numbered_named}
use Rattle.tags_faults.specs.Told.{lesser_of, own_by, needed_by, there_by, int_by, float_by, rule_by, rules_by, Coded, faults_at}

-- ── the code of a form says its faults ──

-- a test that fails with that number
tested : (p n : ℕ) → 3 ≤ n → (b : Bool) → unless b (fault n p) ≡ code_faults p (cond b 1 n)
unfolding unless code_faults
tested p n h true = refl
tested p n h false = rw (le-ltb n 3 h)

-- a text that must be what the rule says
unfoldable pub text_form : Form → Bool
text_form (fixed t) = true
text_form (range lo hi) = false
text_form (size ts) = false
text_form formatting = true

form_faults_law : (p : ℕ) (f : Form) (v : List ℕ) → form_faults p f v ≡ cond (text_form f) [] (code_faults p (form_code f v))
unfolding form_faults form_code text_form
form_faults_law p (fixed t) v = refl
form_faults_law p (range lo hi) v = by (number v)
  where
    told : (b c : Bool) → unless b (fault 10 p) ≡ code_faults p (cond b (cond c 2 1) 10)
    told true true = unfold unless code_faults in refl
    told true false = unfold unless code_faults in refl
    told false c = unfold unless code_faults in refl

    by : (o : Option ℤ) → range_faults p (within lo hi) o ≡ code_faults p (range_code lo hi o)
    by none = unfold range_faults range_code code_faults in refl
    by (some z) = unfold range_faults range_code in told (within lo hi z) (lt_z z (pos 0))
form_faults_law p (size ts) v = tested p 10 (omega arith) (among (trimmed v) (map ascii ts))
form_faults_law p formatting v = refl

-- ── one rule ──

RuleIs : ℕ → Type 0
RuleIs j = rule_of (suc j) ≡ record { name = attribute_name (attribute_of (suc j)); required = is_required (suc j); form = form_of (suc j) } ∷ []

rules_are : Below RuleIs 12
unfolding Below RuleIs lists_page rows_page tables_page
rules_are = (refl, (refl, (refl, (refl, (refl, (refl, (refl, (refl, (refl, (refl, (refl, (refl, tt))))))))))))

pub rule_is : (k : ℕ) → (k ≡ 0 → ⊥) → k ≤ 12 → rule_of k ≡ record { name = attribute_name (attribute_of k); required = is_required k; form = form_of k } ∷ []
unfolding RuleIs
rule_is zero z h = absurd (z refl)
rule_is (suc j) z h = at_below RuleIs 12 rules_are j (omega arith)

rule_faults_law : (p k : ℕ) (s : List Attribute) → (k ≡ 0 → ⊥) → k ≤ 12 → rules_faults p (rule_of k) s ≡ given (attribute_value (attribute_name (attribute_of k)) s) (unless (not (is_required k)) (fault 86 p)) (form_faults p (form_of k))
unfolding rules_faults rule_faults
rule_faults_law p k s z h = rw (rule_is k z h) (append-nil (given (attribute_value (attribute_name (attribute_of k)) s) (unless (not (is_required k)) (fault 86 p)) (form_faults p (form_of k))))

-- the attributes of rules: from 1 to 10; and a rule but for those of sizes is the one that a value is held against
for_rules : all_below 12 (λ j. (leb 1 (attribute_of (suc j)) && leb (attribute_of (suc j)) 10) && (eqb (suc j) 10 || (eqb (suc j) 11 || eqb (rule_for (attribute_of (suc j))) (suc j)))) ≡ true
unfolding all_below tables_page rule_for
for_rules = refl

-- a rule for a text is one of an attribute whose value is a text
for_texts : all_below 12 (λ j. alike (textual (attribute_of (suc j))) (text_form (form_of (suc j)))) ≡ true
unfolding all_below alike textual text_form lists_page rows_page tables_page
for_texts = refl

module _ (k : ℕ) (z : k ≡ 0 → ⊥) (h : k ≤ 12) where
  pub text_rule : textual (attribute_of k) ≡ text_form (form_of k)
  text_rule = let back : suc (k - 1) ≡ k = omega arith in rw back at (alike_equal _ _ (below 12 (λ j. alike (textual (attribute_of (suc j))) (text_form (form_of (suc j)))) for_texts (k - 1) (omega arith)))

  row : ((leb 1 (attribute_of k) && leb (attribute_of k) 10) && (eqb k 10 || (eqb k 11 || eqb (rule_for (attribute_of k)) k))) ≡ true
  row = let back : suc (k - 1) ≡ k = omega arith in rw back at (below 12 (λ j. (leb 1 (attribute_of (suc j)) && leb (attribute_of (suc j)) 10) && (eqb (suc j) 10 || (eqb (suc j) 11 || eqb (rule_for (attribute_of (suc j))) (suc j)))) for_rules (k - 1) (omega arith))

  pub attribute_low : 1 ≤ attribute_of k
  attribute_low = leb-true 1 _ (both_left _ (leb (attribute_of k) 10) (both_left _ _ row))

  pub attribute_high : attribute_of k ≤ 10
  attribute_high = leb-true _ 10 (both_right (leb 1 (attribute_of k)) _ (both_left _ _ row))

  pub its_rule : (k ≡ 10 → ⊥) → (k ≡ 11 → ⊥) → rule_for (attribute_of k) ≡ k
  its_rule a b = eqb-true _ _ (rw (ne_eqb k 10 a, ne_eqb k 11 b) at (both_right (leb 1 (attribute_of k) && leb (attribute_of k) 10) _ row))

-- a fault of that number, or none
own_faults : (p c : ℕ) → faults_at p (own_by c) ≡ code_faults p c
unfolding faults_at own_by code_faults
own_faults p c = ⊎_elim (λ (h : c < 3). rw (lt-ltb c 3 h)) (λ (h : 3 ≤ c). rw (le-ltb c 3 h, ne_eqb c 0 (λ z. omega arith))) (lt_or_le c 3)

module _ (c : ℕ) (h : 1 ≤ c) where
  needed_own : needed_by c ≡ own_by c
  unfolding needed_by
  needed_own = rw (ne_eqb c 0 (λ z. omega arith))

  is_there : there_by c ≡ 0
  unfolding there_by
  is_there = rw (ne_eqb c 0 (λ z. omega arith))

module _ (p : ℕ) {codes : List ℕ} {exact : ℕ} (s : List Attribute) (w : Coded codes s) (x : exact ≡ int_size s) where
  -- the number of a rule by the code of its attribute, which is a text or not, and must be there or not
  by_code : Bool → Bool → ℕ → ℕ
  by_code text t c = cond text (cond t (there_by c) 0) (cond t (needed_by c) (own_by c))

  -- a rule that asks for no exact size
  plain_rule : (k : ℕ) → (k ≡ 0 → ⊥) → k ≤ 12 → (k ≡ 10 → ⊥) → (k ≡ 11 → ⊥) → rules_faults p (rule_of k) s ≡ faults_at p (by_code (textual (attribute_of k)) (is_required k) (get_or codes (attribute_of k) 0))
  unfolding by_code
  plain_rule k z h a b = rule_faults_law p k s z h ∙ rw (text_rule k z h) (by (attribute_value (attribute_name (attribute_of k)) s) refl (is_required k) (text_form (form_of k)) refl)
    where
      c : ℕ
      c = get_or codes (attribute_of k) 0

      code : c ≡ given (attribute_value (attribute_name (attribute_of k)) s) 0 (code_of (attribute_of k))
      code = w.each (attribute_of k) (attribute_low k z h) (attribute_high k z h) ∙ (unfold code_in in rw (numbered_named (attribute_of k) s (attribute_low k z h) (attribute_high k z h)))

      form : (v : List ℕ) → code_of (attribute_of k) v ≡ form_code (form_of k) v
      form v = unfold code_of in rw (its_rule k z h a b)

      missing : (t u : Bool) → unless (not t) (fault 86 p) ≡ faults_at p (cond u (cond t (there_by 0) 0) (cond t (needed_by 0) (own_by 0)))
      missing true true = unfold unless faults_at there_by in refl
      missing true false = unfold unless faults_at needed_by in refl
      missing false true = unfold unless faults_at in refl
      missing false false = unfold unless faults_at own_by in refl

      here : (d : ℕ) → 1 ≤ d → (t u : Bool) → cond u [] (code_faults p d) ≡ faults_at p (cond u (cond t (there_by d) 0) (cond t (needed_by d) (own_by d)))
      here d l true true = rw (is_there d l) (unfold faults_at in refl)
      here d l false true = unfold faults_at in refl
      here d l true false = rw (needed_own d l) (sym (own_faults p d))
      here d l false false = sym (own_faults p d)

      by : (o : Option (List ℕ)) → attribute_value (attribute_name (attribute_of k)) s ≡ o → (t u : Bool) → text_form (form_of k) ≡ u
          → given o (unless (not t) (fault 86 p)) (form_faults p (form_of k)) ≡ faults_at p (cond u (cond t (there_by c) 0) (cond t (needed_by c) (own_by c)))
      by none e t u f = let q : c ≡ 0 = code ∙ rw e in rw q (missing t u)
      by (some v) e t u f =
          let q : c ≡ form_code (form_of k) v = code ∙ rw e (form v) in
          form_faults_law p (form_of k) v ∙ rw (f, q) (here (form_code (form_of k) v) (form_codes (form_of k) v).0 t u)

  -- the sizes of an int and of a float
  sized : (k : ℕ) → (k ≡ 0 → ⊥) → k ≤ 12 → attribute_name (attribute_of k) ≡ ascii "size" → rules_faults p (rule_of k) s ≡ given (attribute_value (ascii "size") s) (unless (not (is_required k)) (fault 86 p)) (form_faults p (form_of k))
  sized k z h e = rule_faults_law p k s z h ∙ rw e

  int_rule : rules_faults p (rule_of 10) s ≡ faults_at p (int_by exact)
  unfolding unless faults_at int_by int_size size_text
  int_rule = sized 10 (λ z. omega arith) (omega arith) (unfold lists_page tables_page in refl) ∙ by (attribute_value (ascii "size") s) refl
    where
      told : (n : ℕ) → unless (leb 1 n) (fault 10 p) ≡ faults_at p (cond (ltb n 1) 10 0)
      told n = ⊎_elim (λ (h : n < 1). rw (lt-ltb n 1 h, lt-leb 1 n h)) (λ (h : 1 ≤ n). rw (le-ltb n 1 h, le-leb 1 n h)) (lt_or_le n 1)

      by : (o : Option (List ℕ)) → attribute_value (ascii "size") s ≡ o → given o (unless (not (is_required 10)) (fault 86 p)) (form_faults p (form_of 10)) ≡ faults_at p (cond (ltb exact 1) 10 0)
      by none e = let q : exact ≡ 1 = x ∙ (unfold tables_page lists_page pieces_page numbers_page in rw e) in rw q (unfold tables_page in refl)
      by (some v) e =
          let q : exact ≡ size_in v = x ∙ rw e in
          let f : form_faults p (form_of 10) v ≡ unless (leb 1 (size_in v)) (fault 10 p) = unfold form_faults rows_page tables_page in rw (int_size_law v) in
          f ∙ told (size_in v) ∙ rw q

  size_code : get_or codes 9 0 ≡ given (attribute_value (ascii "size") s) 0 (code_of 9)
  size_code = w.each 9 (omega arith) (omega arith) ∙ (unfold code_in lists_page tables_page in rw (numbered_named 9 s (omega arith) (omega arith)))

  float_rule : rules_faults p (rule_of 11) s ≡ faults_at p (float_by (get_or codes 9 0) exact)
  unfolding unless faults_at float_by int_size size_text
  float_rule = sized 11 (λ z. omega arith) (omega arith) (unfold lists_page tables_page in refl) ∙ by (attribute_value (ascii "size") s) refl
    where
      there : (v : List ℕ) → 1 ≤ code_of 9 v
      there v = unfold code_of in (form_codes (form_of (rule_for 9)) v).0

      told : (n : ℕ) → unless (leb 2 n) (fault 10 p) ≡ faults_at p (cond (ltb n 2) 10 0)
      told n = ⊎_elim (λ (h : n < 2). rw (lt-ltb n 2 h, lt-leb 2 n h)) (λ (h : 2 ≤ n). rw (le-ltb n 2 h, le-leb 2 n h)) (lt_or_le n 2)

      by : (o : Option (List ℕ)) → attribute_value (ascii "size") s ≡ o → given o (unless (not (is_required 11)) (fault 86 p)) (form_faults p (form_of 11)) ≡ faults_at p (cond (eqb (get_or codes 9 0) 0) 86 (cond (ltb exact 2) 10 0))
      by none e = let c : get_or codes 9 0 ≡ 0 = size_code ∙ rw e in rw c (unfold tables_page in refl)
      by (some v) e =
          let q : exact ≡ size_in v = x ∙ rw e in
          let c : get_or codes 9 0 ≡ code_of 9 v = size_code ∙ rw e in
          let n : get_or codes 9 0 ≡ 0 → ⊥ = λ y. omega (arith, there v, c, y) in
          let f : form_faults p (form_of 11) v ≡ unless (leb 2 (size_in v)) (fault 10 p) = unfold form_faults rows_page tables_page in rw (float_size v) in
          f ∙ told (size_in v) ∙ rw (q, ne_eqb (get_or codes 9 0) 0 n)

  rule_told : (k : ℕ) → k ≤ 12 → rules_faults p (rule_of k) s ≡ faults_at p (rule_by k codes exact)
  unfolding rule_by
  rule_told k h = ⊎_elim
      (λ (z : k ≡ 0). rw z (unfold rules_faults faults_at tables_page in refl))
      (λ (z : k ≡ 0 → ⊥). ⊎_elim
      (λ (a : k ≡ 10). rw a int_rule)
      (λ (a : k ≡ 10 → ⊥). ⊎_elim
      (λ (b : k ≡ 11). rw b float_rule)
      (λ (b : k ≡ 11 → ⊥). plain_rule k z h a b ∙ (unfold by_code in rw (ne_eqb k 0 z, ne_eqb k 10 a, ne_eqb k 11 b)))
      (eq_or_ne k 11))
      (eq_or_ne k 10))
      (eq_or_ne k 0)

-- ── numbers of faults at one place ──

lesser_at : (p m n : ℕ) → lesser (least (faults_at p m)) (least (faults_at p n)) ≡ least (faults_at p (lesser_of m n))
unfolding faults_at lesser_of
lesser_at p m n = ⊎_elim
    (λ (e : m ≡ 0). unfold least lesser in rw e)
    (λ (e : m ≡ 0 → ⊥). ⊎_elim
    (λ (f : n ≡ 0). unfold least lesser in rw f (rw (ne_eqb m 0 e) (rw (ne_eqb m 0 e))))
    (λ (f : n ≡ 0 → ⊥). two e f)
    (eq_or_ne n 0))
    (eq_or_ne m 0)
  where
    both : lesser (some (fault m p)) (some (fault n p)) ≡ some (fault (cond (ltb (rank n) (rank m)) n m) p)
    both = unfold lesser before in ⊎_elim
        (λ (h : rank n < rank m). rw (lt-ltb (rank n) (rank m) h, le-ltb p p (omega arith), eq-eqb p p refl, lt-leb (rank m) (rank n) h))
        (λ (h : rank m ≤ rank n). rw (le-ltb (rank n) (rank m) h, le-ltb p p (omega arith), eq-eqb p p refl, le-leb (rank m) (rank n) h))
        (lt_or_le (rank n) (rank m))

    first : ℕ
    first = cond (ltb (rank n) (rank m)) n m

    smaller : (m ≡ 0 → ⊥) → (n ≡ 0 → ⊥) → first ≡ 0 → ⊥
    smaller e f = by (ltb (rank n) (rank m))
      where
        by : (t : Bool) → cond t n m ≡ 0 → ⊥
        by true = f
        by false = e

    two : (m ≡ 0 → ⊥) → (n ≡ 0 → ⊥) → lesser (least (cond (eqb m 0) [] (fault m p ∷ []))) (least (cond (eqb n 0) [] (fault n p ∷ []))) ≡ least (cond (eqb (cond (eqb m 0) n (cond (eqb n 0) m first)) 0) [] (fault (cond (eqb m 0) n (cond (eqb n 0) m first)) p ∷ []))
    two e f = unfold least in rw (ne_eqb m 0 e, ne_eqb n 0 f, ne_eqb first 0 (smaller e f)) (unfold lesser in both)

-- ── three rules ──

rules_append : (p : ℕ) (xs ys : List AttributeRule) (s : List Attribute) → rules_faults p (xs ++ ys) s ≡ rules_faults p xs s ++ rules_faults p ys s
unfolding rules_faults
rules_append p [] ys s = refl
rules_append p (x ∷ xs) ys s = ap (λ fs. rule_faults p x s ++ fs) (rules_append p xs ys s) ∙ sym (append_assoc (rule_faults p x s) (rules_faults p xs s) (rules_faults p ys s))

small_rules : all_below 12 (λ e. all_below 3 (λ i. leb (rule_at e i) 12)) ≡ true
unfolding all_below tables_page
small_rules = refl

-- rules have numbers up to 12
pub rule_small : (e i : ℕ) → i < 3 → rule_at e i ≤ 12
rule_small e i h = ⊎_elim
    (λ (l : e < 12). leb-true _ 12 (below 3 (λ i. leb (rule_at e i) 12) (below 12 (λ e. all_below 3 (λ i. leb (rule_at e i) 12)) small_rules e l) i h))
    (λ (l : 12 ≤ e). omega (arith, far l))
    (lt_or_le e 12)
  where
    far : 12 ≤ e → rule_at e i ≡ 0
    far l = unfold rule_at in ap (λ (x : List ℕ). get_or x i 0) (get_or-eq_default rule_numbers [] (unfold rule_numbers in omega arith))

-- the least fault of the rules has that number and stands at the tag's place
pub told : (e p : ℕ) {codes : List ℕ} {exact : ℕ} (s : List Attribute) → Coded codes s → exact ≡ int_size s
    → least (rules_faults p (row_at e).attributes s) ≡ least (faults_at p (rules_by e codes exact))
told e p {codes} {exact} s w x = rw rules_are_three rules_least
  where
    n : ℕ → ℕ
    n i = rule_by (rule_at e i) codes exact

    rules_are_three : rules_faults p (row_at e).attributes s ≡ faults_at p (n 0) ++ (faults_at p (n 1) ++ faults_at p (n 2))
    rules_are_three = rw (row_rules e, rules_append p (rule_of (rule_at e 0)), rules_append p (rule_of (rule_at e 1)), rule_told p s w x (rule_at e 0) (rule_small e 0 (omega arith)), rule_told p s w x (rule_at e 1) (rule_small e 1 (omega arith)), rule_told p s w x (rule_at e 2) (rule_small e 2 (omega arith)))

    rules_least : least (faults_at p (n 0) ++ (faults_at p (n 1) ++ faults_at p (n 2))) ≡ least (faults_at p (rules_by e codes exact))
    rules_least = unfold rules_by in least_append (faults_at p (n 0)) _ ∙ ap (lesser (least (faults_at p (n 0)))) (least_append (faults_at p (n 1)) _ ∙ lesser_at p (n 1) (n 2)) ∙ lesser_at p (n 0) (lesser_of (n 1) (n 2))

-- ── numbers of faults are small ──

small_lesser : (m n : ℕ) → m ≤ 87 → n ≤ 87 → lesser_of m n ≤ 87
unfolding lesser_of
small_lesser m n a b = by (eqb m 0) (eqb n 0) (ltb (rank n) (rank m))
  where
    by : (x y z : Bool) → cond x n (cond y m (cond z n m)) ≤ 87
    by true y z = b
    by false true z = a
    by false false true = b
    by false false false = a

small_own : (c : ℕ) → c ≤ 87 → own_by c ≤ 87
unfolding own_by
small_own c h = by (ltb c 3)
  where
    by : (t : Bool) → cond t 0 c ≤ 87
    by true = omega arith
    by false = h

small_needed : (c : ℕ) → c ≤ 87 → needed_by c ≤ 87
unfolding needed_by
small_needed c h = by (eqb c 0)
  where
    by : (t : Bool) → cond t 86 (own_by c) ≤ 87
    by true = omega arith
    by false = small_own c h

small_rule : {codes : List ℕ} (s : List Attribute) → Coded codes s → (k exact : ℕ) → k ≤ 12 → rule_by k codes exact ≤ 87
unfolding rule_by there_by
small_rule {codes} s w k exact h = by (eqb k 0) refl (eqb k 10) (eqb k 11) (textual (attribute_of k)) (is_required k)
  where
    there : (t : Bool) → cond t 86 0 ≤ 87
    there true = omega arith
    there false = omega arith

    ten : (t : Bool) → cond t 10 0 ≤ 87
    ten true = omega arith
    ten false = omega arith

    float : (t u : Bool) → cond t 86 (cond u 10 0) ≤ 87
    float true u = omega arith
    float false u = ten u

    code : (k ≡ 0 → ⊥) → get_or codes (attribute_of k) 0 ≤ 87
    code z = omega (arith, w.each (attribute_of k) (attribute_low k z h) (attribute_high k z h), code_high (attribute_of k) s)

    by : (z : Bool) → eqb k 0 ≡ z → (a b u r : Bool) → cond z 0 (cond a (int_by exact) (cond b (float_by (get_or codes 9 0) exact) (cond u (cond r (there_by (get_or codes (attribute_of k) 0)) 0) (cond r (needed_by (get_or codes (attribute_of k) 0)) (own_by (get_or codes (attribute_of k) 0)))))) ≤ 87
    by true e a b u r = omega arith
    by false e true b u r = unfold int_by in ten (ltb exact 1)
    by false e false true u r = unfold float_by in float (eqb (get_or codes 9 0) 0) (ltb exact 2)
    by false e false false true true = there (eqb (get_or codes (attribute_of k) 0) 0)
    by false e false false true false = omega arith
    by false e false false false true = small_needed _ (code (eqb-false k 0 e))
    by false e false false false false = small_own _ (code (eqb-false k 0 e))

pub fault_small : (e : ℕ) {codes : List ℕ} (exact : ℕ) (s : List Attribute) → Coded codes s → rules_by e codes exact ≤ 87
unfolding rules_by
fault_small e {codes} exact s w = small_lesser _ _ (small_rule s w (rule_at e 0) exact (rule_small e 0 (omega arith))) (small_lesser _ _ (small_rule s w (rule_at e 1) exact (rule_small e 1 (omega arith))) (small_rule s w (rule_at e 2) exact (rule_small e 2 (omega arith))))
