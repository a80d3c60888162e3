-- A start tag, by each way through the code.
use mathlib.Core.Path.{◌≡◌, refl, sym, ap, ◌∙◌}
use mathlib.Core.List.{List, [], ◌∷◌, append-nil}
use mathlib.Core.Bool.{Bool, true, false, cond, not, ◌&&◌, ◌||◌}
use mathlib.Core.Option.{Option, none, some}
use mathlib.Core.Logic.{⊎_elim}
use Prim.Native.Nat.{ℕ, ◌+◌, ◌-◌, ◌≤◌, ◌<◌}
use native.Mathlib.Omega.{arith}
use borrow.Author.Rules.{rules}
use borrow.Author.Tests.{eq-eqb, ne_eqb, eqb-true}
use lib.Dec.{eqb}
use lib.ListN.{length, drop, get_or, drop_of_length-le, get_or-eq_default}
use lib.Seq.{drop-drop}
use Rattle.cdi.specs.Lists.{any, same, begins, is_empty, after}
use Rattle.cdi.specs.Faults.{Fault, fault, lesser, least}
use Rattle.cdi.specs.Pieces.{Attribute, blank, attributes, tag_end, bears, twice}
use Rattle.cdi.specs.Markup.{refers}
use Rattle.cdi.specs.Rules.{rules_faults, names_faults, attribute_faults}
use Rattle.cdi.proofs.Least.{least_append}
use Rattle.cdi.proofs.Named.{attributes_behind, names_silent}
use Rattle.cdi.proofs.Quiet.{impossible, same_equal}
use Rattle.scan.specs.Spans.{Span}
use Rattle.scan.proofs.Along.{drop_next}
use Rattle.scan.proofs.Spans.{span_rest}
use Rattle.scan.proofs.Tests.{lt_or_le}
use Rattle.keys.specs.Keys.{fault_in}
use Rattle.keys.proofs.Keying.{no_fault}
use Rattle.names.specs.Names.{attribute_number}
use Rattle.pieces_cuts.specs.Places.{closing, Closes}
use Rattle.rules_judge.specs.Tables as T
use Rattle.rules_judge.specs.Judging.{row_at}
use Rattle.rules_judge.specs.Tables.{int_size, tables_page}
use Rattle.rules_judge.proofs.Below.{all_below, below}
use Rattle.rules_judge.proofs.Sized.{default_size}
use Rattle.tally_tag.specs.Numbered.{numbers_by}
use Rattle.tags_values.specs.Codes.{amount_for, numbered, code_in}
use Rattle.tags_cells.specs.Cells.{has_one, known_twice, Fresh}
use Rattle.tags_faults.specs.Told.{rules_by, Coded, faults_at, told_page}
use Rattle.tags_faults.proofs.Ruled.{none_told}
use Rattle.tags_faults.proofs.Faulted.{told, fault_small}
use Rattle.tags_numbers.specs.Given.{given_in, given_by, Cells, Bounded}
use Rattle.tags_numbers.specs.declared.Given.{Given}
use Rattle.tags_numbers.proofs.Numbered.{cells_held, given_held}
use Rattle.tags_gather.specs.Gathers.{Gathers}
use Rattle.tags_gather.specs.declared.Gathered.{Gathered}
use Rattle.tags_wrong.specs.Named.{texts_by}
use Rattle.tags_wrong.proofs.Naming.{none_wrong}
use Rattle.tags.specs.Reads.{Ends, no_tag, close_of, Says, Reads}
use Rattle.tags.specs.declared.Tag.{Tag}

-- ── the end ──

-- two bytes, one after another
both_bytes : (s : List ℕ) (t x y : ℕ) → begins (x ∷ y ∷ []) (drop t s) ≡ (begins (x ∷ []) (drop t s) && begins (y ∷ []) (drop (t + 1) s))
unfolding begins
both_bytes s t x y = ⊎_elim
    (λ (h : t < length s). rw (drop_next s t h) (by (eqb x (get_or s t 0)) (begins (y ∷ []) (drop (t + 1) s))))
    (λ (h : length s ≤ t). rw (drop_of_length-le s h))
    (lt_or_le t (length s))
  where
    by : (p q : Bool) → (p && q) ≡ ((p && true) && q)
    by true q = refl
    by false q = refl

room : (s : List ℕ) (t x : ℕ) → begins (x ∷ []) (drop t s) ≡ true → t < length s
unfolding begins
room s t x e = ⊎_elim (λ (h : t < length s). h) (λ (h : length s ≤ t). let z : false ≡ true = rw (drop_of_length-le s h) at e in impossible (cc)) (lt_or_le t (length s))

module _ (s : List ℕ) (at : ℕ) {t : ℕ} {a : Bool} (v : Span blank s at t) (e : a ≡ begins (62 ∷ []) (drop t s)) where
  closed : closing (after blank (drop at s)) ≡ closing (drop t s)
  closed = ap closing (span_rest v)

  pub long_end : a ≡ true → Ends s at (t + 1) false
  unfolding closing
  long_end f = let h : t < length s = room s t 62 (sym e ∙ f) in record {
    is = closed ∙ rw (← e, f, ne_eqb (t + 1) 0 (λ z. omega arith), drop-drop);
    low = λ z. omega (arith, v.low);
    high = omega arith;
    none' = λ z. refl;
  }

  module _ {b : Bool} (f : a ≡ false) (g : b ≡ begins (47 ∷ []) (drop t s)) where
    pub open_end : b ≡ false → Ends s at 0 false
    unfolding closing
    open_end k = record { is = closed ∙ rw (← e, f, both_bytes s t 47 62, ← g, k); low = λ z. absurd (z refl); high = omega arith; none' = λ z. refl }

    module _ {c : Bool} (k : b ≡ true) (h : c ≡ begins (62 ∷ []) (drop (t + 1) s)) where
      pub short_end : c ≡ true → Ends s at (t + 2) true
      unfolding closing
      short_end l = let m : t + 1 < length s = room s (t + 1) 62 (sym h ∙ l) in record {
        is = closed ∙ rw (← e, f, both_bytes s t 47 62, ← g, k, ← h, l, ne_eqb (t + 2) 0 (λ z. omega arith), drop-drop);
        low = λ z. omega (arith, v.low);
        high = omega arith;
        none' = λ z. absurd (omega arith);
      }

      pub slash_end : c ≡ false → Ends s at 0 false
      unfolding closing
      slash_end l = record { is = closed ∙ rw (← e, f, both_bytes s t 47 62, ← g, k, ← h, l); low = λ z. absurd (z refl); high = omega arith; none' = λ z. refl }

pub beyond_slash : (s : List ℕ) (t : ℕ) {b : Bool} → b ≡ begins (47 ∷ []) (drop t s) → b ≡ true → t + 1 ≤ length s
beyond_slash s t g k = let h : t < length s = room s t 47 (sym g ∙ k) in omega arith

pub ruleset ends = (long_end, open_end, short_end, slash_end, beyond_slash, rules)

-- ── a name twice ──

-- equal names have equal numbers
any_bears : (n : List ℕ) (s : List Attribute) → any (bears n) s ≡ true → any (has_one (attribute_number n)) s ≡ true
unfolding any bears has_one
any_bears n [] e = e
any_bears n (x ∷ s) e = by (same n x.name) refl (any_bears n s)
  where
    or-true : (t : Bool) → (t || true) ≡ true
    or-true true = refl
    or-true false = refl

    by : (t : Bool) → same n x.name ≡ t → (any (bears n) s ≡ true → any (has_one (attribute_number n)) s ≡ true) → (eqb (attribute_number x.name) (attribute_number n) || any (has_one (attribute_number n)) s) ≡ true
    by true q ih = rw (eq-eqb (attribute_number x.name) (attribute_number n) (ap attribute_number (sym (same_equal n x.name q))))
    by false q ih = rw (ih (rw q at e)) (or-true (eqb (attribute_number x.name) (attribute_number n)))

left : (p q : Bool) → (p || q) ≡ false → p ≡ false
left true q e = e
left false q e = refl

right : (p q : Bool) → (p || q) ≡ false → q ≡ false
right true q e = impossible (cc)
right false q e = e

-- where no name is unknown and none of the ten stands twice, no name does
not_double : (s : List Attribute) → any (has_one 0) s ≡ false → known_twice s ≡ false → twice s ≡ false
unfolding any has_one known_twice twice
not_double [] a b = refl
not_double (x ∷ s) a b = rw (alone known none, not_double s (right (eqb (attribute_number x.name) 0) (any (has_one 0) s) a) (right (not (eqb (attribute_number x.name) 0) && any (has_one (attribute_number x.name)) s) (known_twice s) b))
  where
    known : eqb (attribute_number x.name) 0 ≡ false
    known = left (eqb (attribute_number x.name) 0) (any (has_one 0) s) a

    none : any (has_one (attribute_number x.name)) s ≡ false
    none = rw known at (left (not (eqb (attribute_number x.name) 0) && any (has_one (attribute_number x.name)) s) (known_twice s) b)

    alone : eqb (attribute_number x.name) 0 ≡ false → any (has_one (attribute_number x.name)) s ≡ false → any (bears x.name) s ≡ false
    alone k m = by (any (bears x.name) s) refl
      where
        by : (t : Bool) → any (bears x.name) s ≡ t → t ≡ false
        by true e = sym (any_bears x.name s e) ∙ m
        by false e = refl

module _ (s : List Attribute) {again strange : Bool} (a : again ≡ known_twice s) (b : strange ≡ any (has_one 0) s) where
  pub single : (again || strange) ≡ false → false ≡ twice s
  single e = sym (not_double s (sym b ∙ right again strange e) (sym a ∙ left again strange e))

-- ── a tag ──

no_tag_reads : (s : List ℕ) (at n e : ℕ) → close_of s n ≡ none → Reads s at n e no_tag
no_tag_reads s at n e q = record {
  closes = q;
  low = λ z. absurd (z refl);
  high = omega arith;
  none' = λ z. refl;
  refer = λ z. absurd (z refl);
  alone = λ z. absurd (z refl);
  told' = λ z. absurd (z refl);
  size = λ z. absurd (z refl);
  numbers = λ z. absurd (z refl);
  bounded = λ z. absurd (z refl);
}

-- ── the faults ──

module _ (n p : ℕ) where
  pub no_number : n ≡ 0 → fault_in 0xFFFF_FFFF_FFFF_FFFF ≡ least (faults_at p n)
  unfolding faults_at least
  no_number z = no_fault 0xFFFF_FFFF_FFFF_FFFF refl ∙ rw z

  pub one_number : {m : ℕ} (r : ℕ) → (n ≡ 0 → ⊥) → m ≡ n → fault_in r ≡ some (fault m p) → fault_in r ≡ least (faults_at p n)
  unfolding faults_at least lesser
  one_number r z q f = f ∙ rw (q, ne_eqb n 0 z)

pub ruleset number_keys = (no_number, one_number, rules)

module _ (s : List ℕ) (p n e : ℕ) {codes : List ℕ} {exact : ℕ} {known : Bool} (u : Says s n e codes exact known) {m : ℕ} (x : m ≡ rules_by e codes exact) where
  abbrev given_here : List Attribute
  given_here = attributes n 0 (drop n s)

  -- the least of those at the tag and of those at names
  parts : least (attribute_faults p (row_at e) given_here) ≡ lesser (least (faults_at p m)) (least (names_faults (row_at e).attributes given_here))
  unfolding attribute_faults
  parts = least_append (rules_faults p (row_at e).attributes given_here) (names_faults (row_at e).attributes given_here)
      ∙ ap (λ (o : Option Fault). lesser o (least (names_faults (row_at e).attributes given_here))) (told e p given_here u.coded u.size ∙ ap (λ (k : ℕ). least (faults_at p k)) (sym x))

  pub number_small : {k : ℕ} → k ≡ m → k < 128
  number_small q = omega (arith, q, x, fault_small e {codes = codes} exact given_here u.coded)

  pub at_tag : {k : ℕ} (r : ℕ) → p < n → (m ≡ 0 → ⊥) → k ≡ m → fault_in r ≡ some (fault k p) → fault_in r ≡ least (attribute_faults p (row_at e) given_here)
  at_tag r l z q f = f ∙ rw q (sym (parts ∙ (unfold faults_at least lesser in rw (ne_eqb m 0 z) (names_silent m p (row_at e).attributes given_here (attributes_behind (p + 1) n 0 (drop n s) (omega arith))))))

  module _ (z : m ≡ 0) where
    at_names : least (attribute_faults p (row_at e) given_here) ≡ least (names_faults (row_at e).attributes given_here)
    at_names = parts ∙ (unfold faults_at least lesser in rw z)

    pub at_name : (r : ℕ) → fault_in r ≡ least (names_faults (row_at e).attributes given_here) → fault_in r ≡ least (attribute_faults p (row_at e) given_here)
    at_name r f = f ∙ sym at_names

    pub nowhere : {t : Bool} → known ≡ true → t ≡ texts_by e codes → t ≡ false → fault_in 0xFFFF_FFFF_FFFF_FFFF ≡ least (attribute_faults p (row_at e) given_here)
    unfolding least
    nowhere k q f = no_fault 0xFFFF_FFFF_FFFF_FFFF refl ∙ sym (at_names ∙ rw (none_wrong e given_here u.coded (sym u.know ∙ k) u.once (sym q ∙ f)))

pub said_codes : {s : List ℕ} {n e : ℕ} {codes : List ℕ} {exact : ℕ} {known : Bool} → Says s n e codes exact known → Coded codes (attributes n 0 (drop n s))
said_codes u = u.coded

pub said_once : {s : List ℕ} {n e : ℕ} {codes : List ℕ} {exact : ℕ} {known : Bool} → Says s n e codes exact known → twice (attributes n 0 (drop n s)) ≡ false
said_once u = u.once

pub ruleset tellings = (number_small, at_tag, at_name, nowhere, said_codes, said_once, rules)

is_none : (n : ℕ) (s : List Attribute) → n ≡ length s → eqb n 0 ≡ is_empty s
unfolding is_empty
is_none n [] e = rw e
is_none n (x ∷ s) e = ne_eqb n 0 (λ z. omega arith)

module _ (s : List ℕ) (at n e : ℕ) {l end : ℕ} {short : Bool} (c : Closes s n l) (d : Ends s l end short) where
  closes_as : close_of s n ≡ cond (twice (attributes n 0 (drop n s))) none (cond (eqb end 0) none (some (short, drop end s)))
  unfolding close_of
  closes_as = ap (cond (twice (attributes n 0 (drop n s))) none) (c.is ∙ d.is)

  either_none : (t : Bool) → cond {A = Option (Bool × List ℕ)} t none none ≡ none
  either_none true = refl
  either_none false = refl

  pub not_closed : {r : Tag} → end ≡ 0 → r ≡ no_tag → Reads s at n e r
  not_closed z q = rw q (no_tag_reads s at n e (closes_as ∙ rw z (either_none (twice (attributes n 0 (drop n s))))))

  module _ (z : end ≡ 0 → ⊥) {t : Bool} (w : t ≡ twice (attributes n 0 (drop n s))) where
    pub doubled : {r : Tag} → t ≡ true → r ≡ no_tag → Reads s at n e r
    doubled f q = rw q (no_tag_reads s at n e (closes_as ∙ rw (← w, f)))

    pub tag_read : {g : Gathered} {codes amounts : List ℕ} {k : ℕ} {given : Given} → t ≡ false → Gathers e (attributes n 0 (drop n s)) g codes amounts → fault_in k ≡ least (attribute_faults at (row_at e) (attributes n 0 (drop n s))) → given ≡ given_in e codes amounts → Bounded e given
        → Reads s at n e (record { end = end; short = short; refers = g.refers; bare = eqb g.count 0; exact = g.exact; told = k; given = given })
    tag_read {g} {codes} {amounts} {k} f v u y b = record {
      closes = closes_as ∙ rw (← w, f);
      low = λ q. omega (arith, c.low, d.low z);
      high = d.high;
      none' = λ q. absurd (z q);
      refer = λ q. v.refer;
      alone = λ q. is_none g.count (attributes n 0 (drop n s)) v.count;
      told' = λ q. u;
      size = λ q. v.exact;
      numbers = λ q. y ∙ given_held (attributes n 0 (drop n s)) v.cells e;
      bounded = λ q. b;
    }

  pub cells_right : {g : Gathered} {codes amounts : List ℕ} → Gathers e (attributes n 0 (drop n s)) g codes amounts → Cells codes amounts
  cells_right v = cells_held (attributes n 0 (drop n s)) v.cells

pub says : (s : List ℕ) (n e : ℕ) {t : Bool} {g : Gathered} {codes amounts : List ℕ} → Gathers e (attributes n 0 (drop n s)) g codes amounts → t ≡ twice (attributes n 0 (drop n s)) → t ≡ false
    → Says s n e codes g.exact g.known
says s n e v w f = record { coded = record { each = v.cells.code }; size = v.exact; know = v.know; once = sym w ∙ f }

-- ── a tag without attributes ──

module _ (s : List ℕ) (at n e : ℕ) {a : Bool} (w : a ≡ begins (62 ∷ []) (drop n s)) (f : a ≡ true) where
  here : n < length s
  here = room s n 62 (sym w ∙ f)

  is_mark : get_or s n 0 ≡ 62
  unfolding begins
  is_mark = sym (eqb-true 62 (get_or s n 0) (first (eqb 62 (get_or s n 0)) (rw (drop_next s n here) at (sym w ∙ f))))
    where
      first : (p : Bool) → (p && true) ≡ true → p ≡ true
      first true e = refl
      first false e = e

  front : drop n s ≡ 62 ∷ drop (n + 1) s
  front = drop_next s n here ∙ ap (λ (b : ℕ). b ∷ drop (n + 1) s) is_mark

  no_attributes : attributes n 0 (drop n s) ≡ []
  unfolding attributes blank
  no_attributes = rw front

  ends_here : tag_end 0 (drop n s) ≡ some (false, drop (n + 1) s)
  unfolding tag_end blank after begins
  ends_here = rw front

  none_coded : Coded [] []
  none_coded = record { each = λ a l h. unfold code_in numbered in refl }

  none_named : (p : ℕ) → least (attribute_faults p (row_at e) []) ≡ least (rules_faults p (row_at e).attributes [])
  unfolding attribute_faults names_faults
  none_named p = ap least (append-nil (rules_faults p (row_at e).attributes []))

  pub bare_read : {m k : ℕ} {given : Given} → m ≡ rules_by e [] 1 → fault_in k ≡ least (faults_at at m) → given ≡ given_by e (numbers_by e []) → Bounded e given
      → Reads s at n e (record { end = n + 1; short = false; refers = false; bare = true; exact = 1; told = k; given = given })
  bare_read {m} {k} x q y b = record {
    closes = unfold close_of twice in rw (no_attributes, ends_here, ne_eqb (n + 1) 0 (λ z. omega arith));
    low = λ q. omega arith;
    high = omega (arith, here);
    none' = λ q. absurd (omega arith);
    refer = λ q. unfold refers any in rw no_attributes;
    alone = λ q. unfold is_empty in rw no_attributes;
    told' = λ z. q ∙ sym (ap (λ (xs : List Attribute). least (attribute_faults at (row_at e) xs)) no_attributes ∙ none_named at ∙ told e at {codes = []} {exact = 1} [] none_coded (sym default_size) ∙ ap (λ (m : ℕ). least (faults_at at m)) (sym x));
    size = λ q. sym (ap int_size no_attributes ∙ default_size);
    numbers = λ q. rw no_attributes y;
    bounded = λ q. b;
  }

pub ruleset bare_tags = (bare_read, rules)

-- which attributes must be there
must : all_below 12 (λ e. (eqb e 1 || (eqb e 4 || (eqb e 7 || eqb e 9))) || eqb (rules_by e [] 1) 0) ≡ true
unfolding all_below told_page tables_page
must = refl

module _ (e : ℕ) where
  pub one_needed : {k : ℕ} → e ≡ k → 86 ≡ rules_by k [] 1 → 86 ≡ rules_by e [] 1
  one_needed q f = rw q f

  pub none_needed : (e ≡ 1 → ⊥) → (e ≡ 4 → ⊥) → (e ≡ 7 → ⊥) → (e ≡ 9 → ⊥) → 0 ≡ rules_by e [] 1
  none_needed a b c d = ⊎_elim
      (λ (h : e < 12). sym (eqb-true _ 0 (rw (ne_eqb e 1 a, ne_eqb e 4 b, ne_eqb e 7 c, ne_eqb e 9 d) at (below 12 (λ e. (eqb e 1 || (eqb e 4 || (eqb e 7 || eqb e 9))) || eqb (rules_by e [] 1) 0) must e h))))
      (λ (h : 12 ≤ e). none_told e [] 1 (omega arith))
      (lt_or_le e 12)

pub ruleset needed = (one_needed, none_needed, rules)

-- before the first attribute
pub empty_cells : Fresh (0 ∷ 0 ∷ 0 ∷ 0 ∷ 0 ∷ 0 ∷ 0 ∷ 0 ∷ 0 ∷ 0 ∷ 0 ∷ []) (0 ∷ 0 ∷ 0 ∷ 0 ∷ 0 ∷ 0 ∷ 0 ∷ 1 ∷ 0 ∷ 1 ∷ 0 ∷ [])
empty_cells = record { code = noughts; amount = λ a l h. eqb-true _ _ (below 11 (λ a. eqb (get_or (0 ∷ 0 ∷ 0 ∷ 0 ∷ 0 ∷ 0 ∷ 0 ∷ 1 ∷ 0 ∷ 1 ∷ 0 ∷ []) a 0) (amount_for a)) amounts_are a (omega arith)); codes_long = refl; amounts_long = refl }
  where
    amounts_are : all_below 11 (λ a. eqb (get_or (0 ∷ 0 ∷ 0 ∷ 0 ∷ 0 ∷ 0 ∷ 0 ∷ 1 ∷ 0 ∷ 1 ∷ 0 ∷ []) a 0) (amount_for a)) ≡ true
    amounts_are = unfold all_below amount_for in refl

    noughts : (a : ℕ) → ◌≡◌ {A = ℕ} (get_or (0 ∷ 0 ∷ 0 ∷ 0 ∷ 0 ∷ 0 ∷ 0 ∷ 0 ∷ 0 ∷ 0 ∷ 0 ∷ []) a 0) 0
    noughts a = ⊎_elim
        (λ (h : a < 11). eqb-true _ 0 (below 11 (λ a. eqb (get_or (0 ∷ 0 ∷ 0 ∷ 0 ∷ 0 ∷ 0 ∷ 0 ∷ 0 ∷ 0 ∷ 0 ∷ 0 ∷ []) a 0) 0) (unfold all_below in refl) a h))
        (λ (h : 11 ≤ a). get_or-eq_default (0 ∷ 0 ∷ 0 ∷ 0 ∷ 0 ∷ 0 ∷ 0 ∷ 0 ∷ 0 ∷ 0 ∷ 0 ∷ []) 0 h)
        (lt_or_le a 11)

pub ruleset tags = (empty_cells, not_closed, doubled, tag_read, says, cells_right, rules)
