-- What the table of elements makes sure of: an element without faults is known, and its numbers lie in the ranges of document 01.
use mathlib.Core.Path.{◌≡◌, refl}
use mathlib.Core.List.{List, [], ◌∷◌, map}
use mathlib.Core.Bool.{Bool, true, false, cond, ◌||◌, not}
use mathlib.Core.Option.{Option, none, some}
use Prim.Native.Nat.{ℕ, ◌≤◌}
use Prim.Native.String.{String}
use native.Mathlib.Omega.{arith}
use borrow.Author.Tests.{leb-true}
use lib.Dec.{leb}
use lib.IntN.{ℤ, pos, negsuc}
use Rattle.cdi.specs.Lists.{ascii, given, ◌>>=◌, same, among, lists_page}
use Rattle.cdi.specs.Faults.{Fault, unless}
use Rattle.cdi.specs.Pieces.{Attribute, Piece, pieces_page}
use Rattle.cdi.specs.Tree.{Nodes, element, other}
use Rattle.cdi.specs.Numbers.{trimmed, signed_digits, number, within, numbers_page}
use Rattle.cdi.specs.Rows.{Form, range, size, AttributeRule, Row, row_of, optional, offset, data_names, int_sizes, float_sizes, rows_page}
use Rattle.cdi.specs.Rules.{missing_attribute, Before, nothing_before, behind, attribute_value, range_faults, form_faults, rule_faults, rules_faults, names_faults, attribute_faults, missing_faults, number_faults, int_faults, entry_of, child_faults, stray_faults, is_known, is_int, own_faults, faults_in, natural, size_text, size_of}
use Rattle.cdi.specs.Table.{same_number}
use Rattle.cdi.specs.Plans.{size_fits, offset_fits, plans_page}
use Rattle.cdi.specs.Planning.{number_or, offset_of, variable_kind, variable_size, segment_of}
use Rattle.cdi.proofs.Quiet.{impossible, empty_left, empty_right, passed, among_each, Each}
use Rattle.cdi.proofs.Tests.{both_left, both_right}

-- ── elements without faults ──

-- what is judged of an element and what follows it, and has no fault
pub record Judged (r : Row) (in_int : Bool) (b : Before) (p : ℕ) (n : List ℕ) (s : List Attribute) (kids following : Nodes) : Type 0 where
  pub child : child_faults r b p n ≡ []
  pub own : own_faults in_int p n s kids ≡ []
  pub inside : faults_in (row_of n) (in_int || is_int n) nothing_before kids ≡ []
  pub others : faults_in r in_int (behind r b n) following ≡ []

module _ {A : Type 0} where
  found : (o : Option A) (f : Fault) (k : A → List Fault) → given o (f ∷ []) k ≡ [] → given o false (λ a. true) ≡ true
  found none f k e = cc
  found (some a) f k e = refl

-- A child without faults is known.
child_known : (r : Row) (b : Before) (p : ℕ) (n : List ℕ) → child_faults r b p n ≡ [] → is_known r n ≡ true
unfolding child_faults is_known
child_known r b p n e = found (entry_of r n) _ _ e

opened : (t : Bool) (fs : List Fault) → t ≡ true → cond t fs [] ≡ [] → fs ≡ []
opened true fs q e = e
opened false fs q e = cc

-- An element of a tree without faults has no own faults, nor has its content, nor what follows it.
pub judged : {r : Row} {in_int : Bool} {b : Before} {p : ℕ} {n : List ℕ} {s : List Attribute} {kids following : Nodes}
    → faults_in r in_int b (element p n s kids following) ≡ [] → Judged r in_int b p n s kids following
unfolding faults_in
judged {r} {in_int} {b} {p} {n} {s} {kids} e =
    let child = empty_left (child_faults r b p n) _ e in
    let rest = empty_right (child_faults r b p n) _ e in
    let both = opened (is_known r n) _ (child_known r b p n child) (empty_left _ _ rest) in
    record {
      child = child;
      own = empty_left _ _ both;
      inside = empty_right (own_faults in_int p n s kids) _ both;
      others = empty_right (cond (is_known r n) _ []) _ rest;
    }

-- What is behind a piece that is no element has no fault either.
pub judged_other : (r : Row) (in_int : Bool) (b : Before) (p : ℕ) (c : Piece) (following : Nodes) → faults_in r in_int b (other p c following) ≡ [] → faults_in r in_int b following ≡ []
unfolding faults_in
judged_other r in_int b p c following e = empty_right (stray_faults r p c) _ e

-- the kinds of an element's own faults, of which there are none
pub record Kept (in_int : Bool) (p : ℕ) (n : List ℕ) (s : List Attribute) (kids : Nodes) : Type 0 where
  pub names : names_faults (row_of n).attributes s ≡ []
  pub rules : rules_faults p (row_of n).attributes s ≡ []
  pub there : missing_faults p (row_of n).children kids ≡ []
  pub numbers : number_faults in_int p n kids ≡ []
  pub bounds : int_faults p n s kids ≡ []

-- An element without own faults has none of any kind.
pub kept : {in_int : Bool} {p : ℕ} {n : List ℕ} {s : List Attribute} {kids : Nodes} → own_faults in_int p n s kids ≡ [] → Kept in_int p n s kids
unfolding own_faults attribute_faults
kept {in_int} {p} {n} {s} {kids} e =
    let own = empty_left (attribute_faults p (row_of n) s) _ e in
    let rest = empty_right (attribute_faults p (row_of n) s) _ e in
    let last = empty_right (missing_faults p (row_of n).children kids) _ rest in
    record {
      names = empty_right (rules_faults p (row_of n).attributes s) _ own;
      rules = empty_left _ _ own;
      there = empty_left _ _ rest;
      numbers = empty_left _ _ last;
      bounds = empty_right (number_faults in_int p n kids) _ last;
    }

-- ── attributes ──

-- a rule for an attribute
abbrev rule : List ℕ → Bool → Form → AttributeRule
rule n needed f = record { name = n; required = needed; form = f }

-- A number under a rule for its range lies in it, where the number that stands for a missing one does.
range_rule : (p : ℕ) (lo hi z : ℤ) (needed : Bool) (n : List ℕ) (s : List Attribute) → within lo hi z ≡ true
    → rule_faults p (rule n needed (range lo hi)) s ≡ [] → within lo hi (number_or z n s) ≡ true
unfolding rule_faults form_faults range_faults number_or
range_rule p lo hi z needed n s h = there (attribute_value n s)
  where
    read : (m : Option ℤ) → range_faults p (within lo hi) m ≡ [] → within lo hi (given m z (λ y. y)) ≡ true
    read none e = cc
    read (some y) e = passed _ _ e

    there : (v : Option (List ℕ)) → given v (unless (not needed) (missing_attribute p)) (form_faults p (range lo hi)) ≡ [] → within lo hi (given (v >>= number) z (λ y. y)) ≡ true
    there none e = h
    there (some v) e = read (number v) e

-- A size under a rule for its texts is one of them, blanks at its ends aside.
size_rule : (p : ℕ) (needed : Bool) (ts : List String) (s : List Attribute) → (not needed ≡ true → among (trimmed (ascii "1")) (map ascii ts) ≡ true)
    → rule_faults p (rule (ascii "size") needed (size ts)) s ≡ [] → among (trimmed (size_text s)) (map ascii ts) ≡ true
unfolding rule_faults form_faults size_text
size_rule p needed ts s h = there (attribute_value (ascii "size") s)
  where
    there : (v : Option (List ℕ)) → given v (unless (not needed) (missing_attribute p)) (form_faults p (size ts)) ≡ [] → among (trimmed (given v (ascii "1") (λ w. w))) (map ascii ts) ≡ true
    there none e = h (passed _ _ e)
    there (some v) e = passed _ _ e

-- A size under a rule for its range is a number in it.
length_rule : (p : ℕ) (hi : ℕ) (s : List Attribute) → rule_faults p (rule (ascii "size") true (range (pos 1) (pos hi))) s ≡ [] → within (pos 1) (pos hi) (pos (size_of s)) ≡ true
unfolding rule_faults form_faults range_faults size_of size_text within natural
length_rule p hi s = there (attribute_value (ascii "size") s)
  where
    read : (m : Option ℤ) → range_faults p (within (pos 1) (pos hi)) m ≡ [] → within (pos 1) (pos hi) (pos (given m 0 natural)) ≡ true
    read none e = cc
    read (some (pos y)) e = passed _ _ e
    read (some (negsuc y)) e = passed _ _ e

    there : (v : Option (List ℕ)) → given v (unless (not true) (missing_attribute p)) (form_faults p (range (pos 1) (pos hi))) ≡ [] → within (pos 1) (pos hi) (pos (given (number (given v (ascii "1") (λ w. w))) 0 natural)) ≡ true
    there none e = let z = passed _ _ e in cc
    there (some v) e = read (number v) e

-- A number from the one to the other, both natural, is natural.
pub natural_within : (lo hi : ℕ) (z : ℤ) → within (pos lo) (pos hi) z ≡ true → (lo ≤ natural z) × (natural z ≤ hi)
unfolding within natural
natural_within lo hi (pos n) e = (leb-true lo n (both_left _ _ e), leb-true n hi (both_right (leb lo n) _ e))
natural_within lo hi (negsuc n) e = impossible (cc)

-- ── data elements ──

-- what a data element's attributes make sure of
pub record DataFits (n : List ℕ) (s : List Attribute) : Type 0 where
  pub offset : offset_fits (offset_of s) ≡ true
  pub replication : same n (ascii "group") ≡ true → within (pos 1) (pos 2147483647) (number_or (pos 1) (ascii "replication") s) ≡ true
  pub sized : same n (ascii "group") ≡ false → size_fits (variable_kind n) (pos (variable_size n s)) ≡ true

-- A variable's kind is 3 or more.
pub kind_least : (n : List ℕ) → 3 ≤ variable_kind n
unfolding variable_kind
kind_least n = by (same n (ascii "int")) (same n (ascii "string")) (same n (ascii "eventid"))
  where
    by : (i s e : Bool) → 3 ≤ cond i 3 (cond s 4 (cond e 5 6))
    by true s e = omega arith
    by false true e = omega arith
    by false false true = omega arith
    by false false false = omega arith

module _ (p : ℕ) (s : List Attribute) where
  FitsByRules : List ℕ → Type 0
  FitsByRules n = rules_faults p (row_of n).attributes s ≡ [] → DataFits n s

  first_rule : (a : AttributeRule) (rules : List AttributeRule) → rules_faults p (a ∷ rules) s ≡ [] → rule_faults p a s ≡ []
  unfolding rules_faults
  first_rule a rules e = empty_left _ _ e

  second_rule : (a b : AttributeRule) (rules : List AttributeRule) → rules_faults p (a ∷ b ∷ rules) s ≡ [] → rule_faults p b s ≡ []
  unfolding rules_faults
  second_rule a b rules e = first_rule b rules (empty_right (rule_faults p a s) _ e)

  offset_rule : rule_faults p offset s ≡ [] → offset_fits (offset_of s) ≡ true
  unfolding offset optional offset_of offset_fits within
  offset_rule e = range_rule p _ _ (pos 0) false (ascii "offset") s refl e

  -- An int's size is one of the texts for it.
  pub int_size_law : rules_faults p (row_of (ascii "int")).attributes s ≡ [] → among (trimmed (size_text s)) (map ascii int_sizes) ≡ true
  unfolding lists_page pieces_page numbers_page rows_page
  int_size_law e = size_rule p false int_sizes s (λ z. refl) (first_rule _ _ e)

  text_fits : (k : ℕ) (ts : List String) → Each (λ w. size_fits k (pos (given (signed_digits w) 0 natural)) ≡ true) (map ascii ts)
      → among (trimmed (size_text s)) (map ascii ts) ≡ true → size_fits k (pos (size_of s)) ≡ true
  unfolding size_of number
  text_fits k ts = among_each (λ w. size_fits k (pos (given (signed_digits w) 0 natural)) ≡ true) (trimmed (size_text s)) (map ascii ts)

  variable_fits : (n : List ℕ) → same n (ascii "group") ≡ false → rule_faults p offset s ≡ [] → size_fits (variable_kind n) (pos (variable_size n s)) ≡ true → DataFits n s
  variable_fits n g o z = record { offset = offset_rule o; replication = λ q. cc; sized = λ q. z }

  group_fits : FitsByRules (ascii "group")
  unfolding lists_page rows_page FitsByRules within
  group_fits e = record {
    offset = offset_rule (second_rule _ _ _ e);
    replication = λ q. range_rule p _ _ (pos 1) false (ascii "replication") s refl (first_rule _ _ e);
    sized = λ q. cc;
  }

  int_fits : FitsByRules (ascii "int")
  unfolding lists_page rows_page FitsByRules variable_kind variable_size pieces_page numbers_page plans_page Each natural same_number
  int_fits e = variable_fits _ refl (second_rule _ _ _ e) (text_fits 3 int_sizes (refl, (refl, (refl, (refl, tt)))) (int_size_law e))

  string_fits : FitsByRules (ascii "string")
  unfolding lists_page rows_page FitsByRules variable_kind variable_size plans_page
  string_fits e = variable_fits _ refl (second_rule _ _ _ e) (length_rule p 65535 s (first_rule _ _ e))

  eventid_fits : FitsByRules (ascii "eventid")
  unfolding lists_page rows_page FitsByRules variable_kind variable_size plans_page same_number
  eventid_fits e = variable_fits _ refl (first_rule _ _ e) refl

  float_fits : FitsByRules (ascii "float")
  unfolding lists_page rows_page FitsByRules variable_kind variable_size pieces_page numbers_page plans_page Each natural same_number
  float_fits e = variable_fits _ refl (second_rule _ _ _ e) (text_fits 6 float_sizes (refl, (refl, (refl, tt))) (size_rule p true float_sizes s (λ z. cc) (first_rule _ _ e)))

  -- A data element that keeps the rules for its attributes fits.
  pub data_fits : (n : List ℕ) → among n data_names ≡ true → rules_faults p (row_of n).attributes s ≡ [] → DataFits n s
  unfolding FitsByRules data_names Each
  data_fits n d = among_each FitsByRules n data_names (group_fits, (int_fits, (string_fits, (eventid_fits, (float_fits, tt))))) d

  -- A segment that keeps the rules for its attributes has a space and an origin in their ranges.
  pub segment_fits_law : (kids : Nodes) → rules_faults p (row_of (ascii "segment")).attributes s ≡ [] → ((segment_of p s kids).origin ≤ 2147483647) × ((segment_of p s kids).space ≤ 255)
  unfolding lists_page rows_page segment_of within
  segment_fits_law kids e = (
    (natural_within 0 2147483647 _ (range_rule p _ _ (pos 0) false (ascii "origin") s refl (second_rule _ _ _ e))).1,
    (natural_within 0 255 _ (range_rule p _ _ (pos 0) true (ascii "space") s refl (first_rule _ _ e))).1,
  )
