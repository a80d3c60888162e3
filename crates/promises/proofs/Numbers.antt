-- Which numbers a stage's faults have: 4 to 7 of the markup, 81 to 88, 9 and 10 against the table of elements, 11 of the addresses.
use mathlib.Core.Path.{◌≡◌}
use mathlib.Core.List.{List, [], ◌∷◌, ◌++◌}
use mathlib.Core.Bool.{Bool, true, false, cond, not, ◌&&◌, ◌||◌}
use mathlib.Core.Option.{Option, none, some}
use mathlib.Core.Logic.{inl, inr}
use Prim.Native.Nat.{ℕ}
use native.Mathlib.Omega.{arith}
use lib.Dec.{eqb, ltb}
use lib.IntN.{ℤ}
use Rattle.cdi.specs.Lists.{given, any, same, among}
use Rattle.cdi.specs.Faults.{Fault, fault, unless}
use Rattle.cdi.specs.Pieces.{Attribute, Piece, start, finish, remark, refer, text, malformed, unsupported}
use Rattle.cdi.specs.Tree.{Nodes, end, element, other}
use Rattle.cdi.specs.Numbers.{bounded}
use Rattle.cdi.specs.Markup.{Progress, next, piece_faults, markup_faults}
use Rattle.cdi.specs.Rows.{Form, fixed, range, size, formatting, AttributeRule, ChildRule, Row, row_of, document_row}
use Rattle.cdi.specs.Rules.{attribute_value, range_faults, form_faults, rule_faults, rules_faults, text_faults, name_faults, names_faults, attribute_faults, Before, nothing_before, entry_of, child_faults, behind, missing_faults, stray_faults, number_faults, bound_faults, own_number, number_names, tested, size_of, int_faults, own_faults, is_known, is_int, faults_in, element_faults}
use Rattle.cdi.specs.Walk.{Segment, segment_keeps, after_segment}
use Rattle.cdi.specs.Planning.{leaving}
use Rattle.promises.proofs.Terms.{MarkupNumber, RuleNumber}

-- every fault has such a number
pub data From (P : ℕ → Type 0) : List Fault → Type 0 where
  nothing : From P []
  then : {f : Fault} {fs : List Fault} → P f.number → From P fs → From P (f ∷ fs)

module _ {P : ℕ → Type 0} where
  joined : {fs gs : List Fault} → From P fs → From P gs → From P (fs ++ gs)
  joined nothing y = y
  joined (then a x) y = then a (joined x y)

  test : (b : Bool) (f : Fault) → P f.number → From P (unless b f)
  unfolding unless
  test true f a = nothing
  test false f a = then a nothing

  one : (f : Fault) → P f.number → From P (f ∷ [])
  one f a = then a nothing

  either : (b : Bool) (fs : List Fault) → From P fs → From P (cond b fs [])
  either true fs x = x
  either false fs x = nothing

-- ── 4 to 7 ──

of_piece : (r : Progress) (p : ℕ) (c : Piece) → From MarkupNumber (piece_faults r p c)
unfolding piece_faults
of_piece r p (start n s e) = joined (test _ _ (omega arith, omega arith)) (joined (test _ _ (omega arith, omega arith)) (test _ _ (omega arith, omega arith)))
of_piece r p (finish n) = test _ _ (omega arith, omega arith)
of_piece r p remark = nothing
of_piece r p (refer c) = test _ _ (omega arith, omega arith)
of_piece r p (text s) = test _ _ (omega arith, omega arith)
of_piece r p malformed = one _ (omega arith, omega arith)
of_piece r p unsupported = one _ (omega arith, omega arith)

pub of_markup_law : (l : ℕ) (r : Progress) (cs : List (ℕ × Piece)) → From MarkupNumber (markup_faults l r cs)
unfolding markup_faults
of_markup_law l r [] = test _ _ (omega arith, omega arith)
of_markup_law l r (c ∷ cs) = joined (of_piece r c.0 c.1) (of_markup_law l (next r c.1) cs)

-- ── 81 to 88, 9 and 10 ──

of_range : (p : ℕ) (f : ℤ → Bool) (o : Option ℤ) → From RuleNumber (range_faults p f o)
unfolding range_faults
of_range p f none = one _ (inr (omega arith, omega arith))
of_range p f (some z) = test _ _ (inr (omega arith, omega arith))

of_form : (p : ℕ) (f : Form) (v : List ℕ) → From RuleNumber (form_faults p f v)
unfolding form_faults
of_form p (fixed t) v = nothing
of_form p (range lo hi) v = of_range p _ _
of_form p (size ts) v = test _ _ (inr (omega arith, omega arith))
of_form p formatting v = nothing

of_rule : (p : ℕ) (a : AttributeRule) (s : List Attribute) → From RuleNumber (rule_faults p a s)
unfolding rule_faults
of_rule p a s = by (attribute_value a.name s)
  where
    by : (o : Option (List ℕ)) → From RuleNumber (given o (unless (not a.required) (fault 86 p)) (form_faults p a.form))
    by none = test _ _ (inl (omega arith, omega arith))
    by (some v) = of_form p a.form v

of_rules : (p : ℕ) (rules : List AttributeRule) (s : List Attribute) → From RuleNumber (rules_faults p rules s)
unfolding rules_faults
of_rules p [] s = nothing
of_rules p (a ∷ rules) s = joined (of_rule p a s) (of_rules p rules s)

of_text : (f : Form) (a : Attribute) → From RuleNumber (text_faults f a)
unfolding text_faults
of_text (fixed t) a = test _ _ (inl (omega arith, omega arith))
of_text (range lo hi) a = nothing
of_text (size ts) a = nothing
of_text formatting a = test _ _ (inl (omega arith, omega arith))

of_name : (rules : List AttributeRule) (a : Attribute) → From RuleNumber (name_faults rules a)
unfolding name_faults
of_name [] a = one _ (inl (omega arith, omega arith))
of_name (r ∷ rules) a = by (same a.name r.name) (of_name rules a)
  where
    by : (t : Bool) → From RuleNumber (name_faults rules a) → From RuleNumber (cond t (text_faults r.form a) (name_faults rules a))
    by true x = of_text r.form a
    by false x = x

of_names : (rules : List AttributeRule) (s : List Attribute) → From RuleNumber (names_faults rules s)
unfolding names_faults
of_names rules [] = nothing
of_names rules (a ∷ s) = joined (of_name rules a) (of_names rules s)

of_attributes : (p : ℕ) (r : Row) (s : List Attribute) → From RuleNumber (attribute_faults p r s)
unfolding attribute_faults
of_attributes p r s = joined (of_rules p r.attributes s) (of_names r.attributes s)

of_child : (r : Row) (b : Before) (p : ℕ) (n : List ℕ) → From RuleNumber (child_faults r b p n)
unfolding child_faults
of_child r b p n = by (entry_of r n)
  where
    by : (o : Option (ℕ × Bool)) → From RuleNumber (given o (fault 81 p ∷ []) (λ e. unless (not (ltb e.0 b.last)) (fault 82 p) ++ unless (e.1 || not (any (eqb e.0) b.seen)) (fault 83 p)))
    by none = one _ (inl (omega arith, omega arith))
    by (some e) = joined (test _ _ (inl (omega arith, omega arith))) (test _ _ (inl (omega arith, omega arith)))

of_missing : (p : ℕ) (cs : List ChildRule) (kids : Nodes) → From RuleNumber (missing_faults p cs kids)
unfolding missing_faults
of_missing p [] kids = nothing
of_missing p (c ∷ cs) kids = joined (test _ _ (inl (omega arith, omega arith))) (of_missing p cs kids)

of_stray : (r : Row) (p : ℕ) (c : Piece) → From RuleNumber (stray_faults r p c)
unfolding stray_faults
of_stray r p (start n s e) = nothing
of_stray r p (finish n) = nothing
of_stray r p remark = nothing
of_stray r p (refer c) = test _ _ (inl (omega arith, omega arith))
of_stray r p (text s) = test _ _ (inl (omega arith, omega arith))
of_stray r p malformed = nothing
of_stray r p unsupported = nothing

of_number : (i : Bool) (p : ℕ) (n : List ℕ) (kids : Nodes) → From RuleNumber (number_faults i p n kids)
unfolding number_faults
of_number i p n kids = either (i && among n number_names) _ (of_range p bounded (own_number kids))

of_bounds : (p n : ℕ) (kids : Nodes) → From RuleNumber (bound_faults p n kids)
unfolding bound_faults
of_bounds p n kids = joined (test _ _ (inr (omega arith, omega arith))) (joined (test _ _ (inr (omega arith, omega arith))) (test _ _ (inr (omega arith, omega arith))))

of_int : (p : ℕ) (n : List ℕ) (s : List Attribute) (kids : Nodes) → From RuleNumber (int_faults p n s kids)
unfolding int_faults
of_int p n s kids = either (is_int n && tested s kids) _ (of_bounds p (size_of s) kids)

of_own : (i : Bool) (p : ℕ) (n : List ℕ) (s : List Attribute) (kids : Nodes) → From RuleNumber (own_faults i p n s kids)
unfolding own_faults
of_own i p n s kids = joined (of_attributes p (row_of n) s) (joined (of_missing p (row_of n).children kids) (joined (of_number i p n kids) (of_int p n s kids)))

of_content : (r : Row) (i : Bool) (b : Before) (t : Nodes) → From RuleNumber (faults_in r i b t)
unfolding faults_in
of_content r i b end = nothing
of_content r i b (other p c following) = joined (of_stray r p c) (of_content r i b following)
of_content r i b (element p n s kids following) =
    joined (of_child r b p n) (joined (either (is_known r n) _ (joined (of_own i p n s kids) (of_content (row_of n) (i || is_int n) nothing_before kids))) (of_content r i (behind r b n) following))

pub of_elements_law : (t : Nodes) → From RuleNumber (element_faults t)
unfolding element_faults
of_elements_law t = of_content document_row false nothing_before t

-- ── 11 ──

pub of_address : (i : ℕ) (gs : List Segment) (f : Fault) → leaving i gs ≡ some f → f.number ≡ 11
unfolding leaving
of_address i [] f e = cc
of_address i (g ∷ gs) f e = by (segment_keeps i g) e (of_address (after_segment i g) gs f)
  where
    by : (k : Bool) → cond k (leaving (after_segment i g) gs) (some (fault 11 g.place)) ≡ some f → (leaving (after_segment i g) gs ≡ some f → f.number ≡ 11) → f.number ≡ 11
    by true h others = others h
    by false h others = let z : fault 11 g.place ≡ f = cc in cc
