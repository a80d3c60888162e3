-- Stages 8 to 10: what is wrong with the tree by the table of elements.
use Rattle.std.specs.Prelude.{List, [], ◌∷◌, ◌++◌, map, Bool, true, false, cond, not, ◌&&◌, ◌||◌, ℕ, ◌+◌, ◌*◌, ◌-◌, ◌^◌, max, length, eqb, ltb, ℤ, pos, negsuc, neg_ℤ}
use Rattle.std.proofs.Math.Option.{Option, none, some}
use Rattle.std.specs.Int.Signed.{le_z, lt_z}
use Rattle.cdi.specs.Lists.{ascii, ◌>>=◌, given, is_empty, any, all, while, after, same, among, strip}
use Rattle.cdi.specs.Faults.{Fault, fault, unless}
use Rattle.cdi.specs.Pieces.{Attribute, Piece, start, finish, remark, refer, text, malformed, unsupported, blank, digit}
use Rattle.cdi.specs.Tree.{Nodes, end, element, other}
use Rattle.cdi.specs.Numbers.{trimmed, number, within, bounded}
use Rattle.cdi.specs.Rows.{Form, fixed, range, size, formatting, AttributeRule, ChildRule, Row, row_of, document_row, int_sizes}

-- "Split it: unknown element, element out of order, element too often, missing child, unknown attribute, missing attribute, wrong fixed text
-- (root attributes or formatting), stray text." "81 to 88 in that order"
abbrev pub unknown_element : ℕ → Fault
unknown_element p = fault 81 p

abbrev pub out_of_order : ℕ → Fault
out_of_order p = fault 82 p

abbrev pub too_often : ℕ → Fault
too_often p = fault 83 p

abbrev pub missing_child : ℕ → Fault
missing_child p = fault 84 p

abbrev pub unknown_attribute : ℕ → Fault
unknown_attribute p = fault 85 p

abbrev pub missing_attribute : ℕ → Fault
missing_attribute p = fault 86 p

abbrev pub wrong_text : ℕ → Fault
wrong_text p = fault 87 p

abbrev pub stray_text : ℕ → Fault
stray_text p = fault 88 p

-- 9 "not a number"
abbrev pub no_number : ℕ → Fault
no_number p = fault 9 p

-- 10 "number or size out of range; min above max"
abbrev pub out_of_range : ℕ → Fault
out_of_range p = fault 10 p

-- ── attributes: "`<` of the tag", "but 85 and 87 stand at the attribute name's first byte" ──

-- the value of the attribute of that name
unfoldable pub attribute_value : List ℕ → List Attribute → Option (List ℕ)
attribute_value n [] = none
attribute_value n (a ∷ s) = let r = attribute_value n s in cond (same n a.name) (some a.value) r

unfoldable pub is_formatting : List ℕ → Bool
is_formatting v =
    given (strip (ascii "%") v) false (λ s.
    same (after digit s) (ascii "f")
    || given (strip (ascii ".") (after digit s)) false (λ t. same (after digit t) (ascii "f")))

unfoldable pub range_faults : ℕ → (ℤ → Bool) → Option ℤ → List Fault
range_faults p in_range none = no_number p ∷ []
range_faults p in_range (some z) = unless (in_range z) (out_of_range p)

-- a number or a size, at the tag's `<`
unfoldable pub form_faults : ℕ → Form → List ℕ → List Fault
form_faults p (fixed t) v = []
form_faults p (range lo hi) v = range_faults p (within lo hi) (number v)
-- "a token, not a number: blanks at its ends are dropped"
form_faults p (size ts) v = unless (among (trimmed v) (map ascii ts)) (out_of_range p)
form_faults p formatting v = []

unfoldable pub rule_faults : ℕ → AttributeRule → List Attribute → List Fault
rule_faults p a s = given (attribute_value a.name s) (unless (not a.required) (missing_attribute p)) (form_faults p a.form)

unfoldable pub rules_faults : ℕ → List AttributeRule → List Attribute → List Fault
rules_faults p [] s = []
rules_faults p (a ∷ rules) s = rule_faults p a s ++ rules_faults p rules s

-- "wrong fixed text (root attributes or formatting)", at the name
unfoldable pub text_faults : Form → Attribute → List Fault
text_faults (fixed t) a = unless (same a.value (ascii t)) (wrong_text a.place)
text_faults (range lo hi) a = []
text_faults (size ts) a = []
text_faults formatting a = unless (is_formatting a.value) (wrong_text a.place)

-- one attribute by the row's rules: it is unknown, or its text is wrong
unfoldable pub name_faults : List AttributeRule → Attribute → List Fault
name_faults [] a = unknown_attribute a.place ∷ []
name_faults (r ∷ rules) a = let more = name_faults rules a in cond (same a.name r.name) (text_faults r.form a) more

unfoldable pub names_faults : List AttributeRule → List Attribute → List Fault
names_faults rules [] = []
names_faults rules (a ∷ s) = name_faults rules a ++ names_faults rules s

unfoldable pub attribute_faults : ℕ → Row → List Attribute → List Fault
attribute_faults p r s = rules_faults p r.attributes s ++ names_faults r.attributes s

-- ── children: order and count ──

-- the children before: the last entry of the row that any of them has, counted from 1, and the entries that they have
pub record Before : Type 0 where
  pub last : ℕ
  pub seen : List ℕ

unfoldable pub nothing_before : Before
nothing_before = record { last = 0; seen = [] }

-- the entry of a child's name, counted from i, and whether more than one may stand there
unfoldable pub entry_from : ℕ → List ChildRule → List ℕ → Option (ℕ × Bool)
entry_from i [] n = none
entry_from i (c ∷ cs) n = let r = entry_from (i + 1) cs n in cond (among n c.names) (some (i, c.many)) r

unfoldable pub entry_of : Row → List ℕ → Option (ℕ × Bool)
entry_of r n = entry_from 1 r.children n

-- "A child is unknown if the parent's row lacks it, out of order after one listed later"; too often: the second and every further one
unfoldable pub child_faults : Row → Before → ℕ → List ℕ → List Fault
child_faults r b p n =
    given (entry_of r n) (unknown_element p ∷ []) (λ e.
    unless (not (ltb e.0 b.last)) (out_of_order p)
    ++ unless (e.1 || not (any (eqb e.0) b.seen)) (too_often p))

-- the children before the next one; an unknown child takes no part
unfoldable pub behind : Row → Before → List ℕ → Before
behind r b n = given (entry_of r n) b (λ e. record { last = max b.last e.0; seen = e.0 ∷ b.seen })

unfoldable pub has_child : List (List ℕ) → Nodes → Bool
has_child ns end = false
has_child ns (other p c following) = has_child ns following
has_child ns (element p n s kids following) = among n ns || has_child ns following

-- "missing only if it stands nowhere in the parent": at "the parent if something is missing"
unfoldable pub missing_faults : ℕ → List ChildRule → Nodes → List Fault
missing_faults p [] kids = []
missing_faults p (c ∷ cs) kids = unless (not c.needed || has_child c.names kids) (missing_child p) ++ missing_faults p cs kids

-- "Only blanks, comments and instructions stand between children": "the first stray byte"
unfoldable pub stray_faults : Row → ℕ → Piece → List Fault
stray_faults r p (text s) = unless (r.text || all blank s) (stray_text (p + length (while blank s)))
stray_faults r p (refer c) = unless r.text (stray_text p)
stray_faults r p remark = []
stray_faults r p (start n s e) = []
stray_faults r p (finish n) = []
stray_faults r p malformed = []
stray_faults r p unsupported = []

-- ── texts that are numbers ──

-- the whole content as one run of text; "a reference, comment, instruction or child there makes it no number"
unfoldable pub own_text : Nodes → Option (List ℕ)
own_text end = none
own_text (element p n s kids following) = none
own_text (other p (text s) end) = some s
own_text (other p (text s) (element q n a kids following)) = none
own_text (other p (text s) (other q c following)) = none
own_text (other p (start n s e) following) = none
own_text (other p (finish n) following) = none
own_text (other p remark following) = none
own_text (other p (refer c) following) = none
own_text (other p malformed following) = none
own_text (other p unsupported following) = none

unfoldable pub own_number : Nodes → Option ℤ
own_number kids = own_text kids >>= number

-- "An int's min, max, default and property texts are numbers from -2^63 to 2^64 - 1"
unfoldable pub number_names : List (List ℕ)
number_names = map ascii ("min" ∷ "max" ∷ "default" ∷ "property" ∷ [])

unfoldable pub number_faults : Bool → ℕ → List ℕ → Nodes → List Fault
number_faults in_int p n kids = cond (in_int && among n number_names) (range_faults p bounded (own_number kids)) []

-- ── an int's sign and bounds ──

-- a bound: its place and its value
pub record Bound : Type 0 where
  pub place : ℕ
  pub value : ℤ

-- the number in the child of that name, where it stands
unfoldable pub bound_of : List ℕ → Nodes → Option Bound
bound_of n end = none
bound_of n (other p c following) = bound_of n following
bound_of n (element p m s kids following) =
    let r = bound_of n following in
    cond (same n m) (own_number kids >>= λ z. some (record { place = p; value = z })) r

-- "An int is signed exactly if min is present and below zero."
unfoldable pub is_signed : Option Bound → Bool
is_signed none = false
is_signed (some b) = lt_z b.value (pos 0)

-- "the largest value that the size can store, signed or unsigned as above"
unfoldable pub largest : Bool → ℕ → ℤ
largest signed n = cond signed (pos (2 ^ (8 * n - 1) - 1)) (pos (2 ^ (8 * n) - 1))

unfoldable pub smallest : Bool → ℕ → ℤ
smallest signed n = cond signed (neg_ℤ (pos (2 ^ (8 * n - 1)))) (pos 0)

unfoldable pub storable : Bool → ℕ → ℤ → Bool
storable signed n z = within (smallest signed n) (largest signed n) z

-- the int's own bounds, for its size
pub record Bounds : Type 0 where
  pub signed : Bool
  pub min : ℤ
  pub max : ℤ

-- "Missing min is 0; missing max is the largest value"
unfoldable pub bounds_of : ℕ → Nodes → Bounds
bounds_of n kids =
    let low = bound_of (ascii "min") kids in
    let high = bound_of (ascii "max") kids in
    record {
      signed = is_signed low;
      min = given low (pos 0) (λ b. b.value);
      max = given high (largest (is_signed low) n) (λ b. b.value);
    }

-- "Both must be storable and then min at most max": at the bound's own `<`; "for min above max the int's `<`"
unfoldable pub bound_faults : ℕ → ℕ → Nodes → List Fault
bound_faults p n kids =
    let b = bounds_of n kids in
    let low = storable b.signed n b.min in
    let high = storable b.signed n b.max in
    unless low (out_of_range (given (bound_of (ascii "min") kids) p (λ m. m.place)))
    ++ (unless high (out_of_range (given (bound_of (ascii "max") kids) p (λ m. m.place)))
    ++ unless (not (low && high) || le_z b.min b.max) (out_of_range p))

-- "no other fault, of order or count included": every child of that name stands where it may, has no attribute, and is a number in range
unfoldable pub sound : Row → List ℕ → Before → Nodes → Bool
sound r n b end = true
sound r n b (other p c following) = sound r n b following
sound r n b (element p m s kids following) =
    (not (same n m) || (is_empty (child_faults r b p m) && (is_empty s && given (own_number kids) false bounded)))
    && sound r n (behind r b m) following

-- an int's size: its text where it has one, else 1
unfoldable pub size_text : List Attribute → List ℕ
size_text s = given (attribute_value (ascii "size") s) (ascii "1") (λ v. v)

-- "both tested only where the int's size, min and max have no other fault"
unfoldable pub tested : List Attribute → Nodes → Bool
tested s kids =
    among (trimmed (size_text s)) (map ascii int_sizes)
    && (sound (row_of (ascii "int")) (ascii "min") nothing_before kids && sound (row_of (ascii "int")) (ascii "max") nothing_before kids)

unfoldable pub natural : ℤ → ℕ
natural (pos n) = n
natural (negsuc n) = 0

unfoldable pub size_of : List Attribute → ℕ
size_of s = given (number (size_text s)) 0 natural

unfoldable pub is_int : List ℕ → Bool
is_int n = same n (ascii "int")

unfoldable pub int_faults : ℕ → List ℕ → List Attribute → Nodes → List Fault
int_faults p n s kids = cond (is_int n && tested s kids) (bound_faults p (size_of s) kids) []

-- ── all faults ──

-- of one element by its own row, without those of its children
unfoldable pub own_faults : Bool → ℕ → List ℕ → List Attribute → Nodes → List Fault
own_faults in_int p n s kids =
    attribute_faults p (row_of n) s
    ++ (missing_faults p (row_of n).children kids
    ++ (number_faults in_int p n kids
    ++ int_faults p n s kids))

unfoldable pub is_known : Row → List ℕ → Bool
is_known r n = given (entry_of r n) false (λ e. true)

-- of what stands in an element with the row r, behind the children b, inside an int or not. Nothing inside an unknown element is judged
unfoldable pub faults_in : Row → Bool → Before → Nodes → List Fault
faults_in r in_int b end = []
faults_in r in_int b (other p c following) = stray_faults r p c ++ faults_in r in_int b following
faults_in r in_int b (element p n s kids following) =
    let own = own_faults in_int p n s kids ++ faults_in (row_of n) (in_int || is_int n) nothing_before kids in
    child_faults r b p n ++ (cond (is_known r n) own [] ++ faults_in r in_int (behind r b n) following)

unfoldable pub element_faults : Nodes → List Fault
element_faults t = faults_in document_row false nothing_before t

unfoldable pub rules_page : Unit {0}
unfolding attribute_value is_formatting range_faults form_faults rule_faults rules_faults text_faults name_faults names_faults attribute_faults nothing_before entry_from entry_of child_faults behind has_child missing_faults stray_faults own_text own_number number_names number_faults bound_of is_signed largest smallest storable bounds_of bound_faults sound size_text tested natural size_of is_int int_faults own_faults is_known faults_in element_faults
rules_page = tt
