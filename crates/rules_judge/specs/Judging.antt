-- What the judge of an element's content knows: entering a child, any other piece, leaving a child.
use Rattle.std.specs.Prelude as std
use Rattle.std.specs.Prelude.{Some, None, List, [], ◌∷◌, ◌++◌, map, Bool, true, false, cond, not, ◌&&◌, ◌||◌, ℕ, ◌-◌, max, ℤ, pos, nat_abs, get_or, eqb, leb, ltb}
use Rattle.std.proofs.Math.Option.{Option, none, some}
use Rattle.std.specs.Int.Signed.{le_z, lt_z}
use Rattle.cdi.specs.Lists.{ascii, given, is_empty, same, among}
use Rattle.cdi.specs.Faults as F
use Rattle.cdi.specs.Faults.{unless, lesser, least}
use Rattle.cdi.specs.Pieces.{Attribute, Piece, start, finish, remark, refer, text, malformed, unsupported}
use Rattle.cdi.specs.Tree.{Nodes, end, element, other}
use Rattle.cdi.specs.Numbers.{trimmed, number, bounded}
use Rattle.cdi.specs.Rows.{Row, row_of, document_row, int_sizes}
use Rattle.cdi.specs.Rules.{unknown_element, out_of_order, too_often, missing_child, no_number, out_of_range, attribute_faults, entry_of, stray_faults, number_names, storable, largest, size_text, size_of, is_int}
use Rattle.cdi.specs.Values.{with_sign}
use Rattle.names.specs.Names.{element_names, number_among, element_number}
use Rattle.refusals.specs.declared.Refusal.{Refusal}
use Rattle.refusals.specs.Refusals.{refusal, fault_of}
use Rattle.terms.specs.declared.Whole.{Whole}
use Rattle.terms.specs.Wholes.{whole_of}
use Rattle.rules_judge.specs.declared.Said.{Said}
use Rattle.rules_judge.specs.declared.Said.TheVariants.{Silent, No, Large, Value}
use Rattle.rules_judge.specs.declared.Bound.{Bound}
use Rattle.rules_judge.specs.declared.Judge.{Judge}

-- ── the least fault ──

-- the least fault so far
abbrev pub Least : Type 0
Least = std.Option Refusal

unfoldable pub as_fault : Least → Option F.Fault
as_fault None = none
as_fault (Some f) = some (fault_of f)

unfoldable pub to_least : Option F.Fault → Least
to_least none = None
to_least (some f) = Some (refusal f.number f.place)

-- the least with these faults more
unfoldable pub blamed : Least → List F.Fault → Least
blamed l fs = to_least (lesser (as_fault l) (least fs))

-- ── elements by number ──

-- the row of an element's number; the text itself is 0
unfoldable pub row_at : ℕ → Row
row_at k = cond (eqb k 0) document_row (row_of (get_or element_names (k - 1) []))

-- an element whose content isn't judged
unfoldable pub is_foreign : Judge → Bool
is_foreign j = eqb j.row 24

-- ── whole numbers ──

unfoldable pub as_whole : ℤ → Whole
as_whole z = record { negative = lt_z z (pos 0); magnitude = nat_abs z }

-- what a text says
unfoldable pub said_by : Option ℤ → Said
said_by none = No
said_by (some z) = cond (bounded z) (Value (as_whole z)) Large

-- its faults, where it must be a number
unfoldable pub said_faults : ℕ → Said → List F.Fault
said_faults p Silent = no_number p ∷ []
said_faults p No = no_number p ∷ []
said_faults p Large = out_of_range p ∷ []
said_faults p (Value w) = []

unfoldable pub is_value : Said → Bool
is_value Silent = false
is_value No = false
is_value Large = false
is_value (Value w) = true

unfoldable pub value_said : Said → Whole
value_said Silent = as_whole (pos 0)
value_said No = as_whole (pos 0)
value_said Large = as_whole (pos 0)
value_said (Value w) = w

-- one run of text, and nothing else, is a number
unfoldable pub spoken : Said → Piece → Said
spoken Silent (text s) = said_by (number s)
spoken Silent (start n s e) = No
spoken Silent (finish n) = No
spoken Silent remark = No
spoken Silent (refer c) = No
spoken Silent malformed = No
spoken Silent unsupported = No
spoken No c = No
spoken Large c = No
spoken (Value w) c = No

-- inside an int: min, max, default and property
unfoldable pub is_number_row : Judge → Bool
is_number_row j = j.numeric && (leb 19 j.row && leb j.row 22)

-- ── entering a child ──

unfoldable pub absent : Bound
absent = record { there = false; place = 0; value = as_whole (pos 0) }

-- nothing of the content is read yet
unfoldable pub fresh : Least → ℕ → Bool → Judge
fresh l row numeric =
    record { least = l; row = row; numeric = numeric; last = 0; one = false; two = false; said = Silent; low = absent; high = absent; sound = true }

-- a child's order and count, by its entry
unfoldable pub entry_faults : ℕ → ℕ → ℕ × Bool → List F.Fault
entry_faults last p e = unless (not (ltb e.0 last)) (out_of_order p) ++ unless (e.1 || not (eqb e.0 last)) (too_often p)

unfoldable pub enter_of : Judge → ℕ → List ℕ → List Attribute → Judge
enter_of j p n s =
    cond (is_foreign j) (fresh j.least 24 j.numeric)
    (given (entry_of (row_at j.row) n)
    (fresh (blamed j.least (unknown_element p ∷ [])) 24 j.numeric)
    (λ e. fresh (blamed j.least (entry_faults j.last p e ++ attribute_faults p (row_of n) s)) (element_number n) (j.numeric || is_int n)))

-- ── any other piece ──

unfoldable pub other_of : Judge → ℕ → Piece → Judge
other_of j p c =
    cond (is_foreign j) j
    (record {
      least = blamed j.least (stray_faults (row_at j.row) p c);
      row = j.row;
      numeric = j.numeric;
      last = j.last;
      one = j.one;
      two = j.two;
      said = cond (is_number_row j) (spoken j.said c) j.said;
      low = j.low;
      high = j.high;
      sound = j.sound;
    })

-- ── leaving a child: `i` is what is known of its content ──

unfoldable pub missing : ℕ → List ℕ → Judge → List F.Fault
missing p n i = unless (not (same n (ascii "relation")) || (i.one && i.two)) (missing_child p)

unfoldable pub number_blame : Judge → ℕ → List ℕ → Judge → List F.Fault
number_blame j p n i = cond (j.numeric && among n number_names) (said_faults p i.said) []

-- the bounds of an int of size n, by what its min and max have said
unfoldable pub bound_blame : ℕ → ℕ → Bound → Bound → List F.Fault
bound_blame p n low high =
    let signed = low.there && lt_z (whole_of low.value) (pos 0) in
    let min = cond low.there (whole_of low.value) (pos 0) in
    let max = cond high.there (whole_of high.value) (largest signed n) in
    let low_good = storable signed n min in
    let high_good = storable signed n max in
    unless low_good (out_of_range (cond low.there low.place p))
    ++ (unless high_good (out_of_range (cond high.there high.place p))
    ++ unless (not (low_good && high_good) || le_z min max) (out_of_range p))

unfoldable pub int_blame : ℕ → List ℕ → List Attribute → Judge → List F.Fault
int_blame p n s i = cond (is_int n && (among (trimmed (size_text s)) (map ascii int_sizes) && i.sound)) (bound_blame p (size_of s) i.low i.high) []

-- the first child of its name that says a number is the bound
unfoldable pub bounding : Bool → Bound → ℕ → Said → Bound
bounding is_one b p s = cond (is_one && (not b.there && is_value s)) (record { there = true; place = p; value = value_said s }) b

-- a min or max has no other fault: of order or count, no attribute, and it is a number in range
unfoldable pub bound_sound : Judge → ℕ → List ℕ → List Attribute → ℕ × Bool → Judge → Bool
bound_sound j p n s e i =
    not (same n (ascii "min") || same n (ascii "max")) || (is_empty (entry_faults j.last p e) && (is_empty s && is_value i.said))

-- an element whose own faults are not judged: only what it has said is known to be no number
unfoldable pub passed : Judge → Judge → Judge
passed j i =
    record {
      least = i.least;
      row = j.row;
      numeric = j.numeric;
      last = j.last;
      one = j.one;
      two = j.two;
      said = No;
      low = j.low;
      high = j.high;
      sound = j.sound;
    }

unfoldable pub leave_of : Judge → ℕ → List ℕ → List Attribute → Judge → Judge
leave_of j p n s i =
    cond (is_foreign j) (passed j i)
    (given (entry_of (row_at j.row) n) (passed j i) (λ e.
    record {
      least = blamed i.least (missing p n i ++ (number_blame j p n i ++ int_blame p n s i));
      row = j.row;
      numeric = j.numeric;
      last = max j.last e.0;
      one = j.one || eqb e.0 1;
      two = j.two || eqb e.0 2;
      said = No;
      low = bounding (same n (ascii "min")) j.low p i.said;
      high = bounding (same n (ascii "max")) j.high p i.said;
      sound = j.sound && bound_sound j p n s e i;
    }))

-- ── the whole content ──

unfoldable pub judge_nodes : Judge → Nodes → Judge
judge_nodes j end = j
judge_nodes j (other p c following) = judge_nodes (other_of j p c) following
judge_nodes j (element p n s kids following) = judge_nodes (leave_of j p n s (judge_nodes (enter_of j p n s) kids)) following

unfoldable pub judging_page : Unit {0}
unfolding as_fault to_least blamed element_names number_among element_number row_at is_foreign as_whole whole_of with_sign said_by said_faults is_value value_said spoken is_number_row absent fresh entry_faults enter_of other_of missing number_blame bound_blame int_blame bounding bound_sound passed leave_of judge_nodes
judging_page = tt
