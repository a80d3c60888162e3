-- Planning: the stages in their order, and what stands in the lent table afterwards.
use Rattle.std.specs.Prelude.{List, [], ◌∷◌, ◌++◌, cond, ℕ, ◌*◌, min, length, drop, leb, ℤ, pos}
use Rattle.std.proofs.Math.Option.{Option, none, some}
use Rattle.cdi.specs.Limits.{first_line_length, text_limit, most_variables}
use Rattle.cdi.specs.Lists.{ascii, ◌>>=◌, given, same, among, begins}
use Rattle.cdi.specs.Faults.{Fault, fault, least, Answer, accepted, refused, ◌and_then◌, stage}
use Rattle.cdi.specs.Text.{content, bad_character, first_line}
use Rattle.cdi.specs.Pieces.{Attribute, Piece, pieces}
use Rattle.cdi.specs.Markup.{progress, markup_faults}
use Rattle.cdi.specs.Tree.{Nodes, end, element, other, tree}
use Rattle.cdi.specs.Numbers.{number}
use Rattle.cdi.specs.Rows.{data_names}
use Rattle.cdi.specs.Rules.{attribute_value, natural, size_of, element_faults}
use Rattle.cdi.specs.Walk as W
use Rattle.cdi.specs.Walk.{Items, Segment, segment_keeps, after_segment, total}
use Rattle.cdi.specs.Table.{table_of, records_of}

-- ── what a tree without faults describes ──

-- the number in an attribute, "else" the other
unfoldable pub number_or : ℤ → List ℕ → List Attribute → ℤ
number_or z n s = given (attribute_value n s >>= number) z (λ y. y)

unfoldable pub offset_of : List Attribute → ℤ
offset_of s = number_or (pos 0) (ascii "offset") s

-- "kind (1 segment, 2 group, 3 int, 4 string, 5 eventid, 6 float)"
unfoldable pub variable_kind : List ℕ → ℕ
variable_kind n = cond (same n (ascii "int")) 3 (cond (same n (ascii "string")) 4 (cond (same n (ascii "eventid")) 5 6))

-- "An eventid's size is 8."
unfoldable pub variable_size : List ℕ → List Attribute → ℕ
variable_size n s = cond (same n (ascii "eventid")) 8 (size_of s)

-- the data elements, in order
unfoldable pub items_of : Nodes → Items
items_of end = W.no_items
items_of (other p c following) = items_of following
items_of (element p n s kids following) =
    let as_group = W.group p (offset_of s) (natural (number_or (pos 1) (ascii "replication") s)) (items_of kids) (items_of following) in
    let as_variable = W.variable (variable_kind n) p (offset_of s) (variable_size n s) (items_of following) in
    let others = items_of following in
    cond (same n (ascii "group")) as_group (cond (among n data_names) as_variable others)

unfoldable pub segment_of : ℕ → List Attribute → Nodes → Segment
segment_of p s kids = record {
  place = p;
  space = natural (number_or (pos 0) (ascii "space") s);
  origin = natural (number_or (pos 0) (ascii "origin") s);
  items = items_of kids;
}

unfoldable pub segments_in : Nodes → List Segment
segments_in end = []
segments_in (other p c following) = segments_in following
segments_in (element p n s kids following) =
    let others = segments_in following in
    cond (same n (ascii "segment")) (segment_of p s kids ∷ others) others

-- what planning knows of a text in the end: its tree, the place of its root, its segments
pub record Description : Type 0 where
  pub nodes : Nodes
  pub root : ℕ
  pub segments : List Segment

-- of the tree t, whose top level is gone through for the root
unfoldable pub describe : Nodes → Nodes → Description
describe t end = record { nodes = t; root = 0; segments = [] }
describe t (other p c following) = describe t following
describe t (element p n s kids following) = record { nodes = t; root = p; segments = segments_in kids }

-- ── "Stages: 1; 2; 3; 4 to 7; 8 to 10; 11; 12; 13." ──

-- 1 "no zero byte at 65,535 or earlier": "smaller of length and 65,536"
unfoldable pub ending : List ℕ → Answer (List ℕ)
ending b = given (content b) (refused (fault 1 (min (length b) text_limit))) accepted

-- 2 "byte sequence or character not allowed": "its first byte"
unfoldable pub characters : List ℕ → Answer (List ℕ)
characters c = given (bad_character c) (accepted c) (λ p. refused (fault 2 p))

-- 3 "first line differs": 0
unfoldable pub opening : List ℕ → Answer (List ℕ)
opening c = cond (begins first_line c) (accepted c) (refused (fault 3 0))

-- the pieces behind the first line
unfoldable pub cut : List ℕ → List (ℕ × Piece)
cut c = pieces first_line_length 0 (drop first_line_length c)

-- 4 to 7
unfoldable pub markup : List ℕ → Answer Nodes
markup c = stage (least (markup_faults (length c) (progress [] 0) (cut c))) (tree (cut c))

-- 8 to 10
unfoldable pub elements : Nodes → Answer Description
elements t = stage (least (element_faults t)) (describe t t)

-- 11 "address leaves 0 to 2^32": "`<` of the first such segment"
unfoldable pub leaving : ℕ → List Segment → Option Fault
leaving i [] = none
leaving i (g ∷ gs) = let r = leaving (after_segment i g) gs in cond (segment_keeps i g) r (some (fault 11 g.place))

unfoldable pub addressing : Description → Answer Description
addressing d = stage (leaving 0 d.segments) d

-- 12 "more than 1,000,000 variables": "`<` of cdi"
unfoldable pub counting : Description → Answer Description
counting d = cond (leb (total d.segments) most_variables) (accepted d) (refused (fault 12 d.root))

-- stages 1 to 12, which know of no table
unfoldable pub described : List ℕ → Answer Description
described b = ending b and_then characters and_then opening and_then markup and_then elements and_then addressing and_then counting

-- "the number of records and of variables"
pub record Counts : Type 0 where
  pub records : ℕ
  pub variables : ℕ

unfoldable pub counts_of : List Segment → Counts
counts_of gs = record { records = records_of gs; variables = total gs }

-- 13 "8 times the records exceeds the table's length": 0
unfoldable pub room : List ℤ → Description → Answer Counts
room t d = cond (leb (8 * records_of d.segments) (length t)) (accepted (counts_of d.segments)) (refused (fault 13 0))

unfoldable pub planned : List ℕ → List ℤ → Answer Counts
planned b t = described b and_then room t

-- "the records stand at the front of the table and the rest of it is unchanged"; "A refusal leaves all lent memory unchanged."
unfoldable pub placed : List ℤ → List ℤ → List ℤ
placed r t = r ++ drop (length r) t

unfoldable pub table_after : List ℕ → List ℤ → List ℤ
table_after b t =
    elim (described b) [
      | refused f ↦ t
      | accepted d ↦ cond (leb (8 * records_of d.segments) (length t)) (placed (table_of d.segments) t) t
    ]

unfoldable pub planning_page : Unit {0}
unfolding number_or offset_of variable_kind variable_size items_of segment_of segments_in describe ending characters opening cut markup elements leaving addressing counting described counts_of room planned placed table_after
planning_page = tt
