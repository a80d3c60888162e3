-- "Writing and reading take the text, the exact records, n and a window (space, first address, bytes)."
use Rattle.std.specs.Prelude.{List, [], ◌∷◌, ◌++◌, Bool, true, false, cond, not, ◌&&◌, ◌||◌, ℕ, ◌+◌, ◌-◌, length, take, drop, eqb, leb, ltb, ℤ}
use Rattle.std.proofs.Math.Option.{Option, none, some}
use Rattle.cdi.specs.Lists.{ascii, given, is_some, any, same}
use Rattle.cdi.specs.Faults.{fault, Answer, accepted, refused, ◌and_then◌, is_accepted}
use Rattle.cdi.specs.Text.{zero_from, is_utf8}
use Rattle.cdi.specs.Pieces.{start, finish, remark, refer, text, malformed, unsupported}
use Rattle.cdi.specs.Tree.{Nodes, end, element, other}
use Rattle.cdi.specs.Numbers.{within}
use Rattle.cdi.specs.Rules.{own_number, bounds_of}
use Rattle.cdi.specs.Walk.{Found}
use Rattle.cdi.specs.Table.{same_number, same_table, table_of}
use Rattle.cdi.specs.Plans.{place_of, variable_of}
use Rattle.cdi.specs.Planning.{Description, described}
use Rattle.cdi.specs.Values.{bytes_of, value_of, complement, uncomplement, padded, utf8}

pub record Window : Type 0 where
  pub space : ℕ
  pub first : ℕ
  pub bytes : List ℕ

pub data Value : Type 0 where
  integer : ℤ → Value
  event : ℕ → Value
  string : List ℕ → Value

-- ── what the text says of the variable ──

-- the content of the element whose `<` stands at q
unfoldable pub content_at : ℕ → Nodes → Option Nodes
content_at q end = none
content_at q (other p c following) = content_at q following
content_at q (element p n s kids following) =
    let inside = content_at q kids in
    let others = content_at q following in
    cond (eqb p q) (some kids) (cond (is_some inside) inside others)

-- the content of the child of that name
unfoldable pub child_of : List ℕ → Nodes → Option Nodes
child_of n end = none
child_of n (other p c following) = child_of n following
child_of n (element p m s kids following) = let r = child_of n following in cond (same n m) (some kids) r

-- "decoded text, comments and instructions dropped"
unfoldable pub decoded : Nodes → List ℕ
decoded end = []
decoded (element p n s kids following) = decoded following
decoded (other p (text s) following) = s ++ decoded following
decoded (other p (refer c) following) = utf8 c ++ decoded following
decoded (other p remark following) = decoded following
decoded (other p (start n s e) following) = decoded following
decoded (other p (finish n) following) = decoded following
decoded (other p malformed following) = decoded following
decoded (other p unsupported following) = decoded following

-- the contents of the properties of a map's relations
unfoldable pub properties : Nodes → List Nodes
properties end = []
properties (other p c following) = properties following
properties (element p n s kids following) =
    let others = properties following in
    cond (same n (ascii "relation")) (given (child_of (ascii "property") kids) others (λ k. k ∷ others)) others

unfoldable pub has_map : Nodes → Bool
has_map kids = is_some (child_of (ascii "map") kids)

-- a variable as its table and its text describe it
pub record Setting : Type 0 where
  pub variable : Found
  pub content : Nodes

-- ── "first 1 to 12, then 20 (the table isn't exactly the one planned from this text), 21" ──

unfoldable pub exact : List ℤ → Description → Answer Description
exact t d = cond (same_table t (table_of d.segments)) (accepted d) (refused (fault 20 0))

unfoldable pub setting_in : List ℤ → ℕ → Description → Answer Setting
setting_in t n d =
    variable_of d.segments n and_then λ v.
    accepted (record { variable = v; content = given (content_at (place_of t v.number) d.nodes) end (λ k. k) })

unfoldable pub setting_of : List ℕ → List ℤ → ℕ → Answer Setting
setting_of b t n = described b and_then exact t and_then setting_in t n

-- ── the causes from 22 on ──

-- 22 "the value's kind isn't the variable's"
unfoldable pub kind_of_value : Value → ℕ
kind_of_value (integer z) = 3
kind_of_value (string s) = 4
kind_of_value (event v) = 5

-- 23 "integer below min or above max"
unfoldable pub in_bounds : Setting → Value → Bool
in_bounds s (integer z) = let b = bounds_of s.variable.size s.content in within b.min b.max z
in_bounds s (event v) = true
in_bounds s (string t) = true

-- 25 "text holds a zero byte, isn't UTF-8, or is longer than size - 1"
unfoldable pub is_good_text : Setting → Value → Bool
is_good_text s (integer z) = true
is_good_text s (event v) = true
is_good_text s (string t) = not (any (eqb 0) t) && (is_utf8 t && ltb (length t) s.variable.size)

-- "int by number, string by decoded text"
unfoldable pub equals : Value → Nodes → Bool
equals (integer z) property = given (own_number property) false (same_number z)
equals (event v) property = false
equals (string t) property = same t (decoded property)

-- 24 "map present and no property equal". "A map without relations admits nothing."
unfoldable pub is_admitted : Setting → Value → Bool
is_admitted s v = given (child_of (ascii "map") s.content) true (λ m. any (equals v) (properties m))

-- 26 "wrong space, or not wholly inside the window"
unfoldable pub is_inside : Window → Found → Bool
is_inside w v = eqb w.space v.space && (leb w.first v.address && leb (v.address + v.size) (w.first + length w.bytes))

-- 27 "a float; when writing, also an eventid with a map"
unfoldable pub is_float : Setting → Bool
is_float s = eqb s.variable.kind 6

unfoldable pub is_mapped_event : Setting → Bool
is_mapped_event s = eqb s.variable.kind 5 && has_map s.content

-- the first cause that holds
unfoldable pub first_cause : List (Bool × ℕ) → Answer (Unit {0})
first_cause [] = accepted tt
first_cause (c ∷ cs) = let r = first_cause cs in cond c.0 (refused (fault c.1 0)) r

-- "27 .., 22 .., 23 .., 25 .., 24 .., 26"
unfoldable pub write_causes : Window → Value → Setting → List (Bool × ℕ)
write_causes w v s =
    (is_float s || is_mapped_event s, 27)
    ∷ (not (eqb (kind_of_value v) s.variable.kind), 22)
    ∷ (not (in_bounds s v), 23)
    ∷ (not (is_good_text s v), 25)
    ∷ (not (is_admitted s v), 24)
    ∷ (not (is_inside w s.variable), 26)
    ∷ []

-- ── writing ──

-- "Integers are stored big-endian over the whole size, signed ones in two's complement; an event ID as 8 bytes big-endian; text with zeros
-- to the end of its size."
unfoldable pub stored : ℕ → Value → List ℕ
stored n (integer z) = bytes_of n (complement n z)
stored n (event v) = bytes_of n v
stored n (string t) = padded n t

-- the window with these bytes from `at` on
unfoldable pub overwritten : ℕ → List ℕ → List ℕ → List ℕ
overwritten at new bytes = take at bytes ++ (new ++ drop (at + length new) bytes)

-- where the variable begins in the window
unfoldable pub start_in : Window → Found → ℕ
start_in w v = v.address - w.first

unfoldable pub written : List ℕ → List ℤ → ℕ → Window → Value → Answer (Unit {0})
written b t n w v = setting_of b t n and_then λ s. first_cause (write_causes w v s)

unfoldable pub write_into : Window → Value → Setting → List ℕ
write_into w v s =
    cond (is_accepted (first_cause (write_causes w v s)))
    (overwritten (start_in w s.variable) (stored s.variable.size v) w.bytes)
    w.bytes

-- the window's bytes afterwards
unfoldable pub window_after : List ℕ → List ℤ → ℕ → Window → Value → List ℕ
window_after b t n w v = elim (setting_of b t n) [ refused f ↦ w.bytes | accepted s ↦ write_into w v s ]

-- ── reading: "reading ends with 26, then 28" ──

-- "the number and whether writing it would be accepted"
pub record Reading : Type 0 where
  pub value : Value
  pub writable : Bool

unfoldable pub own_bytes : Window → Found → List ℕ
own_bytes w v = take v.size (drop (start_in w v) w.bytes)

-- "the part of the window before the first zero, or 28 if there is no zero or that part isn't UTF-8"
unfoldable pub text_in : List ℕ → Answer Value
text_in bytes =
    given (zero_from 0 bytes) (refused (fault 28 0)) (λ e.
    cond (is_utf8 (take e bytes)) (accepted (string (take e bytes))) (refused (fault 28 0)))

unfoldable pub value_in : Setting → List ℕ → Answer Value
value_in s bytes =
    let k = s.variable.kind in
    let n = s.variable.size in
    let as_int = accepted (integer (uncomplement (bounds_of n s.content).signed n (value_of bytes))) in
    let as_text = text_in bytes in
    let as_event = accepted (event (value_of bytes)) in
    cond (eqb k 3) as_int (cond (eqb k 4) as_text as_event)

unfoldable pub read_causes : Window → Setting → List (Bool × ℕ)
read_causes w s = (is_float s, 27) ∷ (not (is_inside w s.variable), 26) ∷ []

unfoldable pub read_from : Window → Setting → Answer Reading
read_from w s =
    first_cause (read_causes w s) and_then λ u.
    value_in s (own_bytes w s.variable) and_then λ v.
    accepted (record { value = v; writable = is_accepted (first_cause (write_causes w v s)) })

unfoldable pub read : List ℕ → List ℤ → ℕ → Window → Answer Reading
read b t n w = setting_of b t n and_then read_from w

unfoldable pub access_page : Unit {0}
unfolding content_at child_of decoded properties has_map exact setting_in setting_of kind_of_value in_bounds is_good_text equals is_admitted is_inside is_float is_mapped_event first_cause write_causes stored overwritten start_in written write_into window_after own_bytes text_in value_in read_causes read_from read
access_page = tt
