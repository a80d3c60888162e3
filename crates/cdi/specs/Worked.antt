-- "Worked set for the definitions": P1 to P12, a single list of cases under a single statement.
use Rattle.std.specs.Prelude.{◌≡◌, refl, List, [], ◌∷◌, ◌++◌, map, true, false, ℕ, ◌-◌, ◌^◌, ℤ, pos, negsuc, replicate}
use Prim.Native.String.{String}
use Rattle.cdi.specs.Lists.{ascii, lists_page}
use Rattle.cdi.specs.Faults.{Answer, accepted, refused, faults_page}
use Rattle.cdi.specs.Text.{first_line, text_page}
use Rattle.cdi.specs.Pieces.{pieces_page}
use Rattle.cdi.specs.Markup.{markup_page}
use Rattle.cdi.specs.Tree.{tree_page}
use Rattle.cdi.specs.Numbers.{numbers_page}
use Rattle.cdi.specs.Rows.{rows_page}
use Rattle.cdi.specs.Rules.{rules_page}
use Rattle.cdi.specs.Walk.{Found, walk_page}
use Rattle.cdi.specs.Table.{table_page}
use Rattle.cdi.specs.Plans.{locating, plans_page}
use Rattle.cdi.specs.Planning.{Counts, planned, table_after, planning_page}
use Rattle.cdi.specs.Values.{with_sign, values_page}
use Rattle.cdi.specs.Access.{Window, Value, integer, string, written, window_after, access_page}

-- opens every page
unfoldable pub all_pages : Unit {0}
unfolding lists_page faults_page text_page pieces_page markup_page tree_page numbers_page rows_page rules_page walk_page table_page plans_page planning_page values_page access_page
all_pages = tt

-- "the root tag as in document 001 with one space between its attributes and double quotes", behind the first line
unfoldable pub opened : List ℕ
opened = first_line ++ ascii "<cdi xmlns:xsi=\"http://www.w3.org/2001/XMLSchema-instance\" xsi:noNamespaceSchemaLocation=\"http://openlcb.org/schema/cdi/1/3/cdi.xsd\">"

-- a text with this in its root
unfoldable pub text_with : String → List ℕ
text_with s = opened ++ (ascii s ++ (ascii "</cdi>" ++ (0 ∷ [])))

-- Text T
unfoldable pub T : List ℕ
T = text_with "<segment space=\"253\" origin=\"128\"><int/><group replication=\"3\" offset=\"2\"><eventid/><int size=\"2\" offset=\"-1\"/></group><string size=\"10\"/></segment>"

-- a text with one variable, at address 0 of space 1
unfoldable pub single : String → List ℕ
single s = opened ++ (ascii "<segment space=\"1\">" ++ (ascii s ++ (ascii "</segment></cdi>" ++ (0 ∷ []))))

-- what a case asks: a text planned with room for n numbers; variable n of that text's table; a value written to a single variable
pub data Ask : Type 0 where
  plans : List ℕ → ℕ → Ask
  locates : List ℕ → ℕ → ℕ → Ask
  writes : String → Value → Ask

-- what it is told, a refusal's number and place or the numbers of the answer; and all of the lent memory afterwards
pub data Told : Type 0 where
  refusal : ℕ → ℕ → List ℤ → Told
  values : List ℤ → List ℤ → Told

unfoldable pub told_of : {A : Type 0} → (A → List ℕ) → List ℤ → Answer A → Told
told_of numbers memory (accepted a) = values (map pos (numbers a)) memory
told_of numbers memory (refused f) = refusal f.number f.place memory

-- "the number of records and of variables"
unfoldable pub counts_told : Counts → List ℕ
counts_told c = c.records ∷ c.variables ∷ []

-- record, space, address, size and kind
unfoldable pub found_told : Found → List ℕ
found_told v = v.number ∷ v.space ∷ v.address ∷ v.size ∷ v.kind ∷ []

unfoldable pub lent : ℕ → List ℤ
lent n = replicate n (pos 0)

-- a window of nine bytes that begins at the variable, with letters left in it
unfoldable pub window : Window
window = record { space = 1; first = 0; bytes = ascii "leftovers" }

unfoldable pub answer : Ask → Told
answer (plans b n) = told_of counts_told (table_after b (lent n)) (planned b (lent n))
answer (locates b n k) = told_of found_told [] (locating (table_after b (lent n)) k)
answer (writes s v) =
    let t = table_after (single s) (lent 16) in
    told_of (λ u. []) (map pos (window_after (single s) t 0 window v)) (written (single s) t 0 window v)

-- a variable found, and a window afterwards
abbrev pub found_as : List ℕ → Told
found_as ns = values (map pos ns) []

abbrev pub stored_as : List ℕ → Told
stored_as bytes = values [] (map pos bytes)

-- a refused write leaves the window as it was
abbrev pub refused_by : ℕ → Told
refused_by n = refusal n 0 (map pos (ascii "leftovers"))

unfoldable pub cases : List (Ask × Told)
cases =
    -- P1
    (
      plans T 48,
      values (pos 6 ∷ pos 8 ∷ []) (
          pos 1 ∷ pos 155 ∷ pos 128 ∷ pos 253 ∷ pos 1 ∷ pos 6 ∷ pos 8 ∷ pos 40
          ∷ pos 3 ∷ pos 189 ∷ pos 0 ∷ pos 1 ∷ pos 1 ∷ pos 2 ∷ pos 1 ∷ pos 1
          ∷ pos 2 ∷ pos 195 ∷ pos 2 ∷ pos 0 ∷ pos 3 ∷ pos 5 ∷ pos 6 ∷ pos 29
          ∷ pos 5 ∷ pos 229 ∷ pos 0 ∷ pos 8 ∷ pos 1 ∷ pos 4 ∷ pos 1 ∷ pos 8
          ∷ pos 3 ∷ pos 239 ∷ negsuc 0 ∷ pos 2 ∷ pos 1 ∷ pos 5 ∷ pos 1 ∷ pos 1
          ∷ pos 4 ∷ pos 274 ∷ pos 0 ∷ pos 10 ∷ pos 1 ∷ pos 6 ∷ pos 1 ∷ pos 10
          ∷ []),
    )
    -- P2
    ∷ (locates T 48 0, found_as (1 ∷ 253 ∷ 128 ∷ 1 ∷ 3 ∷ []))
    ∷ (locates T 48 1, found_as (3 ∷ 253 ∷ 131 ∷ 8 ∷ 5 ∷ []))
    ∷ (locates T 48 2, found_as (4 ∷ 253 ∷ 138 ∷ 2 ∷ 3 ∷ []))
    ∷ (locates T 48 3, found_as (3 ∷ 253 ∷ 140 ∷ 8 ∷ 5 ∷ []))
    ∷ (locates T 48 4, found_as (4 ∷ 253 ∷ 147 ∷ 2 ∷ 3 ∷ []))
    ∷ (locates T 48 5, found_as (3 ∷ 253 ∷ 149 ∷ 8 ∷ 5 ∷ []))
    ∷ (locates T 48 6, found_as (4 ∷ 253 ∷ 156 ∷ 2 ∷ 3 ∷ []))
    ∷ (locates T 48 7, found_as (5 ∷ 253 ∷ 158 ∷ 10 ∷ 4 ∷ []))
    -- P3
    ∷ (locates T 48 8, refusal 21 0 [])
    -- P4 to P10
    ∷ (writes "<int size=\"2\"/>" (integer (with_sign false 300)), stored_as (0x01 ∷ 0x2C ∷ ascii "ftovers"))
    ∷ (writes "<int><min>-5</min></int>" (integer (with_sign true 1)), stored_as (0xFF ∷ ascii "eftovers"))
    ∷ (writes "<int/>" (integer (with_sign false 256)), refused_by 23)
    ∷ (writes "<int size=\"8\"/>" (integer (with_sign false (2 ^ 64 - 1))), stored_as (replicate 8 0xFF ++ ascii "s"))
    ∷ (plans (single "<int><min>-1</min><max>128</max></int>") 16, refusal 10 192 (lent 16))
    ∷ (writes "<string size=\"4\"/>" (string (ascii "AB")), stored_as (0x41 ∷ 0x42 ∷ 0x00 ∷ 0x00 ∷ ascii "overs"))
    ∷ (writes "<string size=\"4\"/>" (string (ascii "ABCD")), refused_by 25)
    -- P11, P12
    ∷ (plans [] 0, refusal 1 0 [])
    ∷ (plans (0 ∷ []) 0, refusal 3 0 [])
    ∷ []

pub worked : map (λ c. answer c.0) cases ≡ map (λ c. c.1) cases
unfolding all_pages opened text_with T single told_of counts_told found_told lent window answer cases
worked = refl
