-- "The order and number of children stand in one fixed table of rules per element."
use Rattle.std.specs.Prelude.{List, [], ◌∷◌, map, Bool, true, false, cond, ℕ, ℤ, pos, neg_ℤ}
use Prim.Native.String.{String}
use Rattle.cdi.specs.Limits.{most_space, most_origin, most_replication, most_text_size, lowest_offset, highest_offset}
use Rattle.cdi.specs.Lists.{ascii, same}

-- what an attribute's text must be
pub data Form : Type 0 where
  -- exactly this text
  fixed : String → Form
  -- a number from the one to the other
  range : ℤ → ℤ → Form
  -- one of these texts, blanks at its ends aside
  size : List String → Form
  -- "`%`, any digits or none, optionally `.` and any digits or none, then `f`"
  formatting : Form

pub record AttributeRule : Type 0 where
  pub name : List ℕ
  pub required : Bool
  pub form : Form

-- an entry in the order of the children: the names that may stand there, whether one must, and whether more than one may
pub record ChildRule : Type 0 where
  pub names : List (List ℕ)
  pub needed : Bool
  pub many : Bool

pub record Row : Type 0 where
  pub name : List ℕ
  pub attributes : List AttributeRule
  pub children : List ChildRule
  -- whether it holds text
  pub text : Bool

unfoldable pub required : String → Form → AttributeRule
required n f = record { name = ascii n; required = true; form = f }

unfoldable pub optional : String → Form → AttributeRule
optional n f = record { name = ascii n; required = false; form = f }

-- "?" in the table
unfoldable pub maybe : String → ChildRule
maybe n = record { names = ascii n ∷ []; needed = false; many = false }

-- "*" in the table
unfoldable pub each : String → ChildRule
each n = record { names = ascii n ∷ []; needed = false; many = true }

-- "one each"
unfoldable pub one : String → ChildRule
one n = record { names = ascii n ∷ []; needed = true; many = false }

-- "Data is any mix of group, int, string, eventid, float."
unfoldable pub data_names : List (List ℕ)
data_names = map ascii ("group" ∷ "int" ∷ "string" ∷ "eventid" ∷ "float" ∷ [])

unfoldable pub any_data : ChildRule
any_data = record { names = data_names; needed = false; many = true }

unfoldable pub row : String → List AttributeRule → List ChildRule → Row
row n s c = record { name = ascii n; attributes = s; children = c; text = false }

unfoldable pub byte_range : Form
byte_range = range (pos 0) (pos most_space)

-- "Offset is a 32-bit signed number, else 0."
unfoldable pub offset : AttributeRule
offset = optional "offset" (range (neg_ℤ (pos lowest_offset)) (pos highest_offset))

-- "An int's size is exactly the text 1, 2, 4 or 8, a float's 2, 4 or 8"
unfoldable pub int_sizes : List String
int_sizes = "1" ∷ "2" ∷ "4" ∷ "8" ∷ []

unfoldable pub float_sizes : List String
float_sizes = "2" ∷ "4" ∷ "8" ∷ []

unfoldable pub numeric_children : List ChildRule
numeric_children = maybe "name" ∷ maybe "description" ∷ maybe "min" ∷ maybe "max" ∷ maybe "default" ∷ maybe "map" ∷ []

-- "`xmlns:xsi` is `http://www.w3.org/2001/XMLSchema-instance`; `xsi:noNamespaceSchemaLocation` is `http://openlcb.org/schema/cdi/1/3/cdi.xsd`,
-- in either order."
unfoldable pub root_attributes : List AttributeRule
root_attributes =
    required "xmlns:xsi" (fixed "http://www.w3.org/2001/XMLSchema-instance")
    ∷ required "xsi:noNamespaceSchemaLocation" (fixed "http://openlcb.org/schema/cdi/1/3/cdi.xsd")
    ∷ []

unfoldable pub rows : List Row
rows =
    row "cdi" root_attributes (maybe "identification" ∷ maybe "acdi" ∷ each "segment" ∷ [])
    ∷ row "identification" [] (maybe "manufacturer" ∷ maybe "model" ∷ maybe "hardwareVersion" ∷ maybe "softwareVersion" ∷ maybe "map" ∷ [])
    ∷ row "acdi" (optional "fixed" byte_range ∷ optional "var" byte_range ∷ []) []
    ∷ row "segment" (required "space" byte_range ∷ optional "origin" (range (pos 0) (pos most_origin)) ∷ []) (maybe "name" ∷ maybe "description" ∷ any_data ∷ [])
    ∷ row "group" (optional "replication" (range (pos 1) (pos most_replication)) ∷ offset ∷ []) (maybe "name" ∷ maybe "description" ∷ maybe "repname" ∷ any_data ∷ [])
    ∷ row "int" (optional "size" (size int_sizes) ∷ offset ∷ []) numeric_children
    ∷ row "string" (required "size" (range (pos 1) (pos most_text_size)) ∷ offset ∷ []) (maybe "name" ∷ maybe "description" ∷ maybe "map" ∷ [])
    ∷ row "eventid" (offset ∷ []) (maybe "name" ∷ maybe "description" ∷ maybe "map" ∷ [])
    ∷ row "float" (required "size" (size float_sizes) ∷ offset ∷ optional "formatting" formatting ∷ []) numeric_children
    ∷ row "map" [] (maybe "name" ∷ maybe "description" ∷ each "relation" ∷ [])
    ∷ row "relation" [] (one "property" ∷ one "value" ∷ [])
    ∷ []

-- "All other elements hold text only, without children or attributes."
unfoldable pub text_row : List ℕ → Row
text_row n = record { name = n; attributes = []; children = []; text = true }

unfoldable pub row_among : List Row → List ℕ → Row
row_among [] n = text_row n
row_among (r ∷ rs) n = let others = row_among rs n in cond (same n r.name) r others

-- the row of an element's name
unfoldable pub row_of : List ℕ → Row
row_of n = row_among rows n

-- "A root other than cdi is an unknown element": the text itself has the one child
unfoldable pub document_row : Row
document_row = row "" [] (one "cdi" ∷ [])

unfoldable pub rows_page : Unit {0}
unfolding required optional maybe each one data_names any_data row byte_range offset int_sizes float_sizes numeric_children root_attributes rows text_row row_among row_of document_row
rows_page = tt
