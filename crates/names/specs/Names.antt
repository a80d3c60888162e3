-- The names of elements and attributes, in the order of document 01's table of elements.
use Rattle.std.specs.Prelude.{List, [], ◌∷◌, map, cond, ℕ, ◌+◌, take, drop}
use Rattle.cdi.specs.Lists.{ascii, same}

-- those that have a row, and then: "All other elements hold text only"
unfoldable pub element_names : List (List ℕ)
element_names =
    map ascii ("cdi" ∷ "identification" ∷ "acdi" ∷ "segment" ∷ "group" ∷ "int" ∷ "string" ∷ "eventid" ∷ "float" ∷ "map" ∷ "relation"
    ∷ "manufacturer" ∷ "model" ∷ "hardwareVersion" ∷ "softwareVersion" ∷ "name" ∷ "description" ∷ "repname" ∷ "min" ∷ "max" ∷ "default" ∷ "property" ∷ "value" ∷ [])

unfoldable pub attribute_names : List (List ℕ)
attribute_names =
    map ascii ("xmlns:xsi" ∷ "xsi:noNamespaceSchemaLocation" ∷ "fixed" ∷ "var" ∷ "space" ∷ "origin" ∷ "replication" ∷ "offset" ∷ "size" ∷ "formatting" ∷ [])

-- the position of the name n in a list, counted from 1, where k names stand before the list; or 0
unfoldable pub number_among : List ℕ → ℕ → List (List ℕ) → ℕ
number_among n k [] = 0
number_among n k (w ∷ ws) = let r = number_among n (k + 1) ws in cond (same n w) (k + 1) r

-- among c names, from the one on that has i before it
unfoldable pub number_in : List (List ℕ) → ℕ → ℕ → List ℕ → ℕ
number_in ws i c n = number_among n i (take c (drop i ws))

unfoldable pub element_number : List ℕ → ℕ
element_number n = number_among n 0 element_names

unfoldable pub attribute_number : List ℕ → ℕ
attribute_number n = number_among n 0 attribute_names

-- opens this page, to compute the number of a fixed name
unfoldable pub names_page : Unit {0}
unfolding same element_names attribute_names number_among number_in element_number attribute_number
names_page = tt
