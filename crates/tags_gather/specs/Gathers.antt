-- What one reading of a tag's attributes tells of all of them.
use Rattle.std.specs.Prelude.{◌≡◌, List, ℕ, length}
use Rattle.cdi.specs.Lists.{any, all}
use Rattle.cdi.specs.Pieces.{Attribute}
use Rattle.cdi.specs.Markup.{refers}
use Rattle.rules_judge.specs.Tables.{rule_at, attribute_of, has_number, int_size}
use Rattle.tags_values.specs.Codes.{Celled}
use Rattle.tags_cells.specs.Cells.{has_one, known_twice}
use Rattle.tags_gather.specs.declared.Gathered.{Gathered}

-- the attributes s of a tag of element e: how many they are, whether `&` stands in a value, whether the element knows them all, whether one of
-- the known names stands twice, whether a name is none of these, the exact size, and the cells
pub record Gathers (e : ℕ) (s : List Attribute) (r : Gathered) (codes amounts : List ℕ) : Type 0 where
  pub count : r.count ≡ length s
  pub refer : r.refers ≡ refers s
  pub know : r.known ≡ all (has_number (attribute_of (rule_at e 0)) (attribute_of (rule_at e 1)) (attribute_of (rule_at e 2))) s
  pub again : r.again ≡ known_twice s
  pub strange : r.strange ≡ any (has_one 0) s
  pub exact : r.exact ≡ int_size s
  pub cells : Celled codes amounts s
