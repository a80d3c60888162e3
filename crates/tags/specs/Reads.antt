-- What reading a start tag tells.
use Rattle.std.specs.Prelude.{◌≡◌, List, Bool, false, cond, ℕ, ◌≤◌, ◌<◌, eqb, pos, length, drop}
use Rattle.std.proofs.Math.Option.{Option, none, some}
use Rattle.cdi.specs.Lists.{all, is_empty, after}
use Rattle.cdi.specs.Faults.{least}
use Rattle.cdi.specs.Pieces.{blank, attributes, tag_end, twice}
use Rattle.cdi.specs.Markup.{refers}
use Rattle.cdi.specs.Rules.{attribute_faults}
use Rattle.keys.specs.Keys.{fault_in}
use Rattle.pieces_cuts.specs.Places.{closing}
use Rattle.rules_judge.specs.Judging.{row_at}
use Rattle.rules_judge.specs.Tables.{rule_at, attribute_of, has_number, int_size}
use Rattle.tally_tag.specs.Numbered.{numbers_by}
use Rattle.tags_faults.specs.Told.{Coded}
use Rattle.tags_numbers.specs.Given.{given_by, Bounded}
use Rattle.tags.specs.declared.Tag.{Tag}

-- the end behind a tag's last attribute: its place, and whether the tag is in the short form; 0 where it has none
pub record Ends (s : List ℕ) (at e : ℕ) (short : Bool) : Type 0 where
  pub is : closing (after blank (drop at s)) ≡ cond (eqb e 0) none (some (short, drop e s))
  pub low : (e ≡ 0 → ⊥) → at < e
  pub high : e ≤ length s
  pub none' : e ≡ 0 → short ≡ false

-- no tag
abbrev pub no_tag : Tag
no_tag = record { end = 0; short = false; refers = false; bare = false; exact = 0; told = 0xFFFF_FFFF_FFFF_FFFF; given = record { address = pos 0; width = 0; copies = 0 } }

-- where a tag closes whose name ends before n, unless a name stands twice in it
unfoldable pub close_of : List ℕ → ℕ → Option (Bool × List ℕ)
close_of s n = cond (twice (attributes n 0 (drop n s))) none (tag_end 0 (drop n s))

-- the codes, the exact size and whether the element knows them all are those of a tag's attributes, in which no name stands twice
pub record Says (s : List ℕ) (n e : ℕ) (codes : List ℕ) (exact : ℕ) (known : Bool) : Type 0 where
  pub coded : Coded codes (attributes n 0 (drop n s))
  pub size : exact ≡ int_size (attributes n 0 (drop n s))
  pub know : known ≡ all (has_number (attribute_of (rule_at e 0)) (attribute_of (rule_at e 1)) (attribute_of (rule_at e 2))) (attributes n 0 (drop n s))
  pub once : twice (attributes n 0 (drop n s)) ≡ false

-- the start tag at a place of element e, whose name ends before n: where it ends, and what its attributes say; its end is 0 where it is malformed
pub record Reads (s : List ℕ) (at n e : ℕ) (r : Tag) : Type 0 where
  pub closes : close_of s n ≡ cond (eqb r.end 0) none (some (r.short, drop r.end s))
  pub low : (r.end ≡ 0 → ⊥) → n < r.end
  pub high : r.end ≤ length s
  pub none' : r.end ≡ 0 → r ≡ no_tag
  pub refer : (r.end ≡ 0 → ⊥) → r.refers ≡ refers (attributes n 0 (drop n s))
  pub alone : (r.end ≡ 0 → ⊥) → r.bare ≡ is_empty (attributes n 0 (drop n s))
  pub told' : (r.end ≡ 0 → ⊥) → fault_in r.told ≡ least (attribute_faults at (row_at e) (attributes n 0 (drop n s)))
  pub size : (r.end ≡ 0 → ⊥) → r.exact ≡ int_size (attributes n 0 (drop n s))
  pub numbers : (r.end ≡ 0 → ⊥) → r.given ≡ given_by e (numbers_by e (attributes n 0 (drop n s)))
  pub bounded : (r.end ≡ 0 → ⊥) → Bounded e r.given
