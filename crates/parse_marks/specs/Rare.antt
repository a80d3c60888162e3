-- A piece that is neither a tag nor a run of text.
use Rattle.std.specs.Prelude.{◌≡◌, List, Bool, true, false, ℕ}
use Rattle.pieces_cuts.specs.Cuts.{Stands}
use Rattle.pieces_cuts.specs.declared.Kind.{Kind}
use Rattle.pieces_cuts.specs.declared.Kind.TheVariants.{Start, Finish, Remark, Refer, Text, Malformed, Unsupported}
use Rattle.pieces_cuts.specs.declared.Cut.{Cut}

-- the number of its refusal; of tags and runs of text nothing is asked
unfoldable pub rare_fault : Kind → ℕ
rare_fault Start = 0
rare_fault Finish = 0
rare_fault Remark = 0
rare_fault Refer = 0
rare_fault Text = 0
rare_fault Malformed = 4
rare_fault Unsupported = 5

unfoldable pub is_refer : Kind → Bool
is_refer Start = false
is_refer Finish = false
is_refer Remark = false
is_refer Refer = true
is_refer Text = false
is_refer Malformed = false
is_refer Unsupported = false

-- the piece that stands at a place, by these
pub record Rares (s : List ℕ) (at n e : ℕ) (refers : Bool) : Type 0 where
  pub cut : Cut
  pub stands : Stands s at cut
  pub number : n ≡ rare_fault cut.kind
  pub end : e ≡ cut.end
  pub refer : refers ≡ is_refer cut.kind
