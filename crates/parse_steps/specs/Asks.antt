-- What a piece asks for, and the fault of a start tag.
use Rattle.std.specs.Prelude.{cond, Bool, ℕ, ltb, eqb}
use Rattle.pieces_cuts.specs.declared.Kind.{Kind}
use Rattle.pieces_cuts.specs.declared.Kind.TheVariants.{Start, Finish, Remark, Refer, Text, Malformed, Unsupported}
use Rattle.parse_steps.specs.declared.Step.{Step}
use Rattle.parse_steps.specs.declared.Step.TheVariants.{Child, Close, Pass, Stop}
use Rattle.parse_steps.specs.declared.Around.{Around}
use Rattle.parse_steps.specs.declared.Around.TheVariants.{Root, Skip, Stray}

-- what a piece inside the root asks for: an element begins, an element ends, the piece is passed, or it is refused with that number
unfoldable pub step_of : Kind → Step
step_of Start = Child
step_of Finish = Close
step_of Remark = Pass
step_of Refer = Pass
step_of Text = Pass
step_of Malformed = Stop 4
step_of Unsupported = Stop 5

-- what a piece at that place outside the root asks for, where its first byte that isn't blank stands at `solid`, and its end is `stop`:
-- the root begins, the piece is passed, or it is refused with that number and place
unfoldable pub around_of : Kind → ℕ → ℕ → ℕ → Around
around_of Start at solid stop = Root
around_of Finish at solid stop = Stray 6 at
around_of Remark at solid stop = Skip
around_of Refer at solid stop = Stray 6 at
around_of Text at solid stop = cond (ltb solid stop) (Stray 6 solid) Skip
around_of Malformed at solid stop = Stray 4 at
around_of Unsupported at solid stop = Stray 5 at

-- the number of a start tag's own fault, or 0: `&` in an attribute, depth 25, a second root, element 4,097. With 24 levels left nothing is open
unfoldable pub begin_fault : Bool → ℕ → ℕ → ℕ
begin_fault refers left begun = cond refers 5 (cond (eqb left 0) 7 (cond (eqb begun 0) 0 (cond (eqb left 24) 6 (cond (ltb begun 4096) 0 7))))
