-- The judge of the text itself has no fault yet.
use mathlib.Core.Path.{◌≡◌, refl, ap, ◌∙◌}
use mathlib.Core.Bool.{false}
use borrow.Author.Rules.{rules}
use Rattle.keys.specs.Keys.{fault_in}
use Rattle.rules_judge.specs.Judging.{Least, to_least, fresh}
use Rattle.std.specs.Prelude.{None}
use Rattle.judges_state.specs.declared.Judge.{Judge}
use Rattle.judges_state.specs.Decoded.{least_in, judge_of}

nothing_yet : least_in 0xFFFF_FFFF_FFFF_FFFF ≡ None
unfolding least_in fault_in to_least
nothing_yet = refl

pub started : (r : Judge) → judge_of r ≡ fresh (least_in 0xFFFF_FFFF_FFFF_FFFF) 0 false → judge_of r ≡ fresh None 0 false
started r e = e ∙ ap (λ (l : Least). fresh l 0 false) nothing_yet

pub ruleset starting = (started, rules)
