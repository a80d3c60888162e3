-- Answers that show a fact.
use mathlib.Core.Path.{◌≡◌, sym, ◌∙◌}
use mathlib.Core.Bool.{Bool, true, false}
use borrow.Author.Rules.{rules}
use Rattle.cdi.proofs.Quiet.{impossible}
use Rattle.pieces_attributes.specs.Answers.{Shows}

pub shows_nothing : (P : Type 0) → Shows false P
shows_nothing P = record { is = λ e. impossible (cc) }

pub shows_equal : {a r : Bool} → a ≡ r → Shows a (r ≡ true)
shows_equal e = record { is = λ t. sym e ∙ t }

pub ruleset showing = (shows_nothing, shows_equal, rules)
