-- A length that was read has room.
use mathlib.Core.Path.{◌≡◌, ap, sym, ◌∙◌}
use mathlib.Core.Bool.{true}
use Prim.Native.Nat.{ℕ, ◌≤◌}
use borrow.Author.Rules.{rules}
use borrow.Author.Tests.{leb-true}
use Rattle.frames.specs.Limits.{keeps}
use Rattle.std.specs.Prelude.{Option, Some}

pub kept : (limit n : ℕ) (r : Option ℕ) → keeps limit r ≡ true → r ≡ Some n → n ≤ limit
unfolding keeps
kept limit n r k e = leb-true n limit (sym (ap (keeps limit) e) ∙ k)

pub ruleset room = (kept, rules)
