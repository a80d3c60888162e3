-- What was read lies in the slice.
use mathlib.Core.Path.{◌≡◌, refl, sym, ap, ◌∙◌}
use mathlib.Core.Bool.{true}
use Prim.Native.Nat.{ℕ, ◌≤◌}
use borrow.Author.Rules.{rules}
use borrow.Author.Tests.{le-leb, leb-true}
use Rattle.std.specs.Prelude.{Option, Some, None}
use Rattle.list.specs.Sizes.{within}

pub is_within : (m n : ℕ) → n ≤ m → within m (Some n) ≡ true
unfolding within
is_within m n h = le-leb n m h

pub failed_within : (m : ℕ) → within m None ≡ true
unfolding within
failed_within m = refl

pub in_slice : (m n : ℕ) {a : Option ℕ} → within m a ≡ true → a ≡ Some n → n ≤ m
unfolding within
in_slice m n h q = leb-true n m (sym (ap (within m) q) ∙ h)

pub ruleset reading = (is_within, failed_within, in_slice, rules)
