-- One answer: any two ranges that the contract of `range_of` allows are equal.
use mathlib.Core.Path.{◌≡◌, refl, sym, ap, ◌∙◌}
use mathlib.Core.Bool.{Bool, true, false}
use Prim.Native.Nat.{ℕ, zero, suc}
use lib.IntN.{nat_abs}
use Rattle.cdi.specs.Rules.{smallest, largest}
use Rattle.cdi.specs.Values.{with_sign}
use Rattle.numbers.specs.Held.{low_of, high_of}
use Rattle.numbers.specs.declared.Range.{Range}

abbrev range : Bool → ℕ → ℕ → Range
range b l h = record { negative = b; low = l; high = h }

-- a magnitude is known by the number
magnitude : (b : Bool) (m : ℕ) → nat_abs (with_sign b m) ≡ m
unfolding with_sign
magnitude false m = refl
magnitude true zero = refl
magnitude true (suc m) = refl

pub range_of_once : (signed : Bool) (n : ℕ) {q r : Range} → q.negative ≡ signed → low_of q ≡ smallest signed n → high_of q ≡ largest signed n
    → r.negative ≡ signed → low_of r ≡ smallest signed n → high_of r ≡ largest signed n → q ≡ r
unfolding low_of high_of
range_of_once signed n {q} {r} a l h b m k =
    ap (λ x. range x q.low q.high) (a ∙ sym b)
    ∙ ap (λ x. range r.negative x q.high) (sym (magnitude q.negative q.low) ∙ ap nat_abs (l ∙ sym m) ∙ magnitude r.negative r.low)
    ∙ ap (range r.negative r.low) (ap nat_abs (h ∙ sym k))
