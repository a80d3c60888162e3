-- One answer: any two results that a contract allows are the same, and so is the part afterwards.
use mathlib.Core.Path.{◌≡◌, refl, sym, ap, ◌∙◌}
use mathlib.Core.List.{List}
use mathlib.Core.Bool.{Bool, true, false}
use Prim.Native.Nat.{ℕ, zero, suc, ◌<◌}
use native.Mathlib.Omega.{arith}
use lib.IntN.{ℤ, pos, negsuc, nat_abs}
use lib.ListN.{length}
use Rattle.std.specs.Prelude.{Option, Some, None}
use Rattle.cdi.specs.Text.{zero_from}
use Rattle.cdi.specs.Values.{with_sign, bytes_of, value_of, complement, uncomplement, padded}
use Rattle.cdi.proofs.Quiet.{impossible}
use Rattle.terms.specs.declared.Whole.{Whole}
use Rattle.terms.specs.Wholes.{whole_of, Plain}
use Rattle.values.specs.Held.{zero_at}

module _ {A : Type 0} {x r q : A} where
  once : r ≡ x → q ≡ x → r ≡ q
  once e f = e ∙ sym f

pub put_number_once : (n v : ℕ) (p q : List ℕ) → p ≡ bytes_of n v → q ≡ bytes_of n v → p ≡ q
put_number_once n v p q = once

pub number_in_once : (s : List ℕ) (r q : ℕ) → r ≡ value_of s → q ≡ value_of s → r ≡ q
number_in_once s r q = once

pub put_whole_once : (n : ℕ) (w : Whole) (p q : List ℕ) → p ≡ bytes_of n (complement n (whole_of w)) → q ≡ bytes_of n (complement n (whole_of w)) → p ≡ q
put_whole_once n w p q = once

pub put_text_once : (n : ℕ) (s p q : List ℕ) → p ≡ padded n s → q ≡ padded n s → p ≡ q
put_text_once n s p q = once

-- ── whole numbers ──

abbrev whole : Bool → ℕ → Whole
whole b m = record { negative = b; magnitude = m }

-- a magnitude, and a sign where zero is not negative, are known by the number
size : (b : Bool) (m : ℕ) → nat_abs (with_sign b m) ≡ m
unfolding with_sign
size false m = refl
size true zero = refl
size true (suc m) = refl

is_below : ℤ → Bool
is_below (pos m) = false
is_below (negsuc m) = true

sign : (b : Bool) (m : ℕ) → (b ≡ true → 0 < m) → is_below (with_sign b m) ≡ b
unfolding with_sign is_below
sign false m h = refl
sign true zero h = absurd (omega (arith, h refl))
sign true (suc m) h = refl

alike : (r q : Whole) → Plain r → Plain q → whole_of r ≡ whole_of q → r ≡ q
unfolding whole_of Plain
alike r q h k e =
    ap (λ b. whole b r.magnitude) (sym (sign r.negative r.magnitude h) ∙ ap is_below e ∙ sign q.negative q.magnitude k)
    ∙ ap (whole q.negative) (sym (size r.negative r.magnitude) ∙ ap nat_abs e ∙ size q.negative q.magnitude)

pub whole_in_once : (s : Bool) (p : List ℕ) (r q : Whole) → whole_of r ≡ uncomplement s (length p) (value_of p) → Plain r → whole_of q ≡ uncomplement s (length p) (value_of p) → Plain q → r ≡ q
whole_in_once s p r q e h f k = alike r q h k (once e f)

-- ── the first zero ──

zero_alike : (r q : Option ℕ) → zero_at r ≡ zero_at q → r ≡ q
unfolding zero_at
zero_alike (Some i) (Some j) e = let f : i ≡ j = cc in ap Some f
zero_alike (Some i) None e = impossible (cc)
zero_alike None (Some j) e = impossible (cc)
zero_alike None None e = refl

pub first_zero_once : (s : List ℕ) (r q : Option ℕ) → zero_at r ≡ zero_from 0 s → zero_at q ≡ zero_from 0 s → r ≡ q
first_zero_once s r q e f = zero_alike r q (once e f)
