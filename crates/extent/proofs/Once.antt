-- One answer: any two outcomes that a public function's contract allows are equal.
use mathlib.Core.Path.{◌≡◌, sym, ◌∙◌}
use mathlib.Core.Bool.{Bool}
use Prim.Native.Nat.{ℕ}
use lib.IntN.{ℤ, neg_ℤ}
use Rattle.cdi.specs.Rules.{natural}
use Rattle.extent.specs.Reach.{nowhere, by_offset, by_size, join, repeat, fits_at, held}
use Rattle.extent.specs.declared.Extent.{Extent}

once : {A : Type 0} {x y z : A} → x ≡ z → y ≡ z → x ≡ y
once p q = p ∙ sym q

pub rise_once : (z : ℤ) (r s : ℕ) → r ≡ natural z → s ≡ natural z → r ≡ s
rise_once z r s p q = once p q

pub fall_once : (z : ℤ) (r s : ℕ) → r ≡ natural (neg_ℤ z) → s ≡ natural (neg_ℤ z) → r ≡ s
fall_once z r s p q = once p q

pub nothing_once : (r s : Extent) → r ≡ nowhere → s ≡ nowhere → r ≡ s
nothing_once r s p q = once p q

pub moved_once : (o : ℤ) (r s : Extent) → r ≡ held (by_offset o) → s ≡ held (by_offset o) → r ≡ s
moved_once o r s p q = once p q

pub stood_once : (n : ℕ) (r s : Extent) → r ≡ held (by_size n) → s ≡ held (by_size n) → r ≡ s
stood_once n r s p q = once p q

pub joined_once : (e f r s : Extent) → r ≡ held (join e f) → s ≡ held (join e f) → r ≡ s
joined_once e f r s p q = once p q

pub repeated_once : (n : ℕ) (e r s : Extent) → r ≡ held (repeat n e) → s ≡ held (repeat n e) → r ≡ s
repeated_once n e r s p q = once p q

pub fits_once : (n : ℕ) (e : Extent) (r s : Bool) → r ≡ fits_at n e → s ≡ fits_at n e → r ≡ s
fits_once n e r s p q = once p q
