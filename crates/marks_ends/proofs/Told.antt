-- What a caller takes from an end tag.
use mathlib.Core.Path.{◌≡◌, refl}
use mathlib.Core.List.{List}
use mathlib.Core.Bool.{Bool, true, false, cond}
use mathlib.Core.Logic.{◌⊎◌, inl, inr, ⊎_elim}
use Prim.Native.Nat.{ℕ, ◌+◌, ◌-◌, ◌<◌}
use native.Mathlib.Omega.{arith}
use Rattle.cdi.specs.Lists.{same}
use Rattle.scan.proofs.Tests.{eq_or_ne}
use Rattle.pieces_cuts.specs.Places.{part}
use Rattle.pieces_cuts.specs.Cuts.{Stands}
use Rattle.marks_cuts.specs.Marks.{finish_cut, bad_cut}
use Rattle.marks_ends.specs.Ends.{Closes}

module _ {s : List ℕ} {from to at k n e : ℕ} (v : Closes s from to at k n e) where
  -- a number that isn't 4 tells whether the names are the same
  named : (k ≡ 4 → ⊥) → ((k ≡ 0) × (same (part s from to) (part s (at + 2) n) ≡ true)) ⊎ ((k ≡ 6) × (same (part s from to) (part s (at + 2) n) ≡ false))
  named z = by (same (part s from to) (part s (at + 2) n)) refl (v.number z)
    where
      by : (b : Bool) → same (part s from to) (part s (at + 2) n) ≡ b → k ≡ cond b 0 6
          → ((k ≡ 0) × (same (part s from to) (part s (at + 2) n) ≡ true)) ⊎ ((k ≡ 6) × (same (part s from to) (part s (at + 2) n) ≡ false))
      by true e f = inl (f, e)
      by false e f = inr (f, e)

  pub close_bad : k ≡ 4 → Stands s at (bad_cut s at)
  close_bad z = v.bad z

  module _ (z : k ≡ 0) where
    pub own_tag : Stands s at (finish_cut at n e)
    own_tag = v.tag (λ y. omega arith)

    pub own_name : same (part s from to) (part s (at + 2) n) ≡ true
    own_name = ⊎_elim (λ p. p.1) (λ p. absurd (omega (arith, p.0))) (named (λ y. omega arith))

    pub own_ahead : at < e
    own_ahead = own_tag.cut.low

  module _ (z : k ≡ 6) where
    pub other_tag : Stands s at (finish_cut at n e)
    other_tag = v.tag (λ y. omega arith)

    pub other_name : same (part s from to) (part s (at + 2) n) ≡ false
    other_name = ⊎_elim (λ p. absurd (omega (arith, p.0))) (λ p. p.1) (named (λ y. omega arith))

  -- there is no other number
  pub close_refused : (k ≡ 0 → ⊥) → (k ≡ 4) ⊎ (k ≡ 6)
  close_refused z = ⊎_elim inl (λ y. ⊎_elim (λ p. absurd (z p.0)) (λ p. inr p.0) (named y)) (eq_or_ne k 4)
