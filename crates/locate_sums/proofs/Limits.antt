-- Extents within the limits, and the code that tests them.
use mathlib.Core.Path.{◌≡◌, refl, sym, ap, ◌∙◌}
use mathlib.Core.List.{List}
use mathlib.Core.Bool.{Bool, true, false, ◌&&◌, cond}
use Prim.Native.Nat.{ℕ, zero, suc, ◌+◌, ◌^◌, ◌≤◌, ◌<◌, min}
use native.Mathlib.Omega.{arith}
use native.Mathlib.Decide.{dec_lt}
use borrow.Author.Rules.{rules}
use borrow.Author.Tests.{le-leb, lt-leb, leb-true, ne_eqb}
use lib.Dec.{eqb, leb}
use lib.IntN.{ℤ, pos, neg_ℤ}
use mir.Syntax.{w64}
use mir.Val.{SFits}
use Rattle.cdi.specs.Rules.{natural}
use Rattle.cdi.specs.Table.{same_number}
use Rattle.cdi.specs.Plans.{field}
use Rattle.cdi.proofs.Tests.{parts, both}
use Rattle.extent.specs.Reach.{Sound, Small, by_offset, by_size, join, repeat, held, too_wide}
use Rattle.extent.specs.declared.Extent.{Extent}
use Rattle.extent.proofs.Signed.{read, read_is}
use Rattle.extent.proofs.Reached.{iff}
use Rattle.extent.proofs.Holding.{wide_held, plain_held, held_join}
use Rattle.locate_sums.specs.Sums.{limited, tells, element_extent, added_of}
use Rattle.std.specs.Prelude.{Some, None}
use Rattle.locate_rows.proofs.Numbers.{nots}

pub record Limited (e : Extent) : Type 0 where
  pub spans : e.span ≤ 2 ^ 32
  pub counts : e.count ≤ 1000000

pub limited_of : (e : Extent) → limited e ≡ true → Limited e
unfolding limited
limited_of e h = let p = parts (leb e.span (2 ^ 32)) (leb e.count 1000000) h in record { spans = leb-true _ _ p.0; counts = leb-true _ _ p.1 }

pub of_limited : (e : Extent) → Limited e → limited e ≡ true
unfolding limited
of_limited e h = both (le-leb _ _ h.spans) (le-leb _ _ h.counts)

pub small_of : (e : Extent) → Sound e → limited e ≡ true → Small e
small_of e s h = let l = limited_of e h in record { start = s.start; finish = s.finish; spans = omega arith; counts = omega arith }

-- ── parts of what keeps the limits ──

pub limited_first : (p q : Extent) → limited (join p q) ≡ true → limited p ≡ true
unfolding join
limited_first p q h = let l = limited_of (join p q) h in of_limited p (record { spans = omega arith; counts = omega arith })

pub limited_second : (p q : Extent) → limited (join p q) ≡ true → limited q ≡ true
unfolding join
limited_second p q h = let l = limited_of (join p q) h in of_limited q (record { spans = omega arith; counts = omega arith })

pub limited_once : (r : ℕ) (e : Extent) → 1 ≤ r → limited (repeat r e) ≡ true → limited e ≡ true
unfolding repeat
limited_once zero e b h = absurd (omega arith)
limited_once (suc r) e b h = let l = limited_of (repeat (suc r) e) h in of_limited e (record { spans = omega arith; counts = omega arith })

-- ── what the code holds of it ──

pub held_is : (e : Extent) → limited e ≡ true → held e ≡ e
held_is e h = let l = limited_of e h in plain_held e l.spans ∙ rw (capped l)
  where
    capped : Limited e → min e.count 1000001 ≡ e.count
    capped l = omega arith

pub held_limited : (e : Extent) → limited (held e) ≡ limited e
unfolding limited too_wide
held_limited e = by (dec_lt (2 ^ 32) e.span)
  where
    capped : leb (min e.count 1000001) 1000000 ≡ leb e.count 1000000
    capped =
        iff (leb (min e.count 1000001) 1000000) (leb e.count 1000000)
        (λ h. le-leb e.count 1000000 (omega (arith, leb-true (min e.count 1000001) 1000000 h)))
        (λ h. le-leb (min e.count 1000001) 1000000 (omega (arith, leb-true e.count 1000000 h)))

    by : Dec (2 ^ 32 < e.span) → limited (held e) ≡ limited e
    by (yes w) = rw (wide_held e w, lt-leb e.span (2 ^ 32) w)
    by (no w) = rw (plain_held e (omega arith)) (ap (λ (b : Bool). leb e.span (2 ^ 32) && b) capped)

-- ── the code ──

-- the element of a record
module _ (t : List ℤ) (i : ℕ) (m : Extent) {r own body : Extent} {z : ℤ} {k : ℕ}
    (e : r ≡ held (join own body)) (f : own ≡ held (by_offset (read z))) (g : SFits w64 z) (ez : z ≡ field t i 2) (ek : k ≡ natural (field t i 0)) where
  pub group_extent : {c : ℕ} → body ≡ held (repeat c m) → c ≡ natural (field t i 4) → k ≡ 2 → r ≡ held (element_extent t i m)
  unfolding element_extent
  group_extent fb ec hk = e ∙ rw (f, fb, held_join, read_is z g, ez, ec, ← ek, hk)

  pub variable_extent : {n : ℕ} → body ≡ held (by_size n) → n ≡ natural (field t i 3) → (k ≡ 2 → ⊥) → r ≡ held (element_extent t i m)
  unfolding element_extent
  variable_extent fb en hk = e ∙ rw (f, fb, held_join, read_is z g, ez, en, ← ek, ne_eqb _ _ hk)

pub ruleset elements = (group_extent, variable_extent, rules)

-- what it tells
module _ (t : List ℤ) (i : ℕ) (e : Extent) {a : Bool} (fa : a ≡ same_number (field t i 6) (pos e.count)) where
  pub tells_not : a ≡ false → a ≡ tells t i e
  unfolding tells
  tells_not h = h ∙ sym (rw (← fa, h))

  pub tells_is : a ≡ true → {u d : ℕ} → u ≡ natural (field t i 7) → d ≡ natural (neg_ℤ (field t i 7)) → eqb (u + e.below) (d + e.ends) ≡ tells t i e
  unfolding tells
  tells_is h p q = sym (rw (← fa, h, ← p, ← q))

pub ruleset telling = (tells_not, tells_is, nots, rules)

-- an element behind what stands before it: as the code holds it
pub added_law : (t : List ℤ) (i : ℕ) (m before : Extent) {own whole : Extent} → own ≡ held (element_extent t i m) → whole ≡ held (join before own)
    → added_of t i m before ≡ cond (limited own && (tells t i own && limited whole)) (Some whole) None
unfolding added_of
added_law t i m before {own} {whole} e g = by (limited own) refl
  where
    own_limited : limited own ≡ limited (element_extent t i m)
    own_limited = rw (e, held_limited)

    by : (a : Bool) → limited own ≡ a → added_of t i m before ≡ cond (limited own && (tells t i own && limited whole)) (Some whole) None
    by false a = rw (← own_limited, a)
    by true a = rw (← own_limited, a, ← own_is, ← whole_limited) (last (tells t i own) (limited whole) refl)
      where
        own_is : own ≡ element_extent t i m
        own_is = e ∙ held_is (element_extent t i m) (sym own_limited ∙ a)

        whole_limited : limited whole ≡ limited (join before own)
        whole_limited = rw (g, held_limited)

        last : (b d : Bool) → limited whole ≡ d → cond (b && d) (Some (join before own)) None ≡ cond (b && d) (Some whole) None
        last false d h = refl
        last true false h = refl
        last true true h = ap Some (sym (g ∙ held_is (join before own) (sym whole_limited ∙ h)))
