-- A child's order and count: the last entry tells as much as all entries seen.
use mathlib.Core.Path.{◌≡◌, refl, sym, ◌∙◌}
use mathlib.Core.List.{List, ◌∷◌, ◌++◌}
use mathlib.Core.Bool.{Bool, true, false, cond, not, ◌||◌}
use mathlib.Core.Option.{none, some}
use Prim.Native.Nat.{ℕ, ◌≤◌, max}
use native.Mathlib.Omega.{arith}
use native.Mathlib.Decide.{dec_le}
use borrow.Author.Tests.{eqb-true, eqb-false, ltb-false, le-ltb, eq-eqb, ne_eqb}
use lib.Dec.{eqb, ltb}
use Rattle.cdi.specs.Lists.{any, is_empty, between}
use Rattle.cdi.specs.Faults.{Fault, unless, rank, before, lesser, least}
use Rattle.cdi.specs.Rows.{Row}
use Rattle.cdi.specs.Rules.{Before, nothing_before, entry_of, child_faults, behind, out_of_order, too_often}
use Rattle.cdi.proofs.Quiet.{impossible}
use Rattle.rules_judge.specs.Judging.{entry_faults}

-- the last entry, and the children before
pub record Like (last : ℕ) (b : Before) : Type 0 where
  pub same : b.last ≡ last
  -- no entry that was seen is behind the last one
  pub below : (x : ℕ) → any (eqb x) b.seen ≡ true → x ≤ last
  -- and the last one was seen
  pub there : 1 ≤ last → any (eqb last) b.seen ≡ true

-- Before the first child no entry was seen.
pub like_nothing : Like 0 nothing_before
unfolding nothing_before any
like_nothing = record { same = refl; below = λ x q. impossible (cc); there = λ h. absurd (omega arith) }

-- A child that the row doesn't know leaves the last entry.
pub like_unknown : {last : ℕ} {b : Before} (r : Row) (n : List ℕ) → entry_of r n ≡ none → Like last b → Like last (behind r b n)
unfolding behind
like_unknown r n q l = rw q l

-- Behind a child that the row knows the last entry is the greater of the two.
pub like_behind : {last : ℕ} {b : Before} (r : Row) (n : List ℕ) (e : ℕ × Bool) → entry_of r n ≡ some e → Like last b → Like (max last e.0) (behind r b n)
unfolding behind any
like_behind {last} {b} r n e q l = rw q (record { same = rw l.same; below = below; there = there })
  where
    below : (x : ℕ) → (eqb x e.0 || any (eqb x) b.seen) ≡ true → x ≤ max last e.0
    below x h = by (eqb x e.0) refl
      where
        by : (t : Bool) → eqb x e.0 ≡ t → x ≤ max last e.0
        by true p = let z = eqb-true x e.0 p in omega arith
        by false p = let z = l.below x (rw p at h) in omega arith

    there : 1 ≤ max last e.0 → (eqb (max last e.0) e.0 || any (eqb (max last e.0)) b.seen) ≡ true
    there h = by (dec_le last e.0)
      where
        by : Dec (last ≤ e.0) → (eqb (max last e.0) e.0 || any (eqb (max last e.0)) b.seen) ≡ true
        by (yes g) = rw (eq-eqb (max last e.0) e.0 (omega arith))
        by (no g) =
            let z : max last e.0 ≡ last = omega arith in
            rw (z, ne_eqb last e.0 (omega arith)) (l.there (omega arith))

seen_last : {last : ℕ} {b : Before} (x : ℕ) → Like last b → 1 ≤ x → last ≤ x → any (eqb x) b.seen ≡ eqb x last
seen_last {last} {b} x l h g = by (eqb x last) refl (any (eqb x) b.seen) refl
  where
    by : (t : Bool) → eqb x last ≡ t → (u : Bool) → any (eqb x) b.seen ≡ u → any (eqb x) b.seen ≡ eqb x last
    by true p u q = let z = eqb-true x last p in rw (p, z) (l.there (omega arith))
    by false p true q = let z = l.below x q in absurd (eqb-false x last p (omega arith))
    by false p false q = rw (p, q)

-- two lists that are both empty or not, with the same least fault
pub record Alike (fs gs : List Fault) : Type 0 where
  pub least : least fs ≡ least gs
  pub empty : is_empty fs ≡ is_empty gs

-- The lesser of a fault and itself is that fault.
pub lesser_same : (f : Fault) → lesser (some f) (some f) ≡ some f
unfolding lesser
lesser_same f = by (before f f)
  where
    by : (t : Bool) → some (cond t f f) ≡ some f
    by true = refl
    by false = refl

-- the order's fault comes before the count's
order_speaks : (p : ℕ) (u : Bool) → least (out_of_order p ∷ unless u (too_often p)) ≡ some (out_of_order p)
unfolding least unless lesser before rank between
order_speaks p true = refl
order_speaks p false = rw (le-ltb p p (omega arith), eq-eqb p p refl)

-- both tests, where the second is the same unless the first has failed
joined_alike : (p : ℕ) (t u v : Bool) → (t ≡ false → u ≡ v)
    → Alike (unless (not t) (out_of_order p) ++ unless u (too_often p)) (unless (not t) (out_of_order p) ++ unless v (too_often p))
unfolding unless is_empty
joined_alike p true u v h = record { least = order_speaks p u ∙ sym (order_speaks p v); empty = refl }
joined_alike p false u v h = rw (h refl) (record { least = refl; empty = refl })

-- A child that the row knows has the same faults by the last entry as by all entries.
pub child_alike : {last : ℕ} {b : Before} (r : Row) (p : ℕ) (n : List ℕ) (e : ℕ × Bool) → entry_of r n ≡ some e → 1 ≤ e.0 → Like last b
    → Alike (child_faults r b p n) (entry_faults last p e)
unfolding child_faults entry_faults
child_alike {last} {b} r p n e q h l =
    rw (q, l.same) (joined_alike p (ltb e.0 last) _ _ (λ z. rw (seen_last e.0 l h (ltb-false _ _ z))))
