-- The least fault: its order is total, and the least of two lists joined is the lesser of their least.
use mathlib.Core.Path.{◌≡◌, refl, sym, ap, ◌∙◌}
use mathlib.Core.List.{List, [], ◌∷◌, ◌++◌}
use mathlib.Core.Bool.{Bool, true, false, cond, ◌&&◌, ◌||◌, false≢true}
use mathlib.Core.Option.{Option, none, some}
use mathlib.Core.Logic.{◌⊎◌, inl, inr}
use Prim.Native.Nat.{ℕ, ◌+◌, ◌-◌, ◌<◌, ◌≤◌}
use native.Mathlib.Omega.{arith}
use native.Mathlib.Decide.{dec_lt}
use borrow.Author.Tests.{ltb-true, leb-true, eqb-true, lt-ltb, le-ltb, le-leb, lt-leb, eq-eqb}
use lib.Dec.{eqb, leb, ltb}
use Rattle.cdi.specs.Faults.{Fault, rank, before, lesser, least}
use Rattle.cdi.specs.Lists.{between}

-- ── ranks ──

-- a number from 81 to 88, one from 8 to 80, or another, with its rank
data Ranks (n r : ℕ) : Type 0 where
  split : 81 ≤ n → n ≤ 88 → r + 73 ≡ n → Ranks n r
  moved : 8 ≤ n → n ≤ 80 → r ≡ n + 8 → Ranks n r
  plain : (n < 8) ⊎ (88 < n) → r ≡ n → Ranks n r

ranks : (n : ℕ) → Ranks n (rank n)
unfolding rank between
ranks n = by (dec_lt n 8) (dec_lt n 81) (dec_lt 88 n)
  where
    by : Dec (n < 8) → Dec (n < 81) → Dec (88 < n) → Ranks n (cond (leb 81 n && leb n 88) (n - 73) (cond (leb 8 n && leb n 80) (n + 8) n))
    by (yes a) b c = rw (lt-leb 81 n (omega arith), lt-leb 8 n a) (plain (inl a) refl)
    by (no a) (yes b) c = rw (lt-leb 81 n b, le-leb 8 n (omega arith), le-leb n 80 (omega arith)) (moved (omega arith) (omega arith) refl)
    by (no a) (no b) (yes c) = rw (le-leb 81 n (omega arith), lt-leb n 88 c, le-leb 8 n (omega arith), lt-leb n 80 (omega arith)) (plain (inr c) refl)
    by (no a) (no b) (no c) = rw (le-leb 81 n (omega arith), le-leb n 88 (omega arith)) (split (omega arith) (omega arith) (omega arith))

-- one rank, one number
pub same_rank : (m n : ℕ) → rank m ≡ rank n → m ≡ n
same_rank m n e = by (ranks m) (ranks n)
  where
    by : Ranks m (rank m) → Ranks n (rank n) → m ≡ n
    by (split a b c) (split x y z) = omega arith
    by (split a b c) (moved x y z) = absurd (omega arith)
    by (split a b c) (plain (inl x) z) = absurd (omega arith)
    by (split a b c) (plain (inr x) z) = absurd (omega arith)
    by (moved a b c) (split x y z) = absurd (omega arith)
    by (moved a b c) (moved x y z) = omega arith
    by (moved a b c) (plain (inl x) z) = absurd (omega arith)
    by (moved a b c) (plain (inr x) z) = absurd (omega arith)
    by (plain (inl a) c) (split x y z) = absurd (omega arith)
    by (plain (inr a) c) (split x y z) = absurd (omega arith)
    by (plain (inl a) c) (moved x y z) = absurd (omega arith)
    by (plain (inr a) c) (moved x y z) = absurd (omega arith)
    by (plain a c) (plain x z) = omega arith

-- ── the order of faults ──

-- at a smaller place, or at the same place with a number of no larger rank
Earlier : Fault → Fault → Type 0
Earlier f g = (f.place < g.place) ⊎ ((f.place ≡ g.place) × (rank f.number ≤ rank g.number))

earlier : (f g : Fault) → before f g ≡ true → Earlier f g
unfolding before Earlier
earlier f g h = by (ltb f.place g.place) (eqb f.place g.place) (leb (rank f.number) (rank g.number)) refl refl refl h
  where
    by : (x y z : Bool) → ltb f.place g.place ≡ x → eqb f.place g.place ≡ y → leb (rank f.number) (rank g.number) ≡ z → (x || (y && z)) ≡ true → (f.place < g.place) ⊎ ((f.place ≡ g.place) × (rank f.number ≤ rank g.number))
    by true y z p q r e = inl (ltb-true _ _ p)
    by false true true p q r e = inr (eqb-true _ _ q, leb-true _ _ r)
    by false true false p q r e = absurd (false≢true e)
    by false false z p q r e = absurd (false≢true e)

is_before : (f g : Fault) → Earlier f g → before f g ≡ true
unfolding before Earlier
is_before f g (inl l) = rw (lt-ltb _ _ l)
is_before f g (inr (e, l)) = rw (le-ltb f.place g.place (omega arith), eq-eqb _ _ e, le-leb _ _ l)

-- of any two faults one is before the other
pub total : (f g : Fault) → before f g ≡ false → before g f ≡ true
unfolding Earlier
total f g h = by (dec_lt g.place f.place) (dec_lt f.place g.place) (dec_lt (rank f.number) (rank g.number))
  where
    by : Dec (g.place < f.place) → Dec (f.place < g.place) → Dec (rank f.number < rank g.number) → before g f ≡ true
    by (yes l) d e = is_before g f (inl l)
    by (no l) (yes m) e = absurd (false≢true (sym h ∙ is_before f g (inl m)))
    by (no l) (no m) (yes k) = absurd (false≢true (sym h ∙ is_before f g (inr (omega arith, omega arith))))
    by (no l) (no m) (no k) = is_before g f (inr (omega arith, omega arith))

-- the order is transitive
pub transitive : (f g h : Fault) → before f g ≡ true → before g h ≡ true → before f h ≡ true
unfolding Earlier
transitive f g h p q = is_before f h (by (earlier f g p) (earlier g h q))
  where
    by : (f.place < g.place) ⊎ ((f.place ≡ g.place) × (rank f.number ≤ rank g.number)) → (g.place < h.place) ⊎ ((g.place ≡ h.place) × (rank g.number ≤ rank h.number)) → (f.place < h.place) ⊎ ((f.place ≡ h.place) × (rank f.number ≤ rank h.number))
    by (inl a) (inl b) = inl (omega arith)
    by (inl a) (inr b) = inl (omega arith)
    by (inr a) (inl b) = inl (omega arith)
    by (inr a) (inr b) = inr (omega arith, omega arith)

-- two faults that are each before the other are one
pub alike : (f g : Fault) → before f g ≡ true → before g f ≡ true → f ≡ g
unfolding Earlier
alike f g p q = by (earlier f g p) (earlier g f q)
  where
    both : f.place ≡ g.place → f.number ≡ g.number → f ≡ g
    both a b = λ i. record { number = b i; place = a i }

    by : (f.place < g.place) ⊎ ((f.place ≡ g.place) × (rank f.number ≤ rank g.number)) → (g.place < f.place) ⊎ ((g.place ≡ f.place) × (rank g.number ≤ rank f.number)) → f ≡ g
    by (inl a) (inl b) = absurd (omega arith)
    by (inl a) (inr b) = absurd (omega arith)
    by (inr a) (inl b) = absurd (omega arith)
    by (inr a) (inr b) = both a.0 (same_rank f.number g.number (omega arith))

pick : Fault → Fault → Fault
pick f g = cond (before f g) f g

pick_assoc : (f g h : Fault) → pick (pick f g) h ≡ pick f (pick g h)
unfolding pick
pick_assoc f g h = by (before f g) (before g h) (before f h) refl refl refl
  where
    by : (x y z : Bool) → before f g ≡ x → before g h ≡ y → before f h ≡ z → cond (before (cond (before f g) f g) h) (cond (before f g) f g) h ≡ cond (before f (cond (before g h) g h)) f (cond (before g h) g h)
    by true true z p q r = rw (p, q, p, transitive f g h p q)
    by true false z p q r = rw (p, q)
    by false true z p q r = rw (p, q, p)
    by false false true p q r = rw (p, q, r) (alike h f (transitive h g f (total g h q) (total f g p)) r)
    by false false false p q r = rw (p, q, r)

-- the lesser of three does not depend on how they are joined
pub lesser_assoc : (a b c : Option Fault) → lesser (lesser a b) c ≡ lesser a (lesser b c)
unfolding lesser pick
lesser_assoc none b c = refl
lesser_assoc (some f) none c = refl
lesser_assoc (some f) (some g) none = refl
lesser_assoc (some f) (some g) (some h) = ap some (pick_assoc f g h)

pub lesser_none : (a : Option Fault) → lesser a none ≡ a
unfolding lesser
lesser_none none = refl
lesser_none (some f) = refl

-- nor on their order
pub lesser_comm : (a b : Option Fault) → lesser a b ≡ lesser b a
unfolding lesser
lesser_comm none b = sym (lesser_none b)
lesser_comm (some f) none = refl
lesser_comm (some f) (some g) = ap some (by (before f g) (before g f) refl refl)
  where
    by : (x y : Bool) → before f g ≡ x → before g f ≡ y → cond (before f g) f g ≡ cond (before g f) g f
    by true true p q = rw (p, q) (alike f g p q)
    by true false p q = rw (p, q)
    by false true p q = rw (p, q)
    by false false p q = absurd (false≢true (sym q ∙ total f g p))

-- the least fault of two lists joined is the lesser of their least faults
pub least_append : (fs gs : List Fault) → least (fs ++ gs) ≡ lesser (least fs) (least gs)
unfolding least lesser
least_append [] gs = refl
least_append (f ∷ fs) gs = ap (lesser (some f)) (least_append fs gs) ∙ sym (lesser_assoc (some f) (least fs) (least gs))
