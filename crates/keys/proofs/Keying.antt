-- The order of keys is that of faults: the smaller place, then the number of the smaller rank.
use mathlib.Core.Path.{◌≡◌, refl, sym, ap, ◌∙◌}
use mathlib.Core.Bool.{Bool, true, false, cond, ◌||◌, ◌&&◌}
use mathlib.Core.Option.{none, some}
use mathlib.Core.Logic.{⊎_elim}
use Prim.Native.Nat.{ℕ, ◌+◌, ◌*◌, ◌-◌, ◌/◌, ◌%◌, ◌≤◌, ◌<◌, max}
use native.Mathlib.Omega.{arith}
use mir.Syntax.{w64}
use mir.Val.{Fits}
use borrow.Author.Rules.{rules}
use borrow.Author.Tests.{ltb-true, ltb-false, le-ltb, le-leb, lt-leb, eq-eqb, ne_eqb}
use lib.Dec.{eqb, ltb, leb}
use Rattle.cdi.specs.Lists.{between}
use Rattle.cdi.specs.Faults.{Fault, fault, unless, rank, before, lesser, least}
use Rattle.cdi.proofs.Least.{same_rank, lesser_none}
use Rattle.scan.proofs.Tests.{lt_or_le, eq_or_ne}
use Rattle.keys.specs.Keys.{number_of, fault_in}

-- ── ranks ──

module _ (n : ℕ) where
  pub low_rank : n < 8 → n ≡ rank n
  unfolding rank between
  low_rank h = rw (lt-leb 81 n (omega arith), lt-leb 8 n h)

  pub moved_rank : 8 ≤ n → n < 81 → n + 8 ≡ rank n
  unfolding rank between
  moved_rank h k = rw (lt-leb 81 n k, le-leb 8 n h, le-leb n 80 (omega arith))

  pub split_rank : 81 ≤ n → n < 89 → n - 73 ≡ rank n
  unfolding rank between
  split_rank h k = rw (le-leb 81 n h, le-leb n 88 (omega arith))

  pub high_rank : 89 ≤ n → n ≡ rank n
  unfolding rank between
  high_rank h = rw (le-leb 81 n (omega arith), lt-leb n 88 (omega arith), le-leb 8 n (omega arith), lt-leb n 80 (omega arith))

pub ruleset ranking = (low_rank, moved_rank, split_rank, high_rank, rules)

module _ (r : ℕ) where
  pub low_number : r < 8 → r ≡ number_of r
  unfolding number_of between
  low_number h = rw (lt-leb 8 r h, lt-leb 16 r (omega arith))

  pub split_number : 8 ≤ r → r < 16 → r + 73 ≡ number_of r
  unfolding number_of between
  split_number h k = rw (le-leb 8 r h, le-leb r 15 (omega arith))

  pub moved_number : 16 ≤ r → r < 89 → r - 8 ≡ number_of r
  unfolding number_of between
  moved_number h k = rw (le-leb 8 r (omega arith), lt-leb r 15 h, le-leb 16 r h, le-leb r 88 (omega arith))

  pub high_number : 89 ≤ r → r ≡ number_of r
  unfolding number_of between
  high_number h = rw (le-leb 8 r (omega arith), lt-leb r 15 (omega arith), le-leb 16 r (omega arith), lt-leb r 88 h)

  -- a rank's number has that rank
  pub rank_back : rank (number_of r) ≡ r
  rank_back = ⊎_elim (λ (a : r < 8). rw (← low_number a) (sym (low_rank r a)))
      (λ (a : 8 ≤ r). ⊎_elim (λ (b : r < 16). rw (← split_number a b) (sym (split_rank (r + 73) (omega arith) (omega arith)) ∙ omega arith))
      (λ (b : 16 ≤ r). ⊎_elim (λ (c : r < 89). rw (← moved_number b c) (sym (moved_rank (r - 8) (omega arith) (omega arith)) ∙ omega arith))
      (λ (c : 89 ≤ r). rw (← high_number c) (sym (high_rank r c)))
      (lt_or_le r 89)) (lt_or_le r 16)) (lt_or_le r 8)

pub ruleset numbering = (low_number, split_number, moved_number, high_number, rules)

number_back : (n : ℕ) → number_of (rank n) ≡ n
number_back n = same_rank (number_of (rank n)) n (rank_back (rank n))

-- ── what a key says ──

pub no_fault : (k : ℕ) → k ≡ 0xFFFF_FFFF_FFFF_FFFF → fault_in k ≡ none
unfolding fault_in
no_fault k e = rw (eq-eqb k 0xFFFF_FFFF_FFFF_FFFF e)

pub a_fault : (k : ℕ) → (k ≡ 0xFFFF_FFFF_FFFF_FFFF → ⊥) → fault_in k ≡ some (fault (number_of (k % 128)) (k / 128))
unfolding fault_in
a_fault k e = rw (ne_eqb k 0xFFFF_FFFF_FFFF_FFFF e)

-- ── keys ──

module _ (n p : ℕ) {q : ℕ} (e : q ≡ rank n) (small : n < 128) (bound : q ≤ max n 88) (k : p ≤ 65535) where
  h : q < 128
  h = omega arith

  place_of : (p * 128 + q) / 128 ≡ p
  place_of = omega (arith, h)

  rank_in : (p * 128 + q) % 128 ≡ q
  rank_in = omega (arith, h)

  -- the key of a fault is that fault
  pub this : fault_in (p * 128 + q) ≡ some (fault n p)
  unfolding fault_in
  this = rw (ne_eqb (p * 128 + q) 0xFFFF_FFFF_FFFF_FFFF (λ z. omega (arith, h)), place_of, rank_in, e, number_back n)

pub ruleset keying = (this, rules)

module _ (l k : ℕ) where
  -- the fault of a key that isn't none
  abbrev in_key : ℕ → Fault
  in_key m = fault (number_of (m % 128)) (m / 128)

  later : k < l → before (in_key l) (in_key k) ≡ false
  unfolding before
  later z = rw (rank_back (l % 128), rank_back (k % 128)) (by (ltb (k / 128) (l / 128)) refl)
    where
      by : (t : Bool) → ltb (k / 128) (l / 128) ≡ t → (ltb (l / 128) (k / 128) || (eqb (l / 128) (k / 128) && leb (l % 128) (k % 128))) ≡ false
      by true e = let g : k / 128 < l / 128 = ltb-true (k / 128) (l / 128) e in rw (le-ltb (l / 128) (k / 128) (omega (arith, g)), ne_eqb (l / 128) (k / 128) (λ q. omega (arith, g)))
      by false e =
          let g : l / 128 ≤ k / 128 = ltb-false (k / 128) (l / 128) e in
          let o : l / 128 ≡ k / 128 = omega (arith, g) in
          rw (le-ltb (l / 128) (k / 128) (omega (arith, o)), eq-eqb (l / 128) (k / 128) o, lt-leb (l % 128) (k % 128) (omega (arith, o)))

  earlier : l ≤ k → before (in_key l) (in_key k) ≡ true
  unfolding before
  earlier z = rw (rank_back (l % 128), rank_back (k % 128)) (by (ltb (l / 128) (k / 128)) refl)
    where
      by : (t : Bool) → ltb (l / 128) (k / 128) ≡ t → (t || (eqb (l / 128) (k / 128) && leb (l % 128) (k % 128))) ≡ true
      by true e = refl
      by false e =
          let g : k / 128 ≤ l / 128 = ltb-false (l / 128) (k / 128) e in
          let o : l / 128 ≡ k / 128 = omega (arith, g) in
          rw (eq-eqb (l / 128) (k / 128) o, le-leb (l % 128) (k % 128) (omega (arith, o)))

  pub replaced : Fits w64 l → k < l → fault_in k ≡ lesser (fault_in l) (fault_in k)
  unfolding fault_in lesser
  replaced b z = rw (ne_eqb k 0xFFFF_FFFF_FFFF_FFFF (λ e. omega (arith, e, b, z))) (by (eqb l 0xFFFF_FFFF_FFFF_FFFF))
    where
      by : (t : Bool) → some (in_key k) ≡ lesser (cond t none (some (in_key l))) (some (in_key k))
      by true = refl
      by false = rw (later z)

  module _ (b : Fits w64 k) where
    pub stays : l ≤ k → fault_in l ≡ lesser (fault_in l) (fault_in k)
    stays z = ⊎_elim
        (λ (e : k ≡ 0xFFFF_FFFF_FFFF_FFFF). rw (no_fault k e) (sym (lesser_none (fault_in l))))
        (λ (e : k ≡ 0xFFFF_FFFF_FFFF_FFFF → ⊥). rw (a_fault k e, a_fault l (λ q. e (omega arith))) (both e))
        (eq_or_ne k 0xFFFF_FFFF_FFFF_FFFF)
      where
        both : (k ≡ 0xFFFF_FFFF_FFFF_FFFF → ⊥) → some (in_key l) ≡ lesser (some (in_key l)) (some (in_key k))
        both e = unfold lesser in rw (earlier z)

-- one fault more
pub with_key : (l n p k r : ℕ) → fault_in k ≡ some (fault n p) → fault_in r ≡ lesser (fault_in l) (fault_in k) → fault_in r ≡ lesser (fault_in l) (some (fault n p))
with_key l n p k r e f = f ∙ ap (lesser (fault_in l)) e

pub ruleset with_keys = (with_key, rules)

module _ (l n p : ℕ) {good : Bool} where
  pub passes : good ≡ true → fault_in l ≡ lesser (fault_in l) (least (unless good (fault n p)))
  unfolding unless least
  passes e = rw e (sym (lesser_none (fault_in l)))

  pub fails : (r : ℕ) → good ≡ false → fault_in r ≡ lesser (fault_in l) (some (fault n p)) → fault_in r ≡ lesser (fault_in l) (least (unless good (fault n p)))
  unfolding unless least
  fails r e f = f ∙ rw (e, lesser_none)

pub ruleset unlesses = (passes, fails, rules)
