-- The ways of storing and of reading, and the numbers of their refusals.
use mathlib.Core.Path.{◌≡◌, refl, sym, ap, ◌∙◌}
use mathlib.Core.List.{List}
use mathlib.Core.Bool.{Bool, true, false, cond}
use mathlib.Core.Option.{Option, none, some}
use mathlib.Core.Logic.{◌⊎◌, inl, inr, ⊎_elim}
use Prim.Native.Nat.{ℕ, zero, suc, ◌+◌, ◌<◌, ◌≤◌}
use native.Mathlib.Omega.{arith}
use borrow.Author.Tests.{leb-true, leb-false}
use lib.Dec.{leb}
use lib.ListN.{length, take, drop}
use Rattle.cdi.specs.Lists.{◌or_else◌}
use Rattle.cdi.specs.Faults.{Fault, fault, Answer, accepted, refused, ◌and_then◌, stage}
use Rattle.cdi.proofs.Quiet.{impossible}
use Rattle.blocks.specs.Blocks.{space}
use Rattle.blocks.specs.Backups.{Kept, backup, is_storable, storing, is_checked, is_good, cause_of, is_whole, first_bad, blocks_in, fault_in, window_in, reading, Restored, restored, room_for, restoring}

-- ── storing ──

pub store_ways : (w : Kept) (o : List ℕ) (P : Answer ℕ → Type 0)
    → (is_storable w ≡ false → P (refused (fault 40 0)))
    → (is_storable w ≡ true → length o < length (backup w) → P (refused (fault 41 0)))
    → (is_storable w ≡ true → length (backup w) ≤ length o → P (accepted (length (backup w))))
    → P (storing w o)
unfolding storing
store_ways w o P f g h = by (is_storable w) (leb (length (backup w)) (length o)) refl refl
  where
    by : (x y : Bool) → is_storable w ≡ x → leb (length (backup w)) (length o) ≡ y
        → P (cond x (cond y (accepted (length (backup w))) (refused (fault 41 0))) (refused (fault 40 0)))
    by false y s l = f s
    by true false s l = g s (leb-false (length (backup w)) (length o) l)
    by true true s l = h s (leb-true (length (backup w)) (length o) l)

-- ── reading ──

-- a bad block is 43 or 44 at its position
pub record Among (k n : ℕ) (f : Fault) : Type 0 where
  pub number : (f.number ≡ 43) ⊎ (f.number ≡ 44)
  pub low : k ≤ f.place
  pub high : f.place < k + n

fault_of : (x y : Bool) (k : ℕ) (f : Fault) → cond x (cond y none (some (fault 44 k))) (some (fault 43 k)) ≡ some f → ((f.number ≡ 43) ⊎ (f.number ≡ 44)) × (f.place ≡ k)
fault_of true true k f e = impossible (cc)
fault_of true false k f e = let q : fault 44 k ≡ f = cc in (inr (sym (ap (λ (x : Fault). x.number) q)), sym (ap (λ (x : Fault). x.place) q))
fault_of false y k f e = let q : fault 43 k ≡ f = cc in (inl (sym (ap (λ (x : Fault). x.number) q)), sym (ap (λ (x : Fault). x.place) q))

pub bad_among : (n k sp : ℕ) (b : List ℕ) (f : Fault) → first_bad k n sp b ≡ some f → Among k n f
unfolding first_bad cause_of
bad_among zero k sp b f e = impossible (cc)
bad_among (suc n) k sp b f e = by (cause_of k n sp (take 512 b)) refl e (bad_among n (k + 1) sp (drop 512 b) f)
  where
    by : (o : Option Fault) → cause_of k n sp (take 512 b) ≡ o → (o or_else first_bad (k + 1) n sp (drop 512 b)) ≡ some f
        → (first_bad (k + 1) n sp (drop 512 b) ≡ some f → Among (k + 1) n f) → Among k (suc n) f
    by none c e again = let r = again e in record { number = r.number; low = omega (arith, r.low); high = omega (arith, r.high) }
    by (some g) c e again =
        let q = fault_of (is_checked (take 512 b)) (is_good k n sp (take 512 b)) k f (c ∙ e) in
        record { number = q.0; low = omega (arith, q.1); high = omega (arith, q.1) }

module _ (b out : List ℕ) (P : Answer Restored → Type 0) where
  room_ways : (w : Kept) → (length out < length w.bytes → P (refused (fault 41 0))) → (length w.bytes ≤ length out → P (accepted (restored w))) → P (room_for out w)
  unfolding room_for
  room_ways w g h = by (leb (length w.bytes) (length out)) refl
    where
      by : (y : Bool) → leb (length w.bytes) (length out) ≡ y → P (cond y (accepted (restored w)) (refused (fault 41 0)))
      by false l = g (leb-false (length w.bytes) (length out) l)
      by true l = h (leb-true (length w.bytes) (length out) l)

  pub read_ways : (is_whole b ≡ false → P (refused (fault 42 0)))
      → ((f : Fault) → is_whole b ≡ true → first_bad 0 (blocks_in b) (space b) b ≡ some f → P (refused f))
      → (fault_in b ≡ none → length out < length (window_in b).bytes → P (refused (fault 41 0)))
      → (fault_in b ≡ none → length (window_in b).bytes ≤ length out → P (accepted (restored (window_in b))))
      → P (restoring b out)
  unfolding restoring reading fault_in
  read_ways f g h i = by (is_whole b) (first_bad 0 (blocks_in b) (space b) b) refl refl
    where
      by : (x : Bool) (o : Option Fault) → is_whole b ≡ x → first_bad 0 (blocks_in b) (space b) b ≡ o
          → P (stage (cond x o (some (fault 42 0))) (window_in b) and_then room_for out)
      by false o s t = f s
      by true none s t = room_ways (window_in b) (λ l. h (rw (s, t)) l) (λ l. i (rw (s, t)) l)
      by true (some e) s t = g e s t

-- a backup with nothing wrong has whole blocks and no bad one
pub sound_whole : (b : List ℕ) → fault_in b ≡ none → is_whole b ≡ true
unfolding fault_in
sound_whole b e = by (is_whole b) e
  where
    by : (x : Bool) → cond x (first_bad 0 (blocks_in b) (space b) b) (some (fault 42 0)) ≡ none → x ≡ true
    by true e = refl
    by false e = impossible (cc)

module _ (b : List ℕ) (f : Fault) (bad : first_bad 0 (blocks_in b) (space b) b ≡ some f) where
  pub unsound : fault_in b ≡ none → is_whole b ≡ true → ⊥
  unfolding fault_in
  unsound e s = let z : some f ≡ none = sym bad ∙ (rw s at e) in impossible (cc)

  -- it is neither of the other numbers
  pub bad_number : (n : ℕ) → f.number ≡ n → (n ≡ 43 → ⊥) → (n ≡ 44 → ⊥) → ⊥
  bad_number n e g h = ⊎_elim (λ m. g (sym e ∙ m)) (λ m. h (sym e ∙ m)) (bad_among (blocks_in b) 0 (space b) b f bad).number

  pub bad_refused : (out : List ℕ) → is_whole b ≡ true → restoring b out ≡ refused f
  unfolding restoring reading fault_in
  bad_refused out s = rw (s, bad)
