-- "Any change of a single byte in a block must be noticed."
use mathlib.Core.Path.{◌≡◌, refl, sym, ap, ◌∙◌}
use mathlib.Core.List.{List, [], ◌∷◌}
use mathlib.Core.Bool.{true, false}
use mathlib.Core.Option.{none, some}
use Prim.Native.Nat.{ℕ, zero, suc, ◌+◌, ◌-◌, ◌*◌, ◌/◌, ◌<◌, ◌≤◌}
use native.Mathlib.Nat.{zero-add}
use native.Mathlib.Omega.{arith}
use native.Mathlib.Decide.{dec_lt}
use borrow.Author.Tests.{eqb-true, ne_eqb}
use lib.ListN.{length, take, drop, get_or, set, length-set, length-drop}
use lib.Seq.{length-take-le, take-set-le, take-set-lt, drop-set-lt, drop-set-add, get_or-take, get_or-drop, get_or-set_other}
use Rattle.cdi.specs.Lists.{◌or_else◌}
use Rattle.cdi.specs.Faults.{fault, accepted, refused}
use Rattle.cdi.specs.Values.{value_of, value_from}
use Rattle.blocks.specs.Blocks.{Bytes, check_of, front, space, check}
use Rattle.blocks.specs.Backups.{Kept, is_whole, is_checked, cause_of, first_bad, blocks_in, fault_in, reading}
use Rattle.blocks_laws.proofs.Parts.{bytes_take, bytes_drop}
use Rattle.blocks_laws.proofs.Sums.{check_moves}
use Rattle.blocks_laws.proofs.Tests.{neither, passed, sound, accepted_none}

-- ── in a block ──

-- the number that two bytes are
pair_moves : (s : List ℕ) (i v : ℕ) → length s ≡ 2 → i < 2 → (v ≡ get_or s i 0 → ⊥) → value_of (set s i v) ≡ value_of s → ⊥
unfolding value_of value_from
pair_moves [] i v l h n e = omega arith
pair_moves (a ∷ []) i v l h n e = omega arith
pair_moves (a ∷ b ∷ []) zero v l h n e = n (omega arith)
pair_moves (a ∷ b ∷ []) (suc zero) v l h n e = n (omega arith)
pair_moves (a ∷ b ∷ []) (suc (suc i)) v l h n e = omega arith
pair_moves (a ∷ b ∷ c ∷ s) i v l h n e = omega arith

module _ (b : List ℕ) (size : length b ≡ 512) (bytes : Bytes b) (good : is_checked b ≡ true) (v : ℕ) (small : v < 256) where
  -- a byte that is summed
  in_front : (p : ℕ) → p < 510 → (v ≡ get_or b p 0 → ⊥) → is_checked (set b p v) ≡ false
  unfolding is_checked check front
  in_front p h n =
      let same = eqb-true (value_of (drop 510 b)) (check_of (take 510 b)) good in
      let l = length-take-le 510 b (omega arith) in
      let g = get_or-take 510 b p 0 h in
      rw (drop-set-lt 510 b p v h, take-set-lt 510 b p v h)
      (ne_eqb _ _ (λ e. check_moves (take 510 b) p v (omega arith) (rw l refl) (rw g (bytes p)) small (λ q. n (q ∙ g)) (sym e ∙ same)))

  -- a byte of the check
  in_check : (i : ℕ) → i < 2 → (v ≡ get_or b (510 + i) 0 → ⊥) → is_checked (set b (510 + i) v) ≡ false
  unfolding is_checked check front
  in_check i h n =
      let same = eqb-true (value_of (drop 510 b)) (check_of (take 510 b)) good in
      let two : length (drop 510 b) ≡ 2 = rw length-drop (omega arith) in
      rw (drop-set-add 510 b i v, take-set-le 510 b (510 + i) v (omega arith))
      (ne_eqb _ _ (λ e. pair_moves (drop 510 b) i v two h (λ q. n (q ∙ get_or-drop 510 b i 0)) (e ∙ sym same)))

  pub unchecked : (p : ℕ) → p < 512 → (v ≡ get_or b p 0 → ⊥) → is_checked (set b p v) ≡ false
  unchecked p h n = by (dec_lt p 510)
    where
      by : Dec (p < 510) → is_checked (set b p v) ≡ false
      by (yes l) = in_front p l n
      by (no l) =
          let e : 510 + (p - 510) ≡ p = omega arith in
          ap (λ k. is_checked (set b k v)) (sym e) ∙ in_check (p - 510) (omega arith) (λ q. n (q ∙ ap (λ k. get_or b k 0) e))

-- ── in a backup ──

module _ (v : ℕ) (small : v < 256) where
  -- of so many blocks, the first at position k; the space asked for may be another if the change stands in the first of them
  noticed_from : (n k sp new : ℕ) (b : List ℕ) (p : ℕ) → length b ≡ 512 * n → Bytes b → first_bad k n sp b ≡ none → p < 512 * n
      → (v ≡ get_or b p 0 → ⊥) → (512 ≤ p → new ≡ sp) → first_bad k n new (set b p v) ≡ some (fault 43 (k + p / 512))
  unfolding first_bad cause_of
  noticed_from zero k sp new b p l h g i o s = absurd (omega arith)
  noticed_from (suc n) k sp new b p l h g i o s =
      by (dec_lt p 512) (λ q. noticed_from n (k + 1) sp sp (drop 512 b) (p - 512) (rw length-drop (omega arith)) (bytes_drop 512 b h) sound_blocks.1 (omega arith)
      (λ w. o (w ∙ get_or-drop 512 b (p - 512) 0 ∙ ap (λ j. get_or b j 0) (behind q))) (λ x. refl))
    where
      sound_blocks : (cause_of k n sp (take 512 b) ≡ none) × (first_bad (k + 1) n sp (drop 512 b) ≡ none)
      sound_blocks = neither (cause_of k n sp (take 512 b)) (first_bad (k + 1) n sp (drop 512 b)) g

      behind : 512 ≤ p → 512 + (p - 512) ≡ p
      behind q = omega arith

      by : Dec (p < 512) → (512 ≤ p → first_bad (k + 1) n sp (set (drop 512 b) (p - 512) v) ≡ some (fault 43 (k + 1 + (p - 512) / 512)))
          → (cause_of k n new (take 512 (set b p v)) or_else first_bad (k + 1) n new (drop 512 (set b p v))) ≡ some (fault 43 (k + p / 512))
      by (yes q) r =
          let e : k + p / 512 ≡ k = omega arith in
          let t = get_or-take 512 b p 0 q in
          let u = unchecked (take 512 b) (length-take-le 512 b (omega arith)) (bytes_take 512 b h) (passed k n sp (take 512 b) sound_blocks.0).0 v small p q (λ w. o (w ∙ t)) in
          rw (e, take-set-lt 512 b p v q, u)
      by (no q) r =
          let m : 512 ≤ p = omega arith in
          let f : k + p / 512 ≡ k + 1 + (p - 512) / 512 = omega arith in
          let d = ap (λ j. drop 512 (set b j v)) (sym (behind m)) ∙ drop-set-add 512 b (p - 512) v in
          rw (s m, take-set-le 512 b p v m, sound_blocks.0, d, f) (r m)

-- a backup with nothing wrong, one byte changed
fault_noticed : (b : List ℕ) (p v : ℕ) → Bytes b → fault_in b ≡ none → p < length b → v < 256 → (v ≡ get_or b p 0 → ⊥) → fault_in (set b p v) ≡ some (fault 43 (p / 512))
unfolding fault_in is_whole blocks_in space
fault_noticed b p v h g i small o =
    let s = sound b g in
    let same : 512 ≤ p → get_or (set b p v) 6 0 ≡ get_or b 6 0 = λ m. get_or-set_other b p 6 v 0 (λ e. omega (arith, e)) in
    rw (length-set b p v, s.whole_blocks)
    (noticed_from v small (length b / 512) 0 (get_or b 6 0) (get_or (set b p v) 6 0) b p s.whole h s.good (omega (arith, s.whole)) o same ∙ ap (λ k. some (fault 43 k)) (zero-add (p / 512)))

-- every other byte at every place of every backup that is read: 43 at the block in which it stands, whatever the room
pub noticed : (b : List ℕ) (w : Kept) (p v : ℕ) → Bytes b → reading b ≡ accepted w → p < length b → v < 256 → (v ≡ get_or b p 0 → ⊥)
    → reading (set b p v) ≡ refused (fault 43 (p / 512))
unfolding reading
noticed b w p v h g i small o = rw (fault_noticed b p v h (accepted_none b w g).0 i small o)
