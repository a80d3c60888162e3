-- Parts of lists: a part of a part; parts of bytes are bytes, and so is all that a block is made of.
use mathlib.Core.Path.{◌≡◌, sym, ap, ◌∙◌}
use mathlib.Core.List.{List, [], ◌∷◌, ◌++◌}
use Prim.Native.Nat.{ℕ, zero, suc, ◌+◌, ◌-◌, ◌/◌, ◌%◌, ◌<◌}
use native.Mathlib.Omega.{arith}
use native.Mathlib.Decide.{dec_lt}
use lib.ListN.{length, take, drop, get_or, replicate, length-take, get_or-eq_default}
use lib.Seq.{get_or-take, get_or-drop, take-nil}
use Rattle.cdi.specs.Values.{bytes_of, padded}
use Rattle.blocks.specs.Blocks.{Bytes, check_of, front_of, block}
use Rattle.blocks.specs.Backups.{last_flag, blocks_from}

-- a part of a part
pub drop_take : (u n : ℕ) (s : List ℕ) → drop u (take n s) ≡ take (n - u) (drop u s)
drop_take zero n s = let e : n ≡ n - 0 = omega arith in ap (λ k. take k s) e
drop_take (suc u) zero s = let e : 0 ≡ 0 - suc u = omega arith in ap (λ k. take k (drop (suc u) s)) e
drop_take (suc u) (suc n) [] = let e : take (suc n - suc u) [] ≡ [] = take-nil (suc n - suc u) in sym e
drop_take (suc u) (suc n) (x ∷ s) = let e : n - u ≡ suc n - suc u = omega arith in drop_take u n s ∙ ap (λ k. take k (drop u s)) e

-- ── parts of bytes are bytes ──

pub bytes_drop : (n : ℕ) (s : List ℕ) → Bytes s → Bytes (drop n s)
bytes_drop n s h i = rw get_or-drop (h (n + i))

pub bytes_take : (n : ℕ) (s : List ℕ) → Bytes s → Bytes (take n s)
bytes_take n s h i = by (dec_lt i n)
  where
    by : Dec (i < n) → get_or (take n s) i 0 < 256
    by (yes l) = rw (get_or-take n s i 0 l) (h i)
    by (no l) = rw (get_or-eq_default (take n s) 0 {n = i} (rw length-take (omega arith))) (omega arith)

pub bytes_append : (s t : List ℕ) → Bytes s → Bytes t → Bytes (s ++ t)
bytes_append [] t h g i = g i
bytes_append (b ∷ s) t h g zero = h 0
bytes_append (b ∷ s) t h g (suc i) = bytes_append s t (λ j. h (suc j)) g i

pub bytes_of_law : (n v : ℕ) → Bytes (bytes_of n v)
unfolding bytes_of
bytes_of_law zero v i = omega arith
bytes_of_law (suc n) v i = bytes_append (bytes_of n (v / 256)) (v % 256 ∷ []) (bytes_of_law n (v / 256)) last i
  where
    last : Bytes (v % 256 ∷ [])
    last zero = omega arith
    last (suc j) = omega arith

bytes_zeros : (n : ℕ) → Bytes (replicate n 0)
bytes_zeros zero i = omega arith
bytes_zeros (suc n) zero = omega arith
bytes_zeros (suc n) (suc i) = bytes_zeros n i

bytes_front : (k sp fl : ℕ) (s : List ℕ) → sp < 256 → fl < 256 → Bytes s → Bytes (front_of k sp fl s)
unfolding front_of padded
bytes_front k sp fl s h g b =
    bytes_append (bytes_of 4 k) _ (bytes_of_law 4 k)
    (bytes_append (bytes_of 2 (length s)) _ (bytes_of_law 2 (length s))
    (bytes_append (sp ∷ fl ∷ []) (s ++ replicate (502 - length s) 0) two (bytes_append s (replicate (502 - length s) 0) b (bytes_zeros (502 - length s)))))
  where
    two : Bytes (sp ∷ fl ∷ [])
    two zero = h
    two (suc zero) = g
    two (suc (suc i)) = omega arith

bytes_block : (k sp fl : ℕ) (s : List ℕ) → sp < 256 → fl < 256 → Bytes s → Bytes (block k sp fl s)
unfolding block
bytes_block k sp fl s h g b = bytes_append (front_of k sp fl s) _ (bytes_front k sp fl s h g b) (bytes_of_law 2 (check_of (front_of k sp fl s)))

flag_small : (n : ℕ) → last_flag n < 256
unfolding last_flag
flag_small zero = omega arith
flag_small (suc n) = omega arith

pub bytes_blocks : (n k sp : ℕ) (s : List ℕ) → sp < 256 → Bytes s → Bytes (blocks_from k n sp s)
unfolding blocks_from
bytes_blocks zero k sp s h b i = omega arith
bytes_blocks (suc n) k sp s h b i =
    bytes_append (block k sp (last_flag n) (take 502 s)) _ (bytes_block k sp (last_flag n) (take 502 s) h (flag_small n) (bytes_take 502 s b))
    (bytes_blocks n (k + 1) sp (drop 502 s) h (bytes_drop 502 s b)) i
