-- The fields of a block: what is stored is what is read, and what is read is what was stored.
use mathlib.Core.Path.{◌≡◌, refl, sym, ap, ◌∙◌}
use mathlib.Core.List.{List, [], ◌∷◌, ◌++◌, append_assoc, append-nil}
use mathlib.Core.Bool.{true}
use Prim.Native.Nat.{ℕ, zero, suc, ◌+◌, ◌-◌, ◌*◌, ◌/◌, ◌%◌, ◌^◌, ◌<◌, ◌≤◌}
use native.Mathlib.Nat.{add-zero}
use native.Mathlib.Omega.{arith}
use borrow.Author.Tests.{eqb-true, eq-eqb}
use lib.Dec.{eqb}
use lib.ListN.{length, take, drop, get_or, replicate, length-append, length-replicate, length-drop, take-append-drop}
use lib.Seq.{take_at, drop_at, drop-drop, drop-cons, get_or-drop, length-take-le, take-add}
use Rattle.cdi.specs.Lists.{all}
use Rattle.cdi.specs.Values.{bytes_of, value_of, value_from, padded}
use Rattle.cdi.proofs.Bytes.{length_bytes, value_of_bytes}
use Rattle.cdi.proofs.Tests.{parts}
use Rattle.blocks.specs.Blocks.{Bytes, check_of, front_of, block, front, number, used, space, flag, area, payload, padding, check}
use Rattle.blocks.specs.Backups.{is_checked}
use Rattle.blocks_laws.proofs.Parts.{bytes_take, bytes_drop}

-- ── numbers in bytes, and back ──

bytes_behind : (s : List ℕ) (m a : ℕ) → Bytes s → bytes_of (m + length s) (value_from a s) ≡ bytes_of m a ++ s
unfolding value_from bytes_of
bytes_behind [] m a h = rw add-zero (sym (append-nil (bytes_of m a)))
bytes_behind (b ∷ s) m a h =
    let l : b < 256 = h 0 in
    let e : m + suc (length s) ≡ suc m + length s = omega arith in
    let d : (a * 256 + b) / 256 ≡ a = omega arith in
    let r : (a * 256 + b) % 256 ≡ b = omega arith in
    rw (e, bytes_behind s (suc m) (a * 256 + b) (λ i. h (suc i)), d, r) (append_assoc (bytes_of m a) (b ∷ []) s)

-- the bytes of the number that bytes are
bytes_of_value : (n : ℕ) (s : List ℕ) → length s ≡ n → Bytes s → bytes_of n (value_of s) ≡ s
unfolding value_of bytes_of
bytes_of_value n s e h = let z : 0 + length s ≡ n = omega arith in ap (λ k. bytes_of k (value_from 0 s)) (sym z) ∙ bytes_behind s 0 0 h

-- bytes that are all zero
zeros : (s : List ℕ) → all (eqb 0) s ≡ true → s ≡ replicate (length s) 0
unfolding all
zeros [] e = refl
zeros (x ∷ s) e =
    let p = parts (eqb 0 x) (all (eqb 0) s) e in
    let z : 0 ≡ x = eqb-true 0 x p.0 in
    rw (← z) (ap (λ (t : List ℕ). 0 ∷ t) (zeros s p.1))

all_zeros : (n : ℕ) → all (eqb 0) (replicate n 0) ≡ true
unfolding all
all_zeros zero = refl
all_zeros (suc n) = all_zeros n

check_below : (s : List ℕ) → check_of s < 256 ^ 2
unfolding check_of
check_below s = omega arith

-- ── bytes that stand one behind the other ──

-- the parts of a block
record Laid (b n l : List ℕ) (sp fl : ℕ) (a c : List ℕ) : Type 0 where
  to_number : take 4 b ≡ n
  to_used : take 2 (drop 4 b) ≡ l
  to_space : get_or b 6 0 ≡ sp
  to_flag : get_or b 7 0 ≡ fl
  to_area : take 502 (drop 8 b) ≡ a
  to_check : drop 510 b ≡ c

laid : (n l : List ℕ) (sp fl : ℕ) (a c : List ℕ) → length n ≡ 4 → length l ≡ 2 → length a ≡ 502 → Laid (n ++ (l ++ (sp ∷ fl ∷ (a ++ c)))) n l sp fl a c
laid n l sp fl a c four two most =
    let b = n ++ (l ++ (sp ∷ fl ∷ (a ++ c))) in
    let at_used : drop 4 b ≡ l ++ (sp ∷ fl ∷ (a ++ c)) = drop_at n (l ++ (sp ∷ fl ∷ (a ++ c))) 4 four in
    let at_space : drop 6 b ≡ sp ∷ fl ∷ (a ++ c) = sym (drop-drop 2 4 b) ∙ rw at_used (drop_at l (sp ∷ fl ∷ (a ++ c)) 2 two) in
    let at_area : drop 8 b ≡ a ++ c = sym (drop-drop 2 6 b) ∙ rw at_space in
    record {
      to_number = take_at n (l ++ (sp ∷ fl ∷ (a ++ c))) 4 four;
      to_used = rw at_used (take_at l (sp ∷ fl ∷ (a ++ c)) 2 two);
      to_space = sym (get_or-drop 6 b 0 0) ∙ rw at_space;
      to_flag = sym (get_or-drop 6 b 1 0) ∙ rw at_space;
      to_area = rw at_area (take_at a c 502 most);
      to_check = sym (drop-drop 502 8 b) ∙ rw at_area (drop_at a c 502 most);
    }

-- ── a block that is stored ──

module _ (k sp fl : ℕ) (s : List ℕ) (few : length s ≤ 502) where
  length_padded : length (padded 502 s) ≡ 502
  unfolding padded
  length_padded = simp (length-append, length-replicate) (omega arith)

  pub length_front : length (front_of k sp fl s) ≡ 510
  unfolding front_of
  length_front = simp length-append (omega (arith, length_bytes 4 k, length_bytes 2 (length s), length_padded))

  pub length_block : length (block k sp fl s) ≡ 512
  unfolding block
  length_block = simp length-append (omega (arith, length_front, length_bytes 2 (check_of (front_of k sp fl s))))

  block_laid : Laid (block k sp fl s) (bytes_of 4 k) (bytes_of 2 (length s)) sp fl (padded 502 s) (bytes_of 2 (check_of (front_of k sp fl s)))
  unfolding block front_of
  block_laid =
      simp append_assoc
      (laid (bytes_of 4 k) (bytes_of 2 (length s)) sp fl (padded 502 s) (bytes_of 2 (check_of (front_of k sp fl s))) (length_bytes 4 k) (length_bytes 2 (length s)) length_padded)

  pub block_number : k < 256 ^ 4 → number (block k sp fl s) ≡ k
  unfolding number
  block_number h = rw block_laid.to_number (value_of_bytes 4 k h)

  pub block_used : used (block k sp fl s) ≡ length s
  unfolding used
  block_used = rw block_laid.to_used (value_of_bytes 2 (length s) (omega arith))

  pub block_space : space (block k sp fl s) ≡ sp
  unfolding space
  block_space = block_laid.to_space

  pub block_flag : flag (block k sp fl s) ≡ fl
  unfolding flag
  block_flag = block_laid.to_flag

  pub block_payload : payload (block k sp fl s) ≡ s
  unfolding payload area padded
  block_payload = rw (block_used, block_laid.to_area) (take_at s (replicate (502 - length s) 0) (length s) refl)

  pub block_padding : all (eqb 0) (padding (block k sp fl s)) ≡ true
  unfolding padding area padded
  block_padding = rw (block_used, block_laid.to_area, drop_at s (replicate (502 - length s) 0) (length s) refl) (all_zeros (502 - length s))

  front_first : front (block k sp fl s) ≡ front_of k sp fl s
  unfolding front block
  front_first = take_at (front_of k sp fl s) (bytes_of 2 (check_of (front_of k sp fl s))) 510 length_front

  pub block_checked : is_checked (block k sp fl s) ≡ true
  unfolding is_checked check
  block_checked =
      rw (block_laid.to_check, front_first)
      (eq-eqb _ _ (value_of_bytes 2 (check_of (front_of k sp fl s)) (check_below (front_of k sp fl s))))

-- ── 512 bytes that pass the tests ──

module _ (b : List ℕ) (size : length b ≡ 512) where
  length_area : length (area b) ≡ 502
  unfolding area
  length_area = length-take-le 502 (drop 8 b) (rw length-drop (omega arith))

  module _ (few : used b ≤ 502) where
    pub length_payload : length (payload b) ≡ used b
    unfolding payload
    length_payload = length-take-le (used b) (area b) (omega (arith, length_area))

    length_padding : length (padding b) ≡ 502 - length (payload b)
    unfolding padding
    length_padding = rw (length-drop, length_area, length_payload)

    joined : payload b ++ padding b ≡ area b
    unfolding payload padding
    joined = take-append-drop (used b) (area b)

    -- payload and padding are the 502 bytes
    padded_payload : all (eqb 0) (padding b) ≡ true → padded 502 (payload b) ≡ area b
    unfolding padded
    padded_payload z =
        ap (λ n. payload b ++ replicate n 0) (sym length_padding) ∙ ap (λ (t : List ℕ). payload b ++ t) (sym (zeros (padding b) z)) ∙ joined

  -- the front, field by field
  front_parts : front b ≡ take 4 b ++ (take 2 (drop 4 b) ++ (space b ∷ flag b ∷ area b))
  unfolding front space flag area
  front_parts =
      let s : drop 2 (drop 4 b) ≡ get_or b 6 0 ∷ get_or b 7 0 ∷ drop 8 b
      = drop-drop 2 4 b ∙ drop-cons b 6 0 (omega arith) ∙ ap (λ (t : List ℕ). get_or b 6 0 ∷ t) (drop-cons b 7 0 (omega arith)) in
      take-add 4 506 b ∙ ap (λ (t : List ℕ). take 4 b ++ t) (take-add 2 504 (drop 4 b) ∙ ap (λ (t : List ℕ). take 2 (drop 4 b) ++ take 504 t) s)

module _ (b : List ℕ) (size : length b ≡ 512) (bytes : Bytes b) where
  number_bytes : bytes_of 4 (number b) ≡ take 4 b
  unfolding number
  number_bytes = bytes_of_value 4 (take 4 b) (length-take-le 4 b (omega arith)) (bytes_take 4 b bytes)

  used_bytes : bytes_of 2 (used b) ≡ take 2 (drop 4 b)
  unfolding used
  used_bytes = bytes_of_value 2 (take 2 (drop 4 b)) (length-take-le 2 (drop 4 b) (rw length-drop (omega arith))) (bytes_take 2 (drop 4 b) (bytes_drop 4 b bytes))

  front_again : used b ≤ 502 → all (eqb 0) (padding b) ≡ true → front_of (number b) (space b) (flag b) (payload b) ≡ front b
  unfolding front_of
  front_again few z = rw (number_bytes, length_payload b size few, used_bytes, padded_payload b size few z) (sym (front_parts b size))

  check_again : is_checked b ≡ true → bytes_of 2 (check_of (front b)) ≡ drop 510 b
  unfolding is_checked check
  check_again c =
      ap (bytes_of 2) (sym (eqb-true (value_of (drop 510 b)) (check_of (front b)) c))
      ∙ bytes_of_value 2 (drop 510 b) (rw length-drop (omega arith)) (bytes_drop 510 b bytes)

  -- they are the block of their own fields
  pub block_again : is_checked b ≡ true → used b ≤ 502 → all (eqb 0) (padding b) ≡ true → block (number b) (space b) (flag b) (payload b) ≡ b
  unfolding block front
  block_again c few z = rw (front_again few z, check_again c) (take-append-drop 510 b)
