-- An entry as it is stored, part by part.
use mathlib.Core.Path.{◌≡◌, refl, sym, ap, ◌∙◌}
use mathlib.Core.List.{List, [], ◌++◌, append-nil, append_assoc}
use Prim.Native.Nat.{ℕ, ◌+◌, ◌-◌, ◌≤◌}
use native.Mathlib.Omega.{arith}
use borrow.Author.Rules.{rules}
use borrow.Rule.Slice.PartMut.{mid_of, post_of, put_mid}
use lib.ListN.{length, take, drop, length-append, length-take, length-drop}
use lib.Seq.{take_at, drop_at, drop-drop, drop-length}
use Rattle.cdi.specs.Values.{bytes_of, padded}
use Rattle.cdi.proofs.Bytes.{length_bytes}
use Rattle.undo_model.specs.Journal.{entry_bytes}
use Rattle.undo_entries.specs.Begun.{entry_for}

-- nothing stands behind the last byte
nothing_behind : (s : List ℕ) (k : ℕ) → length s ≡ k → drop k s ≡ []
nothing_behind s k e = rw (← e) (drop-length s)

-- a text that fills its part has no zero behind it
unpadded : (k : ℕ) (s : List ℕ) → length s ≡ k → padded k s ≡ s
unfolding padded
unpadded k s e = let z : k - length s ≡ 0 = omega arith in rw z (append-nil s)

-- the second four bytes
second_put : (p q r : List ℕ) → length p ≡ 4 → length q ≡ 4 → put_mid 4 4 (p ++ r) q ≡ p ++ (q ++ drop 4 r)
second_put p q r l m = rw (take_at p r 4 l, drop_at p r 4 l)

-- the rest
last_put : (p q r o : List ℕ) (k : ℕ) → length p ≡ 4 → length q ≡ 4 → length r ≡ k → put_mid 8 k (p ++ (q ++ r)) o ≡ p ++ (q ++ o)
last_put p q r o k l m h =
    let w : length (p ++ q) ≡ 8 = length-append p q ∙ omega arith in
    let f : take 8 ((p ++ q) ++ r) ≡ p ++ q = take_at (p ++ q) r 8 w in
    let g : drop 8 ((p ++ q) ++ r) ≡ r = drop_at (p ++ q) r 8 w in
    rw (← append_assoc p q r, f, g, nothing_behind r k h, append-nil o) (append_assoc p q o)

module _ (e old : List ℕ) (sized : length e ≡ 8 + length old) (n : ℕ) where
  module _ {p : List ℕ} (first : p ≡ bytes_of (length (mid_of 0 4 e)) n) {q : List ℕ} (second : q ≡ bytes_of (length (mid_of 4 4 (p ++ post_of 0 4 e))) (length old)) where
    p_is : p ≡ bytes_of 4 n
    p_is = let l : length (mid_of 0 4 e) ≡ 4 = simp (length-take) (omega arith) in first ∙ ap (λ k. bytes_of k n) l

    p_length : length p ≡ 4
    p_length = ap length p_is ∙ length_bytes 4 n

    q_is : q ≡ bytes_of 4 (length old)
    q_is =
        let l : length (mid_of 4 4 (p ++ post_of 0 4 e)) ≡ 4 = simp (length-take, length-drop, length-append) (omega (arith, p_length)) in
        second ∙ ap (λ k. bytes_of k (length old)) l

    q_length : length q ≡ 4
    q_length = ap length q_is ∙ length_bytes 4 (length old)

    pub entry_kept : {o : List ℕ} → o ≡ padded (length (mid_of 8 (length e - 8) (put_mid 4 4 (p ++ post_of 0 4 e) q))) old
        → put_mid 8 (length e - 8) (put_mid 4 4 (p ++ post_of 0 4 e) q) o ≡ entry_bytes (entry_for n old)
    unfolding entry_bytes entry_for
    entry_kept {o} third =
        let r = drop 4 (post_of 0 4 e) in
        let y : put_mid 4 4 (p ++ post_of 0 4 e) q ≡ p ++ (q ++ r) = second_put p q (post_of 0 4 e) p_length q_length in
        let k : length r ≡ length e - 8 = simp (length-drop) (omega arith) in
        let l : length (mid_of 8 (length e - 8) (p ++ (q ++ r))) ≡ length old = simp (length-take, length-drop, length-append) (omega (arith, p_length, q_length, k)) in
        let i : o ≡ old = third ∙ ap (λ x. padded (length (mid_of 8 (length e - 8) x)) old) y ∙ ap (λ x. padded x old) l ∙ unpadded (length old) old refl in
        rw y (last_put p q r o (length e - 8) p_length q_length k ∙ rw (p_is, q_is, i))

pub ruleset keeping = (entry_kept, rules)
