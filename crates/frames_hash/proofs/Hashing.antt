-- The arithmetic of the hash, and its way along bytes and along a table.
use Rattle.std.proofs.Common.{◌≡◌, ℕ, zero, suc, ◌+◌, ◌-◌, ◌*◌, ◌/◌, ◌%◌, ◌^◌, ◌<◌, ◌≤◌, List, [], ◌∷◌, ◌++◌, length, get_or, drop, ℤ, pos, negsuc, neg_ℤ, sym, refl, ap, ◌∙◌, add-one, arith, drop_of_length-le, drop-cons, w64, SFits, rules}
use native.Mathlib.Nat.{add-mod-mod, mul-add-mod_self_right}
use lib.Bits.{bit_xor}
use Rattle.cdi.specs.Rules.{natural}
use Rattle.cdi.specs.Values.{bytes_of, complement}
use Rattle.extent.proofs.Signed.{read, read_is}
use Rattle.scan.proofs.Along.{drop_next}
use Rattle.frames_hash.specs.Hash.{times_prime, hash_from, hash_of, table_bytes}

-- what each of the three parts leaves out is a multiple of 2^64
pub prime_times : (h m r : ℕ) → m ≡ (h / 4294967296 * 435 % 4294967296 * 4294967296 + h % 4294967296 * 435) % 2 ^ 64
    → r ≡ (h % 16777216 * 1099511627776 + m) % 2 ^ 64 → r ≡ times_prime h
unfolding times_prime
prime_times h m r p q =
    let high = h % 16777216 * 1099511627776 in
    let middle = h / 4294967296 * 435 % 4294967296 * 4294967296 in
    let low = h % 4294967296 * 435 in
    let k = h / 16777216 + h / 4294967296 * 435 / 4294967296 in
    let whole : h * 1099511628211 ≡ k * 2 ^ 64 + (high + (middle + low)) = omega arith in
    q
    ∙ ap (λ x. (high + x) % 2 ^ 64) p
    ∙ add-mod-mod high (middle + low) (2 ^ 64)
    ∙ sym (ap (λ x. x % 2 ^ 64) whole ∙ mul-add-mod_self_right k (2 ^ 64) (high + (middle + low)))

by_sign : (z : ℤ) (r : ℕ) → r < 2 ^ 64 → natural (neg_ℤ z) ≤ 2 ^ 63 → (r + natural (neg_ℤ z)) % 2 ^ 64 ≡ natural z → r ≡ complement 8 z
unfolding complement natural
by_sign (pos zero) r h l p = omega (arith, p)
by_sign (pos (suc n)) r h l p = omega (arith, p)
by_sign (negsuc n) r h l p = omega (arith, p)

pub bits_are : (z : ℤ) (r up down : ℕ) → r < 2 ^ 64 → SFits w64 z → up ≡ natural (read z) → down ≡ natural (neg_ℤ (read z)) → down ≤ 2 ^ 63
    → (r + down) % 2 ^ 64 ≡ up → r ≡ complement 8 z
bits_are z r up down h g u d l p =
    let e = ap (λ x. natural (neg_ℤ x)) (read_is z g) in
    let f = ap natural (read_is z g) in
    by_sign z r h (rw (← e, ← d) l) (rw (← e, ← d, ← f, ← u) p)

-- ── along bytes ──

-- what is left from i on, behind the sum, gives what the whole gives
pub record Summed (h : ℕ) (s : List ℕ) (sum i : ℕ) : Type 0 where
  pub left : hash_from h s ≡ hash_from sum (drop i s)

pub sum_start : (h : ℕ) (s : List ℕ) → Summed h s h 0
sum_start h s = record { left = refl }

module _ {h : ℕ} {s : List ℕ} {sum i : ℕ} (v : Summed h s sum i) where
  pub sum_next : i < length s → {n : ℕ} → n ≡ times_prime (bit_xor sum (get_or s i 0)) → Summed h s n (i + 1)
  unfolding hash_from
  sum_next l {n} e = record { left = v.left ∙ ap (hash_from sum) (drop_next s i l) ∙ ap (λ k. hash_from k (drop (i + 1) s)) (sym e) }

  pub sum_end : length s ≤ i → sum ≡ hash_from h s
  unfolding hash_from
  sum_end l = sym (v.left ∙ ap (hash_from sum) (drop_of_length-le s l))

-- the eight bytes of a number
pub sum_number : (h r v : ℕ) (z : ℤ) (b : List ℕ) → SFits w64 z → b ≡ bytes_of 8 v → v ≡ complement 8 (read z) → r ≡ hash_from h b
    → r ≡ hash_from h (bytes_of 8 (complement 8 z))
sum_number h r v z b g p q e = e ∙ ap (hash_from h) (p ∙ ap (bytes_of 8) (q ∙ ap (complement 8) (read_is z g)))

pub ruleset summing = (sum_start, sum_next, sum_end, sum_number, rules)

-- ── along a table ──

behind : (h : ℕ) (a b : List ℕ) → hash_from h (a ++ b) ≡ hash_from (hash_from h a) b
unfolding hash_from
behind h [] b = refl
behind h (x ∷ a) b = behind (times_prime (bit_xor h x)) a b

pub record Told (t : List ℤ) (sum i : ℕ) : Type 0 where
  pub left : hash_of (table_bytes t) ≡ hash_from sum (table_bytes (drop i t))

pub told_start : (t : List ℤ) → Told t 14695981039346656037 0
unfolding hash_of
told_start t = record { left = refl }

table_next : (t : List ℤ) (i : ℕ) → i < length t → table_bytes (drop i t) ≡ bytes_of 8 (complement 8 (get_or t i (pos 0))) ++ table_bytes (drop (i + 1) t)
unfolding table_bytes
table_next t i h = ap table_bytes (drop-cons t i (pos 0) h) ∙ ap (λ k. bytes_of 8 (complement 8 (get_or t i (pos 0))) ++ table_bytes (drop k t)) (sym (add-one i))

module _ {t : List ℤ} {sum i : ℕ} (v : Told t sum i) where
  pub told_next : i < length t → SFits w64 (get_or t i (pos 0)) → {n : ℕ} → n ≡ hash_from sum (bytes_of 8 (complement 8 (read (get_or t i (pos 0)))))
      → Told t n (i + 1)
  told_next l g {n} e =
      let number = bytes_of 8 (complement 8 (get_or t i (pos 0))) in
      let same : n ≡ hash_from sum number = e ∙ ap (λ z. hash_from sum (bytes_of 8 (complement 8 z))) (read_is (get_or t i (pos 0)) g) in
      record {
        left =
            v.left
            ∙ ap (hash_from sum) (table_next t i l)
            ∙ behind sum number (table_bytes (drop (i + 1) t))
            ∙ ap (λ k. hash_from k (table_bytes (drop (i + 1) t))) (sym same);
      }

  pub told_end : length t ≤ i → sum ≡ hash_of (table_bytes t)
  unfolding hash_from table_bytes
  told_end l = sym (v.left ∙ ap (λ x. hash_from sum (table_bytes x)) (drop_of_length-le t l))

pub ruleset telling = (told_start, told_next, told_end, rules)

-- ── published values ──

of_a : hash_of (97 ∷ []) ≡ 12638187200555641996
unfolding hash_of hash_from times_prime
of_a = refl

of_foobar : hash_of (102 ∷ 111 ∷ 111 ∷ 98 ∷ 97 ∷ 114 ∷ []) ≡ 9625390261332436968
unfolding hash_of hash_from times_prime
of_foobar = refl
