-- The loop of the check, word by word, and the check that a block says.
use mathlib.Core.Path.{◌≡◌, sym, ap, ◌∙◌}
use mathlib.Core.List.{List, ◌∷◌}
use Prim.Native.Nat.{ℕ, suc, ◌+◌, ◌*◌, ◌/◌, ◌%◌, ◌<◌, ◌≤◌}
use native.Mathlib.Nat.{add-mul-mod_self_left}
use native.Mathlib.Omega.{arith}
use borrow.Author.Rules.{rules}
use lib.Dec.{eqb}
use lib.ListN.{length, take, drop, get_or, drop_of_length-le}
use lib.Seq.{drop-cons}
use Rattle.cdi.specs.Values.{value_of}
use Rattle.blocks.specs.Blocks.{words, sum, check_of, front, check}
use Rattle.blocks.specs.Backups.{is_checked}

-- the first k words are in 256 times the total, up to a multiple of 65,535
pub record Summing (s : List ℕ) (total k : ℕ) : Type 0 where
  pub size : length s ≡ 510
  pub left : (256 * total + sum (words (drop (2 * k) s))) % 65535 ≡ sum (words s) % 65535
  pub high : k ≤ 255
  pub small : total ≤ 65536 * k

pub start : (s : List ℕ) → length s ≡ 510 → Summing s 0 0
start s h =
    let z : 256 * 0 + sum (words s) ≡ sum (words s) = omega arith in
    record { size = h; left = ap (λ k. k % 65535) z; high = omega arith; small = omega arith }

one_word : (s : List ℕ) (i : ℕ) → i + 1 < length s → sum (words (drop i s)) ≡ get_or s i 0 * 256 + get_or s (i + 1) 0 + sum (words (drop (i + 2) s))
unfolding words sum
one_word s i h =
    let e : suc i ≡ i + 1 = omega arith in
    let f : suc (i + 1) ≡ i + 2 = omega arith in
    ap (λ t. sum (words t))
    (drop-cons s i 0 (omega arith)
    ∙ ap (λ (t : List ℕ). get_or s i 0 ∷ t) (ap (λ k. drop k s) e ∙ drop-cons s (i + 1) 0 h ∙ ap (λ k. get_or s (i + 1) 0 ∷ drop k s) f))

module _ {s : List ℕ} {total k : ℕ} (v : Summing s total k) where
  pub next : (r : ℕ) → k < 255 → r ≡ get_or s (2 * k) 0 + get_or s (2 * k + 1) 0 * 256 → r < 65536 → Summing s (total + r) (k + 1)
  next r h e l =
      let a = one_word s (2 * k) (omega (arith, v.size)) in
      let i : 2 * (k + 1) ≡ 2 * k + 2 = omega arith in
      let c : 256 * (total + r) + sum (words (drop (2 * k + 2) s)) ≡ 256 * total + sum (words (drop (2 * k) s)) + 65535 * get_or s (2 * k + 1) 0 = omega arith in
      record {
        size = v.size;
        left = rw i (ap (λ k. k % 65535) c ∙ add-mul-mod_self_left (256 * total + sum (words (drop (2 * k) s))) 65535 (get_or s (2 * k + 1) 0) ∙ v.left);
        high = omega arith;
        small = omega (arith, v.small);
      }

  pub done : 255 ≤ k → total % 65535 * 256 % 65535 ≡ check_of s
  unfolding check_of words sum
  done h =
      let z : sum (words (drop (2 * k) s)) ≡ 0 = ap (λ t. sum (words t)) (drop_of_length-le s {i = 2 * k} (omega (arith, v.size))) in
      let t : 256 * total + sum (words (drop (2 * k) s)) ≡ 256 * total = omega arith in
      turned total ∙ ap (λ k. k % 65535) (sym t) ∙ v.left
    where
      turned : (n : ℕ) → n % 65535 * 256 % 65535 ≡ 256 * n % 65535
      turned n =
          let e : n % 65535 * 256 + 65535 * (256 * (n / 65535)) ≡ 256 * n = omega arith in
          sym (add-mul-mod_self_left (n % 65535 * 256) 65535 (256 * (n / 65535))) ∙ ap (λ k. k % 65535) e

pub ruleset summing = (start, next, done, rules)

-- the check that a block says is that of its front
pub checked : (b : List ℕ) (said total : ℕ) → said ≡ value_of (drop 510 b) → total ≡ check_of (take 510 b) → eqb said total ≡ is_checked b
unfolding is_checked check front
checked b said total e f = rw (e, f)

pub ruleset checking = (checked, rules)
