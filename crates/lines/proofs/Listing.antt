-- The lines of many variables.
use mathlib.Core.Path.{◌≡◌, sym, ap, ◌∙◌}
use mathlib.Core.List.{List, []}
use Prim.Native.Nat.{ℕ, suc, ◌+◌, ◌-◌, ◌*◌, ◌≤◌, ◌<◌}
use native.Mathlib.Nat.{add-zero}
use native.Mathlib.Omega.{arith}
use borrow.Author.Rules.{rules}
use lib.ListN.{take, drop, get_or}
use lib.Seq.{get_or-drop, drop-drop}
use Rattle.lines_items.specs.Bytes.{line, lines_in}

-- i of the variables have their lines, and what is left gives what the whole gives
pub record Lined (o : List ℕ) (n : ℕ) (xs : List ℕ) (count at i : ℕ) : Type 0 where
  pub left : lines_in [] n xs count ≡ lines_in (take at o) (n + i) (drop (i * 5) xs) (count - i)

no_less : (n : ℕ) → n ≡ n - 0
no_less n = omega arith

pub lined_start : (o : List ℕ) (n : ℕ) (xs : List ℕ) (count : ℕ) → Lined o n xs count 0 0
lined_start o n xs count =
    record { left = ap (lines_in [] n xs) (no_less count) ∙ ap (λ (m : ℕ). lines_in [] m xs (count - 0)) (sym (add-zero n)) }

one_step : (s : List ℕ) (m : ℕ) (xs : List ℕ) (j k : ℕ)
    → lines_in s m (drop j xs) (suc k)
    ≡ lines_in (line s m (get_or xs (j + 1) 0) (get_or xs (j + 2) 0) (get_or xs (j + 3) 0) (get_or xs (j + 4) 0)) (m + 1) (drop (j + 5) xs) k
unfolding lines_in
one_step s m xs j k = rw (get_or-drop j xs 1 0, get_or-drop j xs 2 0, get_or-drop j xs 3 0, get_or-drop j xs 4 0, drop-drop 5 j xs)

module _ {o : List ℕ} {n : ℕ} {xs : List ℕ} {count at i : ℕ} (v : Lined o n xs count at i) where
  pub lined_next : i < count → (o' : List ℕ) (r : ℕ)
      → take r o' ≡ line (take at o) (n + i) (get_or xs (i * 5 + 1) 0) (get_or xs (i * 5 + 2) 0) (get_or xs (i * 5 + 3) 0) (get_or xs (i * 5 + 4) 0)
      → Lined o' n xs count r (i + 1)
  lined_next h o' r p =
      let e : count - i ≡ suc (count - (i + 1)) = omega arith in
      let m : (n + i) + 1 ≡ n + (i + 1) = omega arith in
      let d : i * 5 + 5 ≡ (i + 1) * 5 = omega arith in
      record {
        left =
            v.left
            ∙ ap (lines_in (take at o) (n + i) (drop (i * 5) xs)) e
            ∙ one_step (take at o) (n + i) xs (i * 5) (count - (i + 1))
            ∙ ap (λ (t : List ℕ). lines_in t ((n + i) + 1) (drop (i * 5 + 5) xs) (count - (i + 1))) (sym p)
            ∙ ap (λ (a : ℕ). lines_in (take r o') a (drop (i * 5 + 5) xs) (count - (i + 1))) m
            ∙ ap (λ (b : ℕ). lines_in (take r o') (n + (i + 1)) (drop b xs) (count - (i + 1))) d;
      }

  pub lined_end : count ≤ i → take at o ≡ lines_in [] n xs count
  unfolding lines_in
  lined_end h =
      let e : count - i ≡ 0 = omega arith in
      sym (v.left ∙ ap (lines_in (take at o) (n + i) (drop (i * 5) xs)) e)

pub ruleset lining = (lined_start, lined_next, lined_end, rules)
