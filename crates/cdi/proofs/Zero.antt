-- "Bytes after the first zero change no answer."
use mathlib.Core.Path.{◌≡◌, ap, ◌∙◌}
use mathlib.Core.List.{List, [], ◌∷◌, ◌++◌}
use mathlib.Core.Option.{some}
use Prim.Native.Nat.{ℕ, suc, ◌+◌, ◌-◌, ◌≤◌, ◌<◌}
use native.Mathlib.Nat.{zero-add}
use native.Mathlib.Omega.{arith}
use borrow.Author.Tests.{ne_eqb}
use lib.IntN.{ℤ}
use lib.ListN.{length, take}
use lib.Seq.{take-append_seam, take-append-add}
use Rattle.cdi.specs.Text.{zero_from, end_of, content}
use Rattle.cdi.specs.Planning.{ending, described, planned, table_after}
use Rattle.cdi.specs.Access.{Window, Value, setting_of, written, window_after, read}

-- no zero byte stands in c
unfoldable pub NoZero : List ℕ → Type 0
NoZero [] = Unit
NoZero (b ∷ c) = (b ≡ 0 → ⊥) × NoZero c

-- the first zero behind bytes without one
pub zero_at : (at : ℕ) (c x : List ℕ) → NoZero c → zero_from at (c ++ 0 ∷ x) ≡ some (at + length c)
unfolding zero_from NoZero
zero_at at [] x h = ap some (omega arith)
zero_at at (b ∷ c) x h = rw (ne_eqb b 0 h.0) (zero_at (at + 1) c x h.1 ∙ ap some (omega arith))

in_time : (n : ℕ) (c x : List ℕ) → length c < n → take n (c ++ 0 ∷ x) ≡ c ++ 0 ∷ take (n - suc (length c)) x
in_time n c x l =
    let e : n ≡ length c + suc (n - suc (length c)) = omega arith in
    ap (λ k. take k (c ++ 0 ∷ x)) e ∙ take-append-add c (0 ∷ x) (suc (n - suc (length c)))

-- the content ends before the first zero
pub content_is : (c x : List ℕ) → NoZero c → length c ≤ 65535 → content (c ++ 0 ∷ x) ≡ some c
unfolding content end_of
content_is c x h l = rw (in_time 65536 c x (omega arith), zero_at 0 c _ h, zero-add) (ap some (take-append_seam c (0 ∷ x)))

module _ (c x y : List ℕ) (h : NoZero c) (l : length c ≤ 65535) where
  -- planning up to 12
  pub described_alike : described (c ++ 0 ∷ x) ≡ described (c ++ 0 ∷ y)
  unfolding described ending
  described_alike = rw (content_is c x h l, content_is c y h l)

  -- planning: the answer, and the lent table
  pub planned_alike : (t : List ℤ) → planned (c ++ 0 ∷ x) t ≡ planned (c ++ 0 ∷ y) t
  unfolding planned
  planned_alike t = rw described_alike

  pub table_alike : (t : List ℤ) → table_after (c ++ 0 ∷ x) t ≡ table_after (c ++ 0 ∷ y) t
  unfolding table_after
  table_alike t = rw (described_alike, table_after)

  setting_alike : (t : List ℤ) (n : ℕ) → setting_of (c ++ 0 ∷ x) t n ≡ setting_of (c ++ 0 ∷ y) t n
  unfolding setting_of
  setting_alike t n = rw described_alike

  -- writing: the answer, and the window
  pub written_alike : (t : List ℤ) (n : ℕ) (w : Window) (v : Value) → written (c ++ 0 ∷ x) t n w v ≡ written (c ++ 0 ∷ y) t n w v
  unfolding written
  written_alike t n w v = rw (setting_alike t n)

  pub window_alike : (t : List ℤ) (n : ℕ) (w : Window) (v : Value) → window_after (c ++ 0 ∷ x) t n w v ≡ window_after (c ++ 0 ∷ y) t n w v
  unfolding window_after
  window_alike t n w v = rw (setting_alike t n, window_after)

  -- reading
  pub read_alike : (t : List ℤ) (n : ℕ) (w : Window) → read (c ++ 0 ∷ x) t n w ≡ read (c ++ 0 ∷ y) t n w
  unfolding read
  read_alike t n w = rw (setting_alike t n)
