-- Bytes copied one by one.
use mathlib.Core.Path.{◌≡◌, refl, sym, ap, ◌∙◌}
use mathlib.Core.List.{List, [], ◌∷◌, ◌++◌}
use Prim.Native.Nat.{ℕ, ◌+◌, ◌<◌, ◌≤◌}
use native.Mathlib.Numerals.{add-one}
use native.Mathlib.Omega.{arith}
use borrow.Author.Rules.{rules}
use lib.ListN.{length, take, get_or, set, length-set}
use lib.Seq.{take_all, take-suc, take-suc-set}

-- the first i are copied
pub record Copied (s w : List ℕ) (i : ℕ) : Type 0 where
  pub size : length w ≡ length s
  pub is : take i w ≡ take i s

pub none_copied : (s w : List ℕ) → length w ≡ length s → Copied s w 0
none_copied s w h = record { size = h; is = refl }

module _ {s w : List ℕ} {i : ℕ} (v : Copied s w i) where
  pub one_copied : i < length w → Copied s (set w i (get_or s i 0)) (i + 1)
  one_copied h = record {
    size = length-set w i (get_or s i 0) ∙ v.size;
    is = rw add-one (take-suc-set w i (get_or s i 0) h ∙ ap (λ t. t ++ (get_or s i 0 ∷ [])) v.is ∙ sym (take-suc s i 0 (omega (arith, v.size))));
  }

  pub all_copied : length w ≤ i → w ≡ s
  all_copied h = sym (take_all i w h) ∙ v.is ∙ take_all i s (omega (arith, v.size))

pub ruleset copies = (none_copied, one_copied, all_copied, rules)
