-- Numbers written into a list, part by part, in any order of the parts.
use mathlib.Core.Path.{◌≡◌, refl, sym, ap, ◌∙◌}
use mathlib.Core.List.{List, [], ◌∷◌, ◌++◌}
use Prim.Native.Nat.{ℕ, suc, ◌+◌, ◌≤◌, ◌<◌}
use native.Mathlib.Omega.{arith}
use lib.ListN.{length, set}
use lib.Seq.{sets, set_comm}

module _ {A : Type 0} where
  -- Two parts written one after the other are written as one.
  pub sets_append : (t : List A) (a b : ℕ) (xs ys : List A) → b ≡ a + length xs → sets t a (xs ++ ys) ≡ sets (sets t a xs) b ys
  sets_append t a b [] ys e = ap (λ (k : ℕ). sets t k ys) (omega arith)
  sets_append t a b (x ∷ xs) ys e = sets_append (set t a x) (suc a) b xs ys (omega arith)

  set_before : (t : List A) (a b : ℕ) (x : A) (ys : List A) → a < b → set (sets t b ys) a x ≡ sets (set t a x) b ys
  set_before t a b x [] l = refl
  set_before t a b x (y ∷ ys) l =
      set_before (set t b y) a (suc b) x ys (omega arith)
      ∙ ap (λ (u : List A). sets u (suc b) ys) (set_comm t b a y x (λ e. omega arith))

  -- A part may be written after one that lies behind it.
  pub sets_before : (t : List A) (a b : ℕ) (xs ys : List A) → a + length xs ≤ b → sets (sets t b ys) a xs ≡ sets (sets t a xs) b ys
  sets_before t a b [] ys l = refl
  sets_before t a b (x ∷ xs) ys l =
      ap (λ (u : List A). sets u (suc a) xs) (set_before t a b x ys (omega arith))
      ∙ sets_before (set t a x) (suc a) b xs ys (omega arith)

  -- A part, and before it one that is written later, and behind it a third, are written as one.
  pub sets_three : (t : List A) (a b c : ℕ) (xs ys zs : List A) → b ≡ a + length xs → c ≡ b + length ys
      → sets (sets (sets t b ys) a xs) c zs ≡ sets t a (xs ++ (ys ++ zs))
  sets_three t a b c xs ys zs e f =
      ap (λ (u : List A). sets u c zs) (sets_before t a b xs ys (omega arith))
      ∙ sym (sets_append (sets t a xs) b c ys zs f)
      ∙ sym (sets_append t a b xs (ys ++ zs) e)
