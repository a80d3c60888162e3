-- Words that every page of the definitions uses: tests on lists of bytes, parts of them, and answers that may be missing.
use Rattle.std.specs.Prelude.{List, [], ◌∷◌, Bool, true, false, cond, ◌&&◌, ◌||◌, ℕ, eqb, leb, length, drop}
use Rattle.std.proofs.Math.Option.{Option, none, some}
use Prim.Native.String as S
use Prim.Native.String.{String}
use Prim.Native.Char.{code}

-- the bytes of a text in ASCII
abbrev pub ascii : String → List ℕ
ascii S.[] = []
ascii (S.◌∷◌ c s) = code c ∷ ascii s

module _ {A B : Type 0} where
  infixl 20 ◌>>=◌
  -- go on with what is there
  abbrev pub ◌>>=◌ : Option A → (A → Option B) → Option B
  none >>= f = none
  some a >>= f = f a

  -- what is made of it, or else the other answer
  abbrev pub given : Option A → B → (A → B) → B
  given none b f = b
  given (some a) b f = f a

module _ {A : Type 0} where
  infixr 25 ◌or_else◌
  -- the first of the two that is there
  abbrev pub ◌or_else◌ : Option A → Option A → Option A
  none or_else o = o
  some a or_else o = some a

  unfoldable pub is_some : Option A → Bool
  is_some none = false
  is_some (some a) = true

  unfoldable pub is_empty : List A → Bool
  is_empty [] = true
  is_empty (x ∷ xs) = false

  unfoldable pub any : (A → Bool) → List A → Bool
  any p [] = false
  any p (x ∷ xs) = p x || any p xs

  unfoldable pub all : (A → Bool) → List A → Bool
  all p [] = true
  all p (x ∷ xs) = p x && all p xs

-- the longest beginning of which every byte passes
unfoldable pub while : (ℕ → Bool) → List ℕ → List ℕ
while p [] = []
while p (x ∷ s) = let r = x ∷ while p s in cond (p x) r []

-- what follows it
unfoldable pub after : (ℕ → Bool) → List ℕ → List ℕ
after p [] = []
after p (x ∷ s) = let r = after p s in cond (p x) r (x ∷ s)

-- what is left without the passing bytes at the end
unfoldable pub shorn : (ℕ → Bool) → List ℕ → List ℕ
shorn p [] = []
shorn p (x ∷ s) = let r = shorn p s in cond (p x && is_empty r) [] (x ∷ r)

-- two byte strings are the same
unfoldable pub same : List ℕ → List ℕ → Bool
same [] [] = true
same [] (y ∷ t) = false
same (x ∷ s) [] = false
same (x ∷ s) (y ∷ t) = eqb x y && same s t

unfoldable pub among : List ℕ → List (List ℕ) → Bool
among s ts = any (same s) ts

-- s begins with the word w
unfoldable pub begins : List ℕ → List ℕ → Bool
begins [] s = true
begins (x ∷ w) [] = false
begins (x ∷ w) (y ∷ s) = eqb x y && begins w s

-- what follows the word w at the front of s
unfoldable pub strip : List ℕ → List ℕ → Option (List ℕ)
strip w s = cond (begins w s) (some (drop (length w) s)) none

-- what follows the first word w in s
unfoldable pub beyond : List ℕ → List ℕ → Option (List ℕ)
beyond w [] = none
beyond w (x ∷ s) = let r = beyond w s in cond (begins w (x ∷ s)) (some (drop (length w) (x ∷ s))) r

unfoldable pub between : ℕ → ℕ → ℕ → Bool
between lo hi x = leb lo x && leb x hi

-- opens this page: a declaration that computes with it says `unfolding lists_page`
unfoldable pub lists_page : Unit {0}
unfolding is_some is_empty any all while after shorn same among begins strip beyond between
lists_page = tt
