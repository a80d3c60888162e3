-- A start tag's own faults: the least of them has the number that the code finds, from the levels that are left and the elements begun.
use mathlib.Core.Path.{◌≡◌, refl, sym, ap, ◌∙◌}
use mathlib.Core.List.{List, [], ◌∷◌, ◌++◌}
use mathlib.Core.Bool.{Bool, true, false, cond, not, ◌&&◌}
use mathlib.Core.Option.{Option, none, some}
use mathlib.Core.Logic.{⊎_elim}
use Prim.Native.Nat.{ℕ, ◌+◌, ◌≤◌, ◌<◌}
use native.Mathlib.Omega.{arith}
use borrow.Author.Rules.{rules}
use borrow.Author.Tests.{eq-eqb, ne_eqb, lt-ltb, le-ltb}
use lib.Dec.{eqb, leb, ltb}
use lib.ListN.{length}
use Rattle.cdi.specs.Lists.{is_empty, between}
use Rattle.cdi.specs.Faults.{Fault, fault, unless, rank, before, lesser, least}
use Rattle.cdi.specs.Pieces.{Attribute, start}
use Rattle.cdi.specs.Markup.{progress, outside, refers, piece_faults}
use Rattle.cdi.proofs.Quiet.{quiet}
use Rattle.scan.proofs.Tests.{lt_or_le, eq_or_ne}
use Rattle.parse_steps.specs.Asks.{begin_fault}

-- the code's ways, one law for each
module _ (r : Bool) (left b : ℕ) where
  pub begin_refers : r ≡ true → 5 ≡ begin_fault r left b
  unfolding begin_fault
  begin_refers e = rw e

  module _ (e : r ≡ false) where
    pub begin_deep : left ≡ 0 → 7 ≡ begin_fault r left b
    unfolding begin_fault
    begin_deep l = rw (e, l)

    module _ (l : left ≡ 0 → ⊥) where
      pub begin_root : b ≡ 0 → 0 ≡ begin_fault r left b
      unfolding begin_fault
      begin_root k = rw (e, ne_eqb left 0 l, k)

      module _ (k : b ≡ 0 → ⊥) where
        pub begin_second : left ≡ 24 → 6 ≡ begin_fault r left b
        unfolding begin_fault
        begin_second m = rw (e, ne_eqb left 0 l, ne_eqb b 0 k, eq-eqb left 24 m)

        module _ (m : left ≡ 24 → ⊥) where
          pub begin_child : b < 4096 → 0 ≡ begin_fault r left b
          unfolding begin_fault
          begin_child h = rw (e, ne_eqb left 0 l, ne_eqb b 0 k, ne_eqb left 24 m, lt-ltb b 4096 h)

          pub begin_many : 4096 ≤ b → 7 ≡ begin_fault r left b
          unfolding begin_fault
          begin_many h = rw (e, ne_eqb left 0 l, ne_eqb b 0 k, ne_eqb left 24 m, le-ltb b 4096 h)

pub ruleset begin_ways = (begin_refers, begin_deep, begin_root, begin_second, begin_child, begin_many, rules)

-- at one place the number of the smaller rank speaks
lower : (a b p : ℕ) → leb (rank a) (rank b) ≡ true → before (fault a p) (fault b p) ≡ true
unfolding before
lower a b p e = rw (le-ltb p p (omega arith), eq-eqb p p refl, e)

-- the least of up to three faults at one place
three : (p : ℕ) (x y z : Bool) → least (unless (not x) (fault 5 p) ++ (unless (not y) (fault 6 p) ++ unless z (fault 7 p))) ≡ cond x (some (fault 5 p)) (cond y (some (fault 6 p)) (cond z none (some (fault 7 p))))
unfolding unless least lesser rank between
three p true true true = rw (lower 5 6 p refl)
three p true true false = rw (lower 6 7 p refl, lower 5 6 p refl)
three p true false true = refl
three p true false false = rw (lower 5 7 p refl)
three p false true true = refl
three p false true false = rw (lower 6 7 p refl)
three p false false true = refl
three p false false false = refl

nothing_open : (ms : List (List ℕ)) → length ms ≡ 0 → is_empty ms ≡ true
unfolding is_empty
nothing_open [] e = refl
nothing_open (m ∷ ms) e = absurd (omega arith)

something_open : (ms : List (List ℕ)) → (length ms ≡ 0 → ⊥) → is_empty ms ≡ false
unfolding is_empty
something_open [] e = absurd (e refl)
something_open (m ∷ ms) e = refl

-- inside the root
pub inside : (ms : List (List ℕ)) (b left : ℕ) → left < 24 → length ms + left ≡ 24 → outside (progress ms b) ≡ false
unfolding outside
inside ms b left l h = something_open ms (λ e. omega arith)

and-false : (x : Bool) → (x && false) ≡ false
and-false true = refl
and-false false = refl

-- the fault of that number, where it is not 0
told : ℕ → ℕ → Option Fault
told k p = cond (eqb k 0) none (some (fault k p))

module _ (ms : List (List ℕ)) (b left : ℕ) (h : length ms + left ≡ 24) (p : ℕ) where
  -- what speaks where no attribute has `&`: a second root, then depth or number
  abbrev speaks : Option Fault
  speaks = cond (is_empty ms && ltb 0 b) (some (fault 6 p)) (cond (ltb (length ms) 24 && ltb b 4096) none (some (fault 7 p)))

  abbrev numbered : ℕ
  numbered = cond (eqb left 0) 7 (cond (eqb b 0) 0 (cond (eqb left 24) 6 (cond (ltb b 4096) 0 7)))

  deep : left ≡ 0 → speaks ≡ told numbered p
  unfolding told
  deep l = rw (something_open ms (λ e. omega arith), l, le-ltb (length ms) 24 (omega arith))

  module _ (l : left ≡ 0 → ⊥) where
    root : b ≡ 0 → speaks ≡ told numbered p
    unfolding told
    root k = rw (k, and-false (is_empty ms), ne_eqb left 0 l, lt-ltb (length ms) 24 (omega arith))

    module _ (k : b ≡ 0 → ⊥) where
      second : left ≡ 24 → speaks ≡ told numbered p
      unfolding told
      second m = rw (nothing_open ms (omega arith), ne_eqb left 0 l, ne_eqb b 0 k, eq-eqb left 24 m, lt-ltb 0 b (omega arith))

      module _ (m : left ≡ 24 → ⊥) where
        child : b < 4096 → speaks ≡ told numbered p
        unfolding told
        child g = rw (something_open ms (λ e. omega arith), ne_eqb left 0 l, ne_eqb b 0 k, ne_eqb left 24 m, lt-ltb b 4096 g, lt-ltb (length ms) 24 (omega arith))

        many : 4096 ≤ b → speaks ≡ told numbered p
        unfolding told
        many g = rw (something_open ms (λ e. omega arith), ne_eqb left 0 l, ne_eqb b 0 k, ne_eqb left 24 m, le-ltb b 4096 g, and-false (ltb (length ms) 24))

  by_number : (x : Bool) → cond x (some (fault 5 p)) speaks ≡ told (begin_fault x left b) p
  unfolding told begin_fault
  by_number true = refl
  by_number false = ⊎_elim deep (λ l. ⊎_elim (root l) (λ k. ⊎_elim (second l k) (λ m. ⊎_elim (child l k m) (many l k m) (lt_or_le b 4096)) (eq_or_ne left 24)) (eq_or_ne b 0)) (eq_or_ne left 0)

module _ (ms : List (List ℕ)) (b left : ℕ) (h : length ms + left ≡ 24) (p : ℕ) (n : List ℕ) (xs : List Attribute) (e : Bool) {x : Bool} (q : x ≡ refers xs) {k : ℕ} (f : k ≡ begin_fault x left b) where
  start_least : least (piece_faults (progress ms b) p (start n xs e)) ≡ told k p
  unfolding piece_faults outside
  start_least = rw (← q) (three p x (is_empty ms && ltb 0 b) (ltb (length ms) 24 && ltb b 4096)) ∙ by_number ms b left h p x ∙ ap (λ (j : ℕ). told j p) (sym f)

  -- A start tag whose number is 0 has no fault.
  pub start_clean : k ≡ 0 → piece_faults (progress ms b) p (start n xs e) ≡ []
  unfolding told
  start_clean z = quiet _ (start_least ∙ rw z)

  -- Else that is the number of its least fault.
  pub start_refused : (k ≡ 0 → ⊥) → least (piece_faults (progress ms b) p (start n xs e)) ≡ some (fault k p)
  unfolding told
  start_refused z = start_least ∙ rw (ne_eqb k 0 z)
