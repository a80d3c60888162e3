-- Blocks judged one by one say what reading says.
use mathlib.Core.Path.{◌≡◌, refl, sym, ap, ◌∙◌}
use mathlib.Core.List.{List}
use mathlib.Core.Bool.{true}
use mathlib.Core.Option.{Option, none, some}
use Prim.Native.Nat.{ℕ, zero, suc, ◌+◌, ◌-◌, ◌*◌, ◌/◌, ◌%◌, ◌<◌, ◌≤◌}
use native.Mathlib.Omega.{arith}
use borrow.Author.Tests.{leb-true, eqb-true, eq-eqb}
use lib.Dec.{eqb, leb}
use lib.ListN.{length, take, drop, length-drop}
use lib.Seq.{drop-drop, length-take-le}
use Rattle.cdi.specs.Lists.{◌or_else◌}
use Rattle.cdi.specs.Faults.{Fault, Answer, accepted, refused, stage}
use Rattle.cdi.proofs.Tests.{parts}
use Rattle.cdi.proofs.Quiet.{impossible, same_refused}
use Rattle.blocks.specs.Backups.{is_whole, cause_of, judging, first_bad, blocks_in}

-- the block at this position
abbrev pub block_at : ℕ → List ℕ → List ℕ
block_at k b = take 512 (drop (512 * k) b)

next_block : (j : ℕ) (b : List ℕ) → block_at (suc j) b ≡ block_at j (drop 512 b)
next_block j b =
    let e : 512 * suc j ≡ 512 + 512 * j = omega arith in
    ap (λ n. take 512 (drop n b)) e ∙ ap (take 512) (sym (drop-drop (512 * j) 512 b))

-- what is wrong with the block at position k + j, of n blocks of which the first is at position k
abbrev cause_at : ℕ → ℕ → ℕ → List ℕ → ℕ → Option Fault
cause_at n k sp b j = cause_of (k + j) (n - 1 - j) sp (block_at j b)

first_cause : (n k sp : ℕ) (b : List ℕ) → cause_at (suc n) k sp b 0 ≡ cause_of k n sp (take 512 b)
first_cause n k sp b =
    let e : k + 0 ≡ k = omega arith in
    let f : suc n - 1 - 0 ≡ n = omega arith in
    ap (λ i. cause_of i (suc n - 1 - 0) sp (take 512 b)) e ∙ ap (λ m. cause_of k m sp (take 512 b)) f

next_cause : (n k sp : ℕ) (b : List ℕ) (j : ℕ) → cause_at (suc n) k sp b (suc j) ≡ cause_at n (k + 1) sp (drop 512 b) j
next_cause n k sp b j =
    let e : k + suc j ≡ k + 1 + j = omega arith in
    let f : suc n - 1 - suc j ≡ n - 1 - j = omega arith in
    ap (λ i. cause_of i (suc n - 1 - suc j) sp (block_at (suc j) b)) e
    ∙ ap (λ m. cause_of (k + 1 + j) m sp (block_at (suc j) b)) f
    ∙ ap (cause_of (k + 1 + j) (n - 1 - j) sp) (next_block j b)

none_first : (x y : Option Fault) → x ≡ none → (x or_else y) ≡ y
none_first x y e = rw e

some_first : (x y : Option Fault) (f : Fault) → x ≡ some f → (x or_else y) ≡ some f
some_first x y f e = rw e

-- where all before it are good, the fault of the block is that of all
pub found_from : (n k sp : ℕ) (b : List ℕ) (i : ℕ) (f : Fault) → i < n → ((j : ℕ) → j < i → cause_at n k sp b j ≡ none) → cause_at n k sp b i ≡ some f → first_bad k n sp b ≡ some f
unfolding first_bad
found_from zero k sp b i f h g e = absurd (omega arith)
found_from (suc n) k sp b zero f h g e = some_first (cause_of k n sp (take 512 b)) _ f (sym (first_cause n k sp b) ∙ e)
found_from (suc n) k sp b (suc i) f h g e =
    none_first (cause_of k n sp (take 512 b)) _ (sym (first_cause n k sp b) ∙ g 0 (omega arith))
    ∙ found_from n (k + 1) sp (drop 512 b) i f (omega arith) (λ j l. sym (next_cause n k sp b j) ∙ g (suc j) (omega arith)) (sym (next_cause n k sp b i) ∙ e)

-- where all are good there is none
pub none_from : (n k sp : ℕ) (b : List ℕ) → ((j : ℕ) → j < n → cause_at n k sp b j ≡ none) → first_bad k n sp b ≡ none
unfolding first_bad
none_from zero k sp b g = refl
none_from (suc n) k sp b g =
    none_first (cause_of k n sp (take 512 b)) _ (sym (first_cause n k sp b) ∙ g 0 (omega arith))
    ∙ none_from n (k + 1) sp (drop 512 b) (λ j l. sym (next_cause n k sp b j) ∙ g (suc j) (omega arith))

-- ── a block by itself ──

no_fault : (o : Option Fault) → stage {A = Unit {0}} o tt ≡ accepted tt → o ≡ none
no_fault none e = refl
no_fault (some f) e = impossible (cc)

its_fault : (o : Option Fault) (f : Fault) → stage {A = Unit {0}} o tt ≡ refused f → o ≡ some f
its_fault none f e = impossible (cc)
its_fault (some g) f e = ap (λ (x : Fault). some x) (same_refused e)

module _ (k n sp : ℕ) (c : List ℕ) (size : length c ≡ 512) where
  by_cause : judging k n sp c ≡ stage (cause_of k n sp c) tt
  unfolding judging
  by_cause = rw (eq-eqb (length c) 512 size)

  pub judged_good : judging k n sp c ≡ accepted tt → cause_of k n sp c ≡ none
  judged_good e = no_fault (cause_of k n sp c) (sym by_cause ∙ e)

  pub judged_bad : (f : Fault) → judging k n sp c ≡ refused f → cause_of k n sp c ≡ some f
  judged_bad f e = its_fault (cause_of k n sp c) f (sym by_cause ∙ e)

-- every block of whole ones has 512 bytes
pub block_size : (b : List ℕ) (k : ℕ) → is_whole b ≡ true → k < blocks_in b → length (block_at k b) ≡ 512
unfolding is_whole blocks_in
block_size b k h l =
    let p = parts (leb 1 (length b)) (eqb (length b % 512) 0) h in
    let m = eqb-true (length b % 512) 0 p.1 in
    length-take-le 512 (drop (512 * k) b) (rw length-drop (omega arith))
