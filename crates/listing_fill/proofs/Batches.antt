-- Filling: joined stretches, skipped stretches, a full batch, and the batch that comes out.
use mathlib.Core.Path.{◌≡◌, refl, ap, ap₂, ◌∙◌}
use mathlib.Core.List.{List, [], ◌∷◌, ◌++◌, map, map-append}
use mathlib.Core.Bool.{cond}
use Prim.Native.Nat.{ℕ, zero, suc, ◌+◌, ◌*◌, ◌-◌, ◌/◌, ◌≤◌, ◌<◌}
use native.Mathlib.Omega.{arith}
use native.Mathlib.Decide.{dec_lt}
use native.Mathlib.Numerals.{add-one, add-two, add-three, add-four}
use borrow.Author.Tests.{lt-ltb, le-ltb}
use lib.Dec.{ltb}
use lib.ListN.{length, take, drop, set, length-map, length-take}
use lib.Seq.{sets, sets-eq, take-nil, drop-nil}
use lib.IntN.{ℤ, ◌+ℤ◌}
use Rattle.cdi.specs.Walk.{Found, found, Variable, Step, change, count, variables}
use Rattle.cdi.proofs.Walked.{variables_append, count_variables}
use Rattle.listing_fill.specs.Batch.{numbers_of, batch, listed}
use Rattle.listing_fill.specs.Filling.{found_at, put, Filling, filling, one, fill, met}

-- ── the variables met ──

pub met_append : (space : ℕ) (a : ℤ) (s r : List Step) → met space a (s ++ r) ≡ met space a s ++ met space (a +ℤ change s) r
unfolding met
met_append space a s r =
    ap (λ (l : List Variable). map (found space) l) (variables_append a s r) ∙ map-append (found space) (variables a s) (variables (a +ℤ change s) r)

pub length_met : (space : ℕ) (a : ℤ) (s : List Step) → length (met space a s) ≡ count s
unfolding met
length_met space a s = length-map (variables a s) (found space) ∙ count_variables a s

-- ── filling ──

module _ (room : ℕ) where
  pub fill_append : (st : Filling) (p q : List Found) → fill room st (p ++ q) ≡ fill room (fill room st p) q
  unfolding fill
  fill_append st [] q = refl
  fill_append st (f ∷ p) q = fill_append (one room st f) p q

  -- a stretch that is skipped whole
  pub fill_skip : (p : List Found) (s k : ℕ) (o : List ℕ) → length p ≤ s → fill room (filling s k o) p ≡ filling (s - length p) k o
  unfolding fill one
  fill_skip [] s k o h = ap (λ (n : ℕ). filling n k o) (omega arith)
  fill_skip (f ∷ p) zero k o h = absurd (omega arith)
  fill_skip (f ∷ p) (suc s) k o h =
      let e : suc s - 1 ≡ s = omega arith in
      let z : s - length p ≡ suc s - suc (length p) = omega arith in
      rw (lt-ltb 0 (suc s) (omega arith), e) (fill_skip p s k o (omega arith) ∙ ap (λ (n : ℕ). filling n k o) z)

  -- what is still to be skipped behind a stretch
  one_skip : (st : Filling) (f : Found) → (one room st f).skip ≡ st.skip - 1
  unfolding one
  one_skip st f = by (dec_lt 0 st.skip) (dec_lt st.filled room)
    where
      by : Dec (0 < st.skip) → Dec (st.filled < room)
          → (cond (ltb 0 st.skip) (filling (st.skip - 1) st.filled st.out) (cond (ltb st.filled room) (filling 0 (st.filled + 1) (put st.out st.filled f)) st)).skip ≡ st.skip - 1
      by (yes a) d = rw (lt-ltb 0 st.skip a)
      by (no a) (yes b) = rw (le-ltb 0 st.skip (omega arith), lt-ltb st.filled room b) (omega arith)
      by (no a) (no b) = rw (le-ltb 0 st.skip (omega arith), le-ltb st.filled room (omega arith)) (omega arith)

  pub fill_left : (p : List Found) (st : Filling) → (fill room st p).skip ≡ st.skip - length p
  unfolding fill
  fill_left [] st = omega arith
  fill_left (f ∷ p) st = fill_left p (one room st f) ∙ omega (arith, one_skip st f)

  -- a full batch stays
  one_full : (st : Filling) (f : Found) → room ≤ st.filled → ((one room st f).filled ≡ st.filled) × ((one room st f).out ≡ st.out)
  unfolding one
  one_full st f h = by (dec_lt 0 st.skip)
    where
      now : Filling
      now = cond (ltb 0 st.skip) (filling (st.skip - 1) st.filled st.out) (cond (ltb st.filled room) (filling 0 (st.filled + 1) (put st.out st.filled f)) st)

      by : Dec (0 < st.skip) → (now.filled ≡ st.filled) × (now.out ≡ st.out)
      by (yes a) = rw (lt-ltb 0 st.skip a) (refl, refl)
      by (no a) = rw (le-ltb 0 st.skip (omega arith), le-ltb st.filled room h) (refl, refl)

  fill_full : (p : List Found) (st : Filling) → room ≤ st.filled → ((fill room st p).filled ≡ st.filled) × ((fill room st p).out ≡ st.out)
  unfolding fill
  fill_full [] st h = (refl, refl)
  fill_full (f ∷ p) st h =
      let o = one_full st f h in
      let r = fill_full p (one room st f) (omega (arith, o.0)) in
      (r.0 ∙ o.0, r.1 ∙ o.1)

  pub full_filled : (p : List Found) (st : Filling) → room ≤ st.filled → (fill room st p).filled ≡ st.filled
  full_filled p st h = (fill_full p st h).0

  pub full_out : (p : List Found) (st : Filling) → room ≤ st.filled → (fill room st p).out ≡ st.out
  full_out p st h = (fill_full p st h).1

  -- ── the batch that comes out ──

  abbrev taken : ℕ → ℕ → List Found → List Found
  taken s k p = take (room - k) (drop s p)

  -- the slice after k variables, and these behind them
  abbrev after : List ℕ → ℕ → List Found → List ℕ
  after o k vs = sets o (k * 5) (numbers_of vs)

  put_more : (o : List ℕ) (k : ℕ) (f : Found) (vs : List Found) → sets (put o k f) ((k + 1) * 5) (numbers_of vs) ≡ sets o (k * 5) (numbers_of (f ∷ vs))
  unfolding put numbers_of
  put_more o k f vs = let e : (k + 1) * 5 ≡ suc (suc (suc (suc (suc (k * 5))))) = omega arith in rw e

  pub fill_is : (p : List Found) (s k : ℕ) (o : List ℕ) → k ≤ room
      → fill room (filling s k o) p ≡ filling (s - length p) (k + length (taken s k p)) (after o k (taken s k p))
  unfolding fill one numbers_of
  fill_is [] s k o h = rw (drop-nil s, take-nil (room - k)) (ap₂ (λ (m n : ℕ). filling m n o) (omega arith) (omega arith))
  fill_is (f ∷ p) (suc s) k o h =
      let e : suc s - 1 ≡ s = omega arith in
      let z : s - length p ≡ suc s - suc (length p) = omega arith in
      rw (lt-ltb 0 (suc s) (omega arith), e) (fill_is p s k o h ∙ rw z)
  fill_is (f ∷ p) zero k o h = by (dec_lt k room) (λ b. fill_is p 0 (k + 1) (put o k f) b) (fill_is p 0 k o h)
    where
      by : Dec (k < room)
          → (k + 1 ≤ room → fill room (filling 0 (k + 1) (put o k f)) p ≡ filling (0 - length p) (k + 1 + length (taken 0 (k + 1) p)) (after (put o k f) (k + 1) (taken 0 (k + 1) p)))
          → fill room (filling 0 k o) p ≡ filling (0 - length p) (k + length (taken 0 k p)) (after o k (taken 0 k p))
          → fill room (one room (filling 0 k o) f) p ≡ filling (0 - suc (length p)) (k + length (taken 0 k (f ∷ p))) (after o k (taken 0 k (f ∷ p)))
      by (yes b) ih same =
          let m : room - k ≡ suc (room - (k + 1)) = omega arith in
          let w : 0 - length p ≡ 0 - suc (length p) = omega arith in
          rw (← w, lt-ltb k room b, m)
          (ih (omega arith) ∙ ap₂ (λ (x : ℕ) (y : List ℕ). filling (0 - length p) x y) (omega arith) (put_more o k f (take (room - (k + 1)) p)))
      by (no b) ih same =
          let m : room - k ≡ 0 = omega arith in
          let w : 0 - length p ≡ 0 - suc (length p) = omega arith in
          rw (← w, le-ltb k room (omega arith), m) (rw m at same)

-- ── the whole slice ──

numbers_length : (vs : List Found) → length (numbers_of vs) ≡ length vs * 5
unfolding numbers_of
numbers_length [] = refl
numbers_length (f ∷ vs) = omega (arith, numbers_length vs)

module _ (vs : List Found) (n : ℕ) (o : List ℕ) where
  whole : fill (length o / 5) (filling n 0 o) vs ≡ filling (n - length vs) (0 + length (batch vs n o)) (sets o 0 (numbers_of (batch vs n o)))
  unfolding batch
  whole = let z : length o / 5 - 0 ≡ length o / 5 = omega arith in rw z at (fill_is (length o / 5) vs n 0 o (omega arith))

  room_enough : length (batch vs n o) * 5 ≤ length o
  unfolding batch
  room_enough = omega (arith, length-take (length o / 5) (drop n vs))

  pub list_count : (fill (length o / 5) (filling n 0 o) vs).filled ≡ length (batch vs n o)
  list_count = ap (λ (st : Filling). st.filled) whole ∙ omega arith

  pub list_out : (fill (length o / 5) (filling n 0 o) vs).out ≡ listed vs n o
  unfolding listed
  list_out =
      let l = numbers_length (batch vs n o) in
      let e : 0 + length (numbers_of (batch vs n o)) ≡ length (batch vs n o) * 5 = omega arith in
      ap (λ (st : Filling). st.out) whole
      ∙ sets-eq (numbers_of (batch vs n o)) o 0 (omega (arith, room_enough))
      ∙ ap (λ (m : ℕ). numbers_of (batch vs n o) ++ drop m o) e

-- ── the code ──

pub store_is : (o : List ℕ) (k i space address size kind : ℕ)
    → set (set (set (set (set o (k * 5) i) (k * 5 + 1) space) (k * 5 + 2) address) (k * 5 + 3) size) (k * 5 + 4) kind ≡ put o k (found_at i space address size kind)
unfolding put numbers_of
store_is o k i space address size kind = rw (add-one, add-two, add-three, add-four)
