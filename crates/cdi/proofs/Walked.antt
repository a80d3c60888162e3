-- The walk of joined and of repeated stretches.
use mathlib.Core.Path.{◌≡◌, refl, sym, ap, ◌∙◌}
use mathlib.Core.List.{List, [], ◌∷◌, ◌++◌}
use mathlib.Core.Bool.{true, ◌&&◌, and_assoc}
use Prim.Native.Nat.{ℕ, zero, suc, ◌+◌, ◌*◌, ◌/◌, ◌%◌, ◌-◌, ◌^◌, ◌<◌, ◌≤◌}
use native.Mathlib.Nat.{div-eq_of_lt, mod-eq_of_lt, add-div_left, add-mod_left, zero-mul, suc-mul, mul-zero, mul-le-mul_right}
use native.Mathlib.Numerals.{add-one}
use native.Mathlib.Omega.{arith}
use native.Mathlib.Decide.{dec_lt}
use lib.IntN.{ℤ, pos, negsuc, ◌+ℤ◌, ◌*ℤ◌, +ℤ_assoc, +ℤ_idr, +ℤ_idl}
use lib.ListN.{length, get_or, get_or-append}
use lib.Seq.{get_or-append-add}
use Rattle.cdi.specs.Lists.{all}
use Rattle.cdi.specs.Numbers.{within}
use Rattle.cdi.specs.Walk.{Step, add, stand, copies, moves, addresses, is_address, keeps, change, count, Variable, variables}
use Rattle.cdi.proofs.Tests.{parts, ends}
use Rattle.cdi.proofs.Signs.{up, down, sum, up_times, down_times, le_up, up_le, up_same, nought}

-- ── one stretch after another ──

pub count_append : (s t : List Step) → count (s ++ t) ≡ count s + count t
unfolding count
count_append [] t = omega arith
count_append (add o ∷ s) t = count_append s t
count_append (stand k i n ∷ s) t = omega (arith, count_append s t)

pub change_append : (s t : List Step) → change (s ++ t) ≡ change s +ℤ change t
unfolding change
change_append [] t = sym (+ℤ_idl (change t))
change_append (x ∷ s) t = ap (λ z. moves x +ℤ z) (change_append s t) ∙ sym (+ℤ_assoc (moves x) (change s) (change t))

pub variables_append : (a : ℤ) (s t : List Step) → variables a (s ++ t) ≡ variables a s ++ variables (a +ℤ change s) t
unfolding variables change moves
variables_append a [] t = rw +ℤ_idr
variables_append a (add o ∷ s) t = variables_append (a +ℤ o) s t ∙ rw +ℤ_assoc
variables_append a (stand k i n ∷ s) t = ap (λ l. record { kind = k; number = i; address = a; size = n } ∷ l) (variables_append (a +ℤ pos n) s t ∙ rw +ℤ_assoc)

-- the limits are kept in parts
pub keeps_append : (a : ℤ) (s t : List Step) → keeps a (s ++ t) ≡ (keeps a s && keeps (a +ℤ change s) t)
unfolding keeps addresses all change
keeps_append a [] t = rw +ℤ_idr
keeps_append a (x ∷ s) t =
    ap (λ b. is_address (a +ℤ moves x) && b) (keeps_append (a +ℤ moves x) s t ∙ rw +ℤ_assoc)
    ∙ sym (and_assoc (is_address (a +ℤ moves x)) (keeps (a +ℤ moves x) s) (keeps (a +ℤ (moves x +ℤ change s)) t))

-- the count is the number of variables met
pub count_variables : (a : ℤ) (s : List Step) → length (variables a s) ≡ count s
unfolding variables count
count_variables a [] = refl
count_variables a (add o ∷ s) = count_variables (a +ℤ o) s
count_variables a (stand k i n ∷ s) = omega (arith, count_variables (a +ℤ pos n) s)

-- ── r copies ──

pub count_copies : (r : ℕ) (s : List Step) → count (copies r s) ≡ r * count s
unfolding copies count
count_copies zero s = sym (zero-mul (count s))
count_copies (suc r) s = count_append s (copies r s) ∙ rw suc-mul (omega (arith, count_copies r s))

pub change_copies : (r : ℕ) (s : List Step) → change (copies r s) ≡ pos r *ℤ change s
unfolding copies change
change_copies zero s = sym (nought _ (omega (arith, up_times 0 (change s), zero-mul (up (change s)))) (omega (arith, down_times 0 (change s), zero-mul (down (change s)))))
change_copies (suc r) s =
    change_append s (copies r s)
    ∙ rw (change_copies r s) (up_same _ _ (omega (
      arith,
      sum (change s) (pos r *ℤ change s),
      up_times r (change s),
      down_times r (change s),
      up_times (suc r) (change s),
      down_times (suc r) (change s),
      suc-mul r (up (change s)),
      suc-mul r (down (change s)),
    )))

-- where copy q of a stretch starts, counted from 0
unfoldable pub copy_start : ℤ → ℤ → ℕ → ℤ
copy_start a m q = a +ℤ pos q *ℤ m

copy_first : (a m : ℤ) → copy_start a m 0 ≡ a
unfolding copy_start
copy_first a m =
    up_same _ _ (omega (arith, sum a (pos 0 *ℤ m), up_times 0 m, down_times 0 m, zero-mul (up m), zero-mul (down m)))

copy_next : (a m : ℤ) (q : ℕ) → copy_start (a +ℤ m) m q ≡ copy_start a m (suc q)
unfolding copy_start
copy_next a m q =
    up_same _ _ (omega (
      arith,
      sum (a +ℤ m) (pos q *ℤ m),
      sum a m,
      sum a (pos (suc q) *ℤ m),
      up_times q m,
      down_times q m,
      up_times (suc q) m,
      down_times (suc q) m,
      suc-mul q (up m),
      suc-mul q (down m),
    ))

some_variables : (r k n : ℕ) → n < r * k → 0 < k
some_variables r zero n h = absurd (omega (arith, rw mul-zero at h))
some_variables r (suc k) n h = omega arith

-- variable n of r copies is variable n mod k of copy n div k, where one copy has k variables
pub nth_of_copies : (r : ℕ) (s : List Step) (a : ℤ) (n : ℕ) (d : Variable) → n < r * count s
    → get_or (variables a (copies r s)) n d ≡ get_or (variables (copy_start a (change s) (n / count s)) s) (n % count s) d
unfolding copies
nth_of_copies zero s a n d h = absurd (omega (arith, rw zero-mul at h))
nth_of_copies (suc r) s a n d h = by (dec_lt n (count s)) (nth_of_copies r s (a +ℤ change s) (n - count s) d)
  where
    Here : ℕ → Type 0
    Here m = get_or (variables a (s ++ copies r s)) m d ≡ get_or (variables (copy_start a (change s) (m / count s)) s) (m % count s) d

    -- in a later copy
    later : (m : ℕ) → 0 < count s
        → get_or (variables (a +ℤ change s) (copies r s)) m d ≡ get_or (variables (copy_start (a +ℤ change s) (change s) (m / count s)) s) (m % count s) d
        → Here (count s + m)
    later m k ih =
        rw (variables_append, ← count_variables a s) (get_or-append-add (variables a s) (variables (a +ℤ change s) (copies r s)) m d)
        ∙ ih
        ∙ rw (add-div_left m k, add-mod_left, copy_next, add-one)

    by : Dec (n < count s)
        → (n - count s < r * count s → get_or (variables (a +ℤ change s) (copies r s)) (n - count s) d ≡ get_or (variables (copy_start (a +ℤ change s) (change s) ((n - count s) / count s)) s) ((n - count s) % count s) d)
        → Here n
    by (yes l) ih =
        rw (variables_append, div-eq_of_lt l, mod-eq_of_lt l, copy_first) (get_or-append (variables a s) _ d n (omega (arith, count_variables a s)))
    by (no l) ih =
        let e : count s + (n - count s) ≡ n = omega arith in
        rw e at (later (n - count s) (some_variables (suc r) (count s) n h) (ih (omega (arith, rw suc-mul at h))))

-- ── limits ──

-- an address, as `omega` reads it
address_up : (a : ℤ) → is_address a ≡ true → (down a ≤ up a) × (up a ≤ 2 ^ 32 + down a)
unfolding is_address up down
address_up a h =
    let p = ends (pos 0) (pos (2 ^ 32)) a h in
    (omega (arith, le_up (pos 0) a p.0), omega (arith, le_up a (pos (2 ^ 32)) p.1))

up_address : (a : ℤ) → down a ≤ up a → up a ≤ 2 ^ 32 + down a → is_address a ≡ true
unfolding is_address within up down
up_address a l h = rw (up_le (pos 0) a (omega arith), up_le a (pos (2 ^ 32)) (omega arith))

-- the address at a distance d into copy q
placed : ℤ → ℤ → ℕ → ℤ → ℤ
placed a m q d = copy_start a m q +ℤ d

placed_sum : (a m : ℤ) (q : ℕ) (d : ℤ) → up (placed a m q d) + (down a + q * down m + down d) ≡ down (placed a m q d) + (up a + q * up m + up d)
unfolding placed copy_start
placed_sum a m q d = omega (arith, sum (a +ℤ pos q *ℤ m) d, sum a (pos q *ℤ m), up_times q m, down_times q m)

-- an address in the first copy and in the last is one in each between
address_between : (a m d : ℤ) (q r : ℕ) → q ≤ r → is_address (placed a m 0 d) ≡ true → is_address (placed a m r d) ≡ true → is_address (placed a m q d) ≡ true
unfolding up down
address_between a (pos e) d q r h f l =
    let i = address_up _ f in
    let j = address_up _ l in
    let k = mul-le-mul_right e h in
    let x = placed_sum a (pos e) 0 d in
    let y = placed_sum a (pos e) q d in
    let z = placed_sum a (pos e) r d in
    up_address _ (omega arith) (omega arith)
address_between a (negsuc e) d q r h f l =
    let i = address_up _ f in
    let j = address_up _ l in
    let k = mul-le-mul_right (suc e) h in
    let x = placed_sum a (negsuc e) 0 d in
    let y = placed_sum a (negsuc e) q d in
    let z = placed_sum a (negsuc e) r d in
    up_address _ (omega arith) (omega arith)

further : (a m : ℤ) (q : ℕ) (d e : ℤ) → placed a m q d +ℤ e ≡ placed a m q (d +ℤ e)
unfolding placed
further a m q d e = +ℤ_assoc (copy_start a m q) d e

keeps_between : (s : List Step) (a m d : ℤ) (q r : ℕ) → q ≤ r → keeps (placed a m 0 d) s ≡ true → keeps (placed a m r d) s ≡ true → keeps (placed a m q d) s ≡ true
unfolding keeps addresses all
keeps_between [] a m d q r h f l = refl
keeps_between (x ∷ s) a m d q r h f l =
    let f' = parts _ _ (rw (further a m 0 d (moves x)) at f) in
    let l' = parts _ _ (rw (further a m r d (moves x)) at l) in
    rw (further a m q d (moves x), address_between a m (d +ℤ moves x) q r h f'.0 l'.0) (keeps_between s a m (d +ℤ moves x) q r h f'.1 l'.1)

-- limits that every copy keeps are kept by all copies together
every_kept : (r : ℕ) (s : List Step) (a : ℤ) → ((q : ℕ) → q < r → keeps (copy_start a (change s) q) s ≡ true) → keeps a (copies r s) ≡ true
unfolding copies keeps addresses all
every_kept zero s a h = refl
every_kept (suc r) s a h =
    keeps_append a s (copies r s)
    ∙ rw (rw copy_first at (h 0 (omega arith)), every_kept r s (a +ℤ change s) (λ q l. rw copy_next (h (suc q) (omega arith))))

-- limits that are kept in the first copy and in the last are kept in all
pub first_and_last : (r : ℕ) (s : List Step) (a : ℤ) → keeps a s ≡ true → keeps (copy_start a (change s) r) s ≡ true → keeps a (copies (suc r) s) ≡ true
unfolding placed
first_and_last r s a f l =
    every_kept (suc r) s a (λ q h.
    rw +ℤ_idr at (keeps_between s a (change s) (pos 0) q r (omega arith) (rw (+ℤ_idr, copy_first) f) (rw +ℤ_idr l)))

parted : (r : ℕ) (s : List Step) (a : ℤ) → keeps a (copies (suc r) s) ≡ true → (keeps a s ≡ true) × (keeps (a +ℤ change s) (copies r s) ≡ true)
unfolding copies
parted r s a h = parts (keeps a s) (keeps (a +ℤ change s) (copies r s)) (sym (keeps_append a s (copies r s)) ∙ h)

-- and each copy keeps those that all together keep
pub each_copy : (r : ℕ) (s : List Step) (a : ℤ) → keeps a (copies r s) ≡ true → (q : ℕ) → q < r → keeps (copy_start a (change s) q) s ≡ true
each_copy zero s a h q l = absurd (omega arith)
each_copy (suc r) s a h zero l = rw copy_first (parted r s a h).0
each_copy (suc r) s a h (suc q) l = rw copy_next at (each_copy r s (a +ℤ change s) (parted r s a h).1 q (omega arith))
