-- Parts of a list of places, and lists that rise: a part of such a list rises too.
use mathlib.Core.List.{List, [], ◌∷◌, ◌++◌}
use Prim.Native.Nat.{ℕ, ◌+◌, ◌≤◌, ◌<◌}
use native.Mathlib.Omega.{arith}
use lib.ListN.{length}
use Rattle.cdi.proofs.Fit.{Rising}

-- some of the numbers of a list, in their order
pub data Part : List ℕ → List ℕ → Type 0 where
  nothing : Part [] []
  keep : {x : ℕ} {xs ys : List ℕ} → Part xs ys → Part (x ∷ xs) (x ∷ ys)
  skip : {y : ℕ} {xs ys : List ℕ} → Part xs ys → Part xs (y ∷ ys)

-- Nothing is a part of every list.
pub part_nothing : (ys : List ℕ) → Part [] ys
part_nothing [] = nothing
part_nothing (y ∷ ys) = skip (part_nothing ys)

-- A list is a part of itself.
pub part_self : (ys : List ℕ) → Part ys ys
part_self [] = nothing
part_self (y ∷ ys) = keep (part_self ys)

-- Parts of two lists are together a part of both together.
pub part_append : {xs ys vs ws : List ℕ} → Part xs ys → Part vs ws → Part (xs ++ vs) (ys ++ ws)
part_append nothing q = q
part_append (keep p) q = keep (part_append p q)
part_append (skip p) q = skip (part_append p q)

-- A part stays one with more in front of the whole.
pub part_behind : (zs : List ℕ) {xs ys : List ℕ} → Part xs ys → Part xs (zs ++ ys)
part_behind [] p = p
part_behind (z ∷ zs) p = skip (part_behind zs p)

-- A part stays one with more behind the whole.
pub part_before : {xs ys : List ℕ} (zs : List ℕ) → Part xs ys → Part xs (ys ++ zs)
part_before zs nothing = part_nothing zs
part_before zs (keep p) = keep (part_before zs p)
part_before zs (skip p) = skip (part_before zs p)

-- A part of a part is a part.
pub part_part : {xs ys zs : List ℕ} → Part xs ys → Part ys zs → Part xs zs
part_part p nothing = p
part_part (keep p) (keep q) = keep (part_part p q)
part_part (skip p) (keep q) = skip (part_part p q)
part_part p (skip q) = skip (part_part p q)

-- A part is no longer than the whole.
pub part_length : {xs ys : List ℕ} → Part xs ys → length xs ≤ length ys
part_length nothing = omega arith
part_length (keep p) = omega (arith, part_length p)
part_length (skip p) = omega (arith, part_length p)

-- A list that rises from a number rises from any below it.
pub rising_from : (lo at : ℕ) (ps : List ℕ) → at ≤ lo → Rising lo ps → Rising at ps
unfolding Rising
rising_from lo at [] l h = tt
rising_from lo at (p ∷ ps) l h = (omega arith, h.1, h.2)

-- A part of a list that rises does so too.
pub rising_part : {xs ys : List ℕ} (lo : ℕ) → Part xs ys → Rising lo ys → Rising lo xs
unfolding Rising
rising_part lo nothing h = tt
rising_part lo (keep {x = x} p) h = (h.0, h.1, rising_part (x + 1) p h.2)
rising_part lo (skip {y = y} {ys = ys} p) h = rising_part lo p (rising_from (y + 1) lo ys (omega arith) h.2)

-- Of two numbers in a list that rises, the first is the lesser.
pub apart : {p q : ℕ} {ps : List ℕ} (lo : ℕ) → Part (p ∷ q ∷ []) ps → Rising lo ps → p < q
unfolding Rising
apart lo h r = omega (arith, (rising_part lo h r).2.0)
