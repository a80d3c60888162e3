-- A batch of a walk: what a lent slice holds after the variables n, n + 1, .. were listed into it.
use Rattle.std.specs.Prelude.{List, [], ◌∷◌, ◌++◌, cond, ℕ, ◌*◌, ◌/◌, length, take, drop, ℤ}
use Rattle.cdi.specs.Faults.{Answer, accepted, refused, fault}
use Rattle.cdi.specs.Walk.{Found, walk}
use Rattle.cdi.specs.Plans.{segments_of, is_plan}

-- five numbers for each variable: its record, space, address, size and kind
unfoldable pub numbers_of : List Found → List ℕ
numbers_of [] = []
numbers_of (f ∷ fs) = f.number ∷ f.space ∷ f.address ∷ f.size ∷ f.kind ∷ numbers_of fs

-- as many of the variables n, n + 1, .. as the slice has room for
unfoldable pub batch : List Found → ℕ → List ℕ → List Found
batch vs n out = take (length out / 5) (drop n vs)

-- the slice with their numbers at its front, and the rest of it unchanged
unfoldable pub listed : List Found → ℕ → List ℕ → List ℕ
listed vs n out = numbers_of (batch vs n out) ++ drop (length (batch vs n out) * 5) out

-- of any table: how many variables are listed, or 20 "not a plan"
unfoldable pub listing : List ℤ → ℕ → List ℕ → Answer ℕ
listing t n out = let r = length (batch (walk (segments_of t)) n out) in cond (is_plan t) (accepted r) (refused (fault 20 0))

-- and the slice afterwards
unfoldable pub out_after : List ℤ → ℕ → List ℕ → List ℕ
out_after t n out = let r = listed (walk (segments_of t)) n out in cond (is_plan t) r out
