-- The lines of a batch are those of its variables.
use mathlib.Core.Path.{◌≡◌, refl, ap, ◌∙◌}
use mathlib.Core.List.{List, [], ◌∷◌, ◌++◌}
use Prim.Native.Nat.{ℕ, ◌+◌, ◌*◌, ◌/◌, ◌≤◌}
use native.Mathlib.Omega.{arith}
use lib.ListN.{length, drop, length-take}
use Rattle.cdi.specs.Walk.{Found}
use Rattle.listing_fill.specs.Batch.{numbers_of, batch, listed}
use Rattle.lines_items.specs.Bytes.{line, lines_of, lines_in}

in_front : (s : List ℕ) (n : ℕ) (fs : List Found) (rest : List ℕ) → lines_in s n (numbers_of fs ++ rest) (length fs) ≡ lines_of s n fs
unfolding lines_in lines_of numbers_of
in_front s n [] rest = refl
in_front s n (f ∷ fs) rest = in_front (line s n f.space f.address f.size f.kind) (n + 1) fs rest

pub batch_lines : (vs : List Found) (n : ℕ) (o o' : List ℕ) (k : ℕ) → k ≡ length (batch vs n o) → o' ≡ listed vs n o → lines_in [] n o' k ≡ lines_of [] n (batch vs n o)
unfolding listed
batch_lines vs n o o' k e p = ap (λ (x : List ℕ). lines_in [] n x k) p ∙ ap (lines_in [] n (listed vs n o)) e ∙ in_front [] n (batch vs n o) (drop (length (batch vs n o) * 5) o)

pub few : (vs : List Found) (n : ℕ) (o : List ℕ) (k : ℕ) → k ≡ length (batch vs n o) → k ≤ length o / 5
unfolding batch
few vs n o k e = omega (arith, e, length-take (length o / 5) (drop n vs))
