-- The least of all faults is that of the first piece that has one: no piece has a fault at a place before its own.
use mathlib.Core.Path.{◌≡◌, refl, ◌∙◌}
use mathlib.Core.List.{List, [], ◌∷◌, ◌++◌}
use mathlib.Core.Bool.{Bool, true, false, cond, not, ◌&&◌, ◌||◌}
use mathlib.Core.Option.{Option, none, some}
use Prim.Native.Nat.{ℕ, zero, suc, ◌+◌, ◌-◌, ◌≤◌, ◌<◌}
use native.Mathlib.Omega.{arith}
use borrow.Author.Tests.{lt-ltb}
use lib.Dec.{ltb}
use lib.ListN.{length, drop, length-drop}
use Rattle.cdi.specs.Lists.{while, all}
use Rattle.cdi.specs.Faults.{Fault, fault, unless, before, lesser, least}
use Rattle.cdi.specs.Pieces.{Piece, start, finish, remark, refer, text, malformed, unsupported, blank, piece_at, pieces}
use Rattle.cdi.specs.Markup.{Progress, outside, refers, innermost, piece_faults, next, markup_faults}
use Rattle.cdi.proofs.Least.{least_append}
use Rattle.levels.specs.Ahead.{from}

-- every fault stands at that place or behind it
From : ℕ → List Fault → Type 0
From q [] = Unit
From q (f ∷ fs) = (q ≤ f.place) × From q fs

LeastFrom : ℕ → Option Fault → Type 0
LeastFrom q none = Unit
LeastFrom q (some f) = q ≤ f.place

from_append : (q : ℕ) (fs gs : List Fault) → From q fs → From q gs → From q (fs ++ gs)
unfolding From
from_append q [] gs h k = k
from_append q (f ∷ fs) gs h k = (h.0, from_append q fs gs h.1 k)

from_unless : (q n p : ℕ) (b : Bool) → q ≤ p → From q (unless b (fault n p))
unfolding From unless
from_unless q n p true h = tt
from_unless q n p false h = (h, tt)

from_before : (q p : ℕ) (fs : List Fault) → q ≤ p → From p fs → From q fs
unfolding From
from_before q p [] l h = tt
from_before q p (f ∷ fs) l h = (omega (arith, h.0), from_before q p fs l h.1)

least_from : (q : ℕ) (fs : List Fault) → From q fs → LeastFrom q (least fs)
unfolding From LeastFrom least lesser
least_from q [] h = tt
least_from q (f ∷ fs) h = by (least fs) (least_from q fs h.1)
  where
    one : (b : Bool) (g : Fault) → q ≤ g.place → q ≤ (cond b f g).place
    one true g k = h.0
    one false g k = k

    by : (o : Option Fault) → LeastFrom q o → LeastFrom q (lesser (some f) o)
    by none k = h.0
    by (some g) k = one (before f g) g k

piece_from : (r : Progress) (p : ℕ) (c : Piece) → From p (piece_faults r p c)
unfolding piece_faults From
piece_from r p (start n s e) =
    from_append p (unless (not (refers s)) (fault 5 p)) _ (from_unless p 5 p (not (refers s)) (omega arith))
    (from_append p (unless (not (outside r && ltb 0 r.begun)) (fault 6 p)) _ (from_unless p 6 p (not (outside r && ltb 0 r.begun)) (omega arith))
    (from_unless p 7 p (ltb (length r.names) 24 && ltb r.begun 4096) (omega arith)))
piece_from r p (finish n) = from_unless p 6 p (innermost r.names n) (omega arith)
piece_from r p remark = tt
piece_from r p (refer c) = from_unless p 6 p (not (outside r)) (omega arith)
piece_from r p (text s) = from_unless p 6 (p + length (while blank s)) (not (outside r) || all blank s) (omega arith)
piece_from r p malformed = (omega arith, tt)
piece_from r p unsupported = (omega arith, tt)

all_from : (stop : ℕ) (r : Progress) (at k : ℕ) (s : List ℕ) → k ≤ length s → at + length s ≡ stop → From (at + k) (markup_faults stop r (pieces at k s))
unfolding pieces markup_faults
all_from stop r at k [] h e = from_unless (at + k) 6 stop (outside r && ltb 0 r.begun) (omega arith)
all_from stop r at (suc k) (x ∷ s) h e = from_before (at + suc k) (at + 1 + k) _ (omega arith) (all_from stop r (at + 1) k s (omega arith) (omega arith))
all_from stop r at zero (x ∷ s) h e =
    let c = piece_at at (x ∷ s) in
    let k = length s - length c.1 in
    from_append (at + 0) (piece_faults r at c.0) _ (from_before (at + 0) at _ (omega arith) (piece_from r at c.0))
    (from_before (at + 0) (at + 1 + k) _ (omega arith) (all_from stop (next r c.0) (at + 1) k s (omega arith) (omega arith)))

sooner : (q : ℕ) (f : Fault) (o : Option Fault) → f.place < q → LeastFrom q o → lesser (some f) o ≡ some f
unfolding LeastFrom lesser before
sooner q f none l h = refl
sooner q f (some g) l h = rw (lt-ltb f.place g.place (omega arith))

-- The piece at the front has a fault, which stands before the piece's end: it is the least of all.
pub first_fault : (s : List ℕ) (r : Progress) (i e : ℕ) (c : Piece) (f : Fault) → e ≤ length s → f.place < e → least (piece_faults r i c) ≡ some f → least (markup_faults (length s) r ((i, c) ∷ from s e)) ≡ some f
unfolding markup_faults
first_fault s r i e c f h l q =
    least_append (piece_faults r i c) (markup_faults (length s) (next r c) (from s e))
    ∙ rw q (sooner (e + 0) f (least (markup_faults (length s) (next r c) (from s e))) (omega arith)
    (least_from (e + 0) _ (all_from (length s) (next r c) e 0 (drop e s) (omega arith) (omega (arith, length-drop e s)))))

-- The piece at the front has no fault: the faults are those of the others.
pub no_fault : (stop : ℕ) (r : Progress) (i : ℕ) (c : Piece) (cs : List (ℕ × Piece)) → piece_faults r i c ≡ [] → markup_faults stop r ((i, c) ∷ cs) ≡ markup_faults stop (next r c) cs
unfolding markup_faults
no_fault stop r i c cs e = rw e
