-- What one step of the judge does, where the content is judged: another piece, entering a child, leaving it.
use mathlib.Core.Path.{◌≡◌, refl}
use mathlib.Core.List.{List, ◌++◌}
use mathlib.Core.Bool.{Bool, true, false, cond, ◌||◌}
use mathlib.Core.Option.{Option, none, some}
use Prim.Native.Nat.{ℕ}
use lib.Dec.{eqb}
use Rattle.cdi.specs.Lists.{given}
use Rattle.cdi.specs.Pieces.{Attribute, Piece}
use Rattle.cdi.specs.Rules.{Before, entry_of, attribute_faults, behind, is_int}
use Rattle.cdi.specs.Rows.{row_of}
use Rattle.rules_judge.specs.declared.Judge.{Judge}
use Rattle.names.specs.Names.{element_number}
use Rattle.rules_judge.specs.Judging.{blamed, row_at, is_foreign, fresh, entry_faults, enter_of, other_of, passed, leave_of}
use Rattle.rules.proofs.Ordered.{Like, like_unknown, like_behind}

-- the judge of an element's content: the element's number, and whether it stands in an int
pub record Reads (k : ℕ) (in_int : Bool) (j : Judge) : Type 0 where
  pub row : j.row ≡ k
  pub numeric : j.numeric ≡ in_int

-- What holds of both answers holds of the chosen one.
pub cond_holds : {B : Type 0} (P : B → Type 0) (t : Bool) {x y : B} → P x → P y → P (cond t x y)
cond_holds P true a b = a
cond_holds P false a b = b

module _ {A B : Type 0} where
  -- What holds where nothing is there, and of all that is made of what is there, holds of the answer.
  pub given_holds : (P : B → Type 0) (o : Option A) {x : B} {f : A → B} → P x → ((a : A) → P (f a)) → P (given o x f)
  given_holds P none a b = a
  given_holds P (some z) a b = b z

module _ {k : ℕ} {in_int : Bool} {j : Judge} where
  -- Another piece leaves the judge at its element.
  pub reads_other : (p : ℕ) (c : Piece) → Reads k in_int j → Reads k in_int (other_of j p c)
  unfolding other_of
  reads_other p c r = cond_holds (Reads k in_int) (is_foreign j) r (record { row = r.row; numeric = r.numeric })

  reads_passed : (i : Judge) → Reads k in_int j → Reads k in_int (passed j i)
  unfolding passed
  reads_passed i r = record { row = r.row; numeric = r.numeric }

  -- A child leaves the judge at its element.
  pub reads_leave : (p : ℕ) (n : List ℕ) (s : List Attribute) (i : Judge) → Reads k in_int j → Reads k in_int (leave_of j p n s i)
  unfolding leave_of
  reads_leave p n s i r =
      cond_holds (Reads k in_int) (is_foreign j) (reads_passed i r)
      (given_holds (Reads k in_int) (entry_of (row_at j.row) n) (reads_passed i r) (λ e. record { row = r.row; numeric = r.numeric }))

-- The last entry is that of the children before, behind another piece too.
pub like_other : {b : Before} (j : Judge) (p : ℕ) (c : Piece) → Like j.last b → Like (other_of j p c).last b
unfolding other_of
like_other {b} j p c l = cond_holds (λ (i : Judge). Like i.last b) (is_foreign j) l l

module _ {k : ℕ} {in_int : Bool} {j : Judge} (judged : eqb k 24 ≡ false) (r : Reads k in_int j) where
  -- The content is judged.
  pub not_foreign : is_foreign j ≡ false
  unfolding is_foreign
  not_foreign = rw r.row judged

  -- The judge looks a child up in its element's row.
  pub looked_up : (n : List ℕ) → entry_of (row_at j.row) n ≡ entry_of (row_at k) n
  looked_up n = rw r.row

  -- A child that the row knows is entered with the faults of its order, count and attributes.
  pub enter_known : (p : ℕ) (n : List ℕ) (s : List Attribute) (e : ℕ × Bool) → entry_of (row_at k) n ≡ some e
      → enter_of j p n s ≡ fresh (blamed j.least (entry_faults j.last p e ++ attribute_faults p (row_of n) s)) (element_number n) (in_int || is_int n)
  unfolding enter_of
  enter_known p n s e q = rw (not_foreign, looked_up n, q, r.numeric)

  -- The last entry is that of the children before, behind a child too.
  pub like_leave : {b : Before} (p : ℕ) (n : List ℕ) (s : List Attribute) (i : Judge) → Like j.last b → Like (leave_of j p n s i).last (behind (row_at k) b n)
  unfolding leave_of passed
  like_leave {b} p n s i l = by (entry_of (row_at k) n) refl
    where
      by : (o : Option (ℕ × Bool)) → entry_of (row_at k) n ≡ o → Like (leave_of j p n s i).last (behind (row_at k) b n)
      by none q = rw (not_foreign, looked_up n, q) (like_unknown (row_at k) n q l)
      by (some e) q = rw (not_foreign, looked_up n, q) (like_behind (row_at k) n e q l)
