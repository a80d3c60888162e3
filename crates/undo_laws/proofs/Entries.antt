-- What the walk along a journal finds: an entry that was stored reads back, and every entry before one that lies in the room lies there too.
use mathlib.Core.Path.{◌≡◌, refl, sym, ap, ◌∙◌}
use mathlib.Core.List.{List, ◌++◌, append_assoc}
use mathlib.Core.Bool.{true, ◌&&◌, and-false}
use Prim.Native.Nat.{ℕ, zero, suc, ◌+◌, ◌-◌, ◌^◌, ◌<◌, ◌≤◌}
use native.Mathlib.Omega.{arith}
use native.Mathlib.Decide.{dec_le}
use borrow.Author.Tests.{le-leb, lt-leb, leb-true}
use lib.Dec.{leb}
use lib.ListN.{length, take, drop, length-append, length-take, length-drop}
use lib.Seq.{take_at, drop_at, take-append-le, drop-append-le, take-append-add, take-take}
use Rattle.cdi.specs.Values.{bytes_of}
use Rattle.cdi.specs.Access.{overwritten}
use Rattle.cdi.proofs.Bytes.{length_bytes, value_of_bytes}
use Rattle.cdi.proofs.Tests.{both, parts}
use Rattle.undo_model.specs.Journal.{Entry, entry_bytes, room, four_at, entry_at, beginning, lie, has_room}

-- ── reading back ──

four_back : (front : List ℕ) (v : ℕ) (rest : List ℕ) (at : ℕ) → length front ≡ at → v < 256 ^ 4 → four_at (front ++ (bytes_of 4 v ++ rest)) at ≡ v
unfolding four_at
four_back front v rest at l h =
    rw (drop_at front (bytes_of 4 v ++ rest) at l, take_at (bytes_of 4 v) rest 4 (length_bytes 4 v)) (value_of_bytes 4 v h)

-- an entry whose number and size fit their bytes
pub record Fits (e : Entry) : Type 0 where
  pub number : e.number < 256 ^ 4
  pub size : e.size < 256 ^ 4
  pub old : length e.old ≡ e.size

pub length_entry : (e : Entry) → Fits e → length (entry_bytes e) ≡ 8 + e.size
unfolding entry_bytes
length_entry e f = simp length-append (omega (arith, length_bytes 4 e.number, length_bytes 4 e.size, f.old))

module _ (front : List ℕ) (e : Entry) (rest : List ℕ) (f : Fits e) where
  number_back : four_at (front ++ (entry_bytes e ++ rest)) (length front) ≡ e.number
  unfolding entry_bytes
  number_back =
      ap (λ x. four_at (front ++ x) (length front)) (append_assoc (bytes_of 4 e.number) (bytes_of 4 e.size ++ e.old) rest)
      ∙ four_back front e.number ((bytes_of 4 e.size ++ e.old) ++ rest) (length front) refl f.number

  -- the size stands four bytes on
  pub size_back : four_at (front ++ (entry_bytes e ++ rest)) (length front + 4) ≡ e.size
  unfolding entry_bytes
  size_back =
      let n = bytes_of 4 e.number in
      let z = bytes_of 4 e.size in
      let regroup : front ++ ((n ++ (z ++ e.old)) ++ rest) ≡ (front ++ n) ++ (z ++ (e.old ++ rest)) = simp append_assoc in
      rw regroup (four_back (front ++ n) e.size (e.old ++ rest) (length front + 4) (length-append front n ∙ omega (arith, length_bytes 4 e.number)) f.size)

  old_back : take e.size (drop (length front + 8) (front ++ (entry_bytes e ++ rest))) ≡ e.old
  unfolding entry_bytes
  old_back =
      let n = bytes_of 4 e.number in
      let z = bytes_of 4 e.size in
      let regroup : front ++ ((n ++ (z ++ e.old)) ++ rest) ≡ (front ++ (n ++ z)) ++ (e.old ++ rest) = simp append_assoc in
      let l : length (front ++ (n ++ z)) ≡ length front + 8 = simp length-append (omega (arith, length_bytes 4 e.number, length_bytes 4 e.size)) in
      rw (regroup, drop_at (front ++ (n ++ z)) (e.old ++ rest) (length front + 8) l) (take_at e.old rest e.size f.old)

  -- the entry behind what stands in front
  pub entry_back : entry_at (front ++ (entry_bytes e ++ rest)) (length front) ≡ e
  unfolding entry_at
  entry_back = rw (size_back, number_back, old_back)

-- ── the walk ──

-- behind an entry the next one begins
pub next_beginning : (front : List ℕ) (e : Entry) (rest : List ℕ) (k : ℕ) → Fits e → beginning (front ++ (entry_bytes e ++ rest)) k ≡ length front
    → beginning (front ++ (entry_bytes e ++ rest)) (suc k) ≡ length (front ++ entry_bytes e)
unfolding beginning
next_beginning front e rest k f h = rw (h, size_back front e rest f) (omega (arith, length-append front (entry_bytes e), length_entry e f))

-- entries lie in the room exactly if the last of them ends in it
pub all_lie : (r : List ℕ) (k : ℕ) → beginning r k ≤ length r → lie r k ≡ true
unfolding lie beginning
all_lie r zero h = refl
all_lie r (suc k) h = both (all_lie r k (omega arith)) (le-leb _ _ h)

pub last_lies : (r : List ℕ) (k : ℕ) → lie r k ≡ true → beginning r k ≤ length r
unfolding lie beginning
last_lies r zero h = omega arith
last_lies r (suc k) h = leb-true _ _ (parts (lie r k) _ h).1

-- so there is room for an entry exactly if it would end in the room itself
pub room_exactly : (r : List ℕ) (k size : ℕ) → has_room r k size ≡ leb (beginning r k + 8 + size) (length r)
unfolding has_room
room_exactly r k size = by (dec_le (beginning r k + 8 + size) (length r))
  where
    by : Dec (beginning r k + 8 + size ≤ length r) → (lie r k && leb (beginning r k + 8 + size) (length r)) ≡ leb (beginning r k + 8 + size) (length r)
    by (yes h) = rw (all_lie r k (omega arith))
    by (no h) = rw (lt-leb (beginning r k + 8 + size) (length r) (omega arith)) (and-false (lie r k))

four_same : (front x y : List ℕ) (at : ℕ) → at + 4 ≤ length front → four_at (front ++ x) at ≡ four_at (front ++ y) at
unfolding four_at
four_same front x y at h =
    let l : 4 ≤ length (drop at front) = omega (arith, length-drop at front) in
    rw (drop-append-le at front x (omega arith), drop-append-le at front y (omega arith), take-append-le 4 (drop at front) x l, take-append-le 4 (drop at front) y l)

-- the walk to an entry looks at nothing from there on
pub same_walk : (front x y : List ℕ) (k : ℕ) → beginning (front ++ x) k ≤ length front → beginning (front ++ y) k ≡ beginning (front ++ x) k
unfolding beginning
same_walk front x y zero h = refl
same_walk front x y (suc k) h =
    rw (same_walk front x y k (omega arith), four_same front y x (beginning (front ++ x) k + 4) (omega arith))

-- ── storing ──

-- bytes stored in a room behind what stands in front of it
pub room_overwritten : (front new rest j : List ℕ) → room j ≡ front ++ rest → length front + length new ≤ length (room j)
    → room (overwritten (length front) new j) ≡ (front ++ new) ++ take (65536 - length (front ++ new)) (drop (length front + length new) j)
unfolding room overwritten
room_overwritten front new rest j e l =
    let behind = drop (length front + length new) j in
    let cap : length (take 65536 j) ≤ 65536 = omega (arith, length-take 65536 j) in
    let begins : take (length front) j ≡ front = sym (take-take (length front) 65536 j (omega arith)) ∙ ap (take (length front)) e ∙ take_at front rest (length front) refl in
    let sum : 65536 ≡ length (front ++ new) + (65536 - length (front ++ new)) = omega (arith, length-append front new) in
    ap (λ x. take 65536 (x ++ (new ++ behind))) begins
    ∙ ap (take 65536) (sym (append_assoc front new behind))
    ∙ ap (λ k. take k ((front ++ new) ++ behind)) sum
    ∙ take-append-add (front ++ new) behind (65536 - length (front ++ new))
