-- What storing and reading promise of their answers and of the lent output.
use mathlib.Core.Path.{◌≡◌, refl, sym, ap, ◌∙◌}
use mathlib.Core.List.{List, ◌++◌}
use mathlib.Core.Bool.{Bool, true, false, cond}
use mathlib.Core.Option.{none}
use Prim.Native.Nat.{ℕ, ◌+◌, ◌-◌, ◌/◌, ◌<◌, ◌≤◌}
use native.Mathlib.Nat.{zero-add}
use native.Mathlib.Omega.{arith}
use borrow.Author.Tests.{le-leb, leb-true}
use lib.Dec.{leb}
use lib.ListN.{length, take, drop, get_or, set, length-append, length-drop}
use lib.Seq.{take_at, get_or-take}
use Rattle.cdi.specs.Faults.{Fault, fault, Answer, accepted, refused, ◌and_then◌}
use Rattle.blocks.specs.Blocks.{Bytes, space}
use Rattle.blocks.specs.Backups.{Kept, output_after, blocks_for, backup, is_storable, storing, after_storing, is_whole, cause_of, judging, blocks_in, fault_in, window_in, reading, Restored, restored, room_for, restoring, after_restoring}
use Rattle.blocks_laws.proofs.Parts.{bytes_blocks}
use Rattle.blocks_laws.proofs.Tests.{accepted_none}
use Rattle.blocks_laws.proofs.Back.{storable, reads_back, same_window}
use Rattle.blocks_laws.proofs.Noticed.{noticed}
use Rattle.blocks_laws.proofs.Again.{one_backup}
use Rattle.blocks_laws.proofs.Inspected.{block_at, found_from, none_from, judged_good, judged_bad, block_size}

-- ── "A refusal leaves the lent output unchanged." ──

pub storing_refused : (w : Kept) (out : List ℕ) (f : Fault) → storing w out ≡ refused f → after_storing w out ≡ out
unfolding after_storing output_after
storing_refused w out f e = rw e

pub restoring_refused : (b out : List ℕ) (f : Fault) → restoring b out ≡ refused f → after_restoring b out ≡ out
unfolding after_restoring output_after
restoring_refused b out f e = rw e

-- ── what an accepted call has passed ──

differ : {A B : Type 0} (f : Fault) (a : A) → ◌≡◌ {A = Answer A} (refused f) (accepted a) → B
differ f a e = let z : ◌≡◌ {A = ℕ} 0 1 = cc in absurd (omega arith)

record Stored (w : Kept) (out : List ℕ) (n : ℕ) : Type 0 where
  good : is_storable w ≡ true
  size : length (backup w) ≡ n
  room : n ≤ length out

stored : (w : Kept) (out : List ℕ) (n : ℕ) → storing w out ≡ accepted n → Stored w out n
unfolding storing
stored w out n e = by (is_storable w) (leb (length (backup w)) (length out)) refl refl e
  where
    by : (x y : Bool) → is_storable w ≡ x → leb (length (backup w)) (length out) ≡ y
        → cond x (cond y (accepted (length (backup w))) (refused (fault 41 0))) (refused (fault 40 0)) ≡ accepted n → Stored w out n
    by true true g l e = let s : length (backup w) ≡ n = cc in record { good = g; size = s; room = omega (arith, leb-true (length (backup w)) (length out) l) }
    by true false g l e = differ (fault 41 0) n e
    by false y g l e = differ (fault 40 0) n e

record Read (b out : List ℕ) (r : Restored) : Type 0 where
  said : reading b ≡ accepted (window_in b)
  is : restored (window_in b) ≡ r
  room : length (window_in b).bytes ≤ length out
  after : take r.size (after_restoring b out) ≡ (window_in b).bytes

room_found : (out : List ℕ) (w : Kept) (r : Restored) → room_for out w ≡ accepted r → (restored w ≡ r) × (length w.bytes ≤ length out)
unfolding room_for
room_found out w r e = by (leb (length w.bytes) (length out)) refl e
  where
    by : (x : Bool) → leb (length w.bytes) (length out) ≡ x → cond x (accepted (restored w)) (refused (fault 41 0)) ≡ accepted r
        → (restored w ≡ r) × (length w.bytes ≤ length out)
    by true l e = (cc, leb-true (length w.bytes) (length out) l)
    by false l e = differ (fault 41 0) r e

read : (b out : List ℕ) (r : Restored) → restoring b out ≡ accepted r → Read b out r
unfolding restoring after_restoring output_after restored
read b out r h = by (reading b) refl h
  where
    by : (a : Answer Kept) → reading b ≡ a → (a and_then room_for out) ≡ accepted r → Read b out r
    by (refused f) g e = differ f r e
    by (accepted w) g e =
        let v = (accepted_none b w g).1 in
        let q : restored (window_in b) ≡ r = rw v (room_found out w r e).0 in
        let bytes = (window_in b).bytes in
        record {
          said = rw v g;
          is = q;
          room = rw v (room_found out w r e).1;
          after = rw h (take_at bytes (drop (length bytes) out) r.size (ap (λ (x : Restored). x.size) q));
        }

-- ── reading what was stored ──

module _ (w : Kept) (room : List ℕ) (n : ℕ) (h : storing w room ≡ accepted n) where
  -- the bytes that storing says it stored are the backup
  pub stored_bytes : take n (after_storing w room) ≡ backup w
  unfolding after_storing output_after
  stored_bytes = rw h (take_at (backup w) (drop (length (backup w)) room) n (stored w room n h).size)

  module _ (out : List ℕ) (enough : length w.bytes ≤ length out) where
    accepts : restoring (backup w) out ≡ accepted (restored w)
    unfolding restoring room_for
    accepts = rw (reads_back w (stored w room n h).good, le-leb (length w.bytes) (length out) enough)

    -- (a) the answer is the window's length and space
    pub restores : restoring (take n (after_storing w room)) out ≡ accepted (restored w)
    restores = rw stored_bytes accepts

    -- and its bytes stand at the front of the lent output, of which the rest is unchanged
    pub restores_bytes : after_restoring (take n (after_storing w room)) out ≡ w.bytes ++ drop (length w.bytes) out
    unfolding after_restoring output_after
    restores_bytes = rw (stored_bytes, accepts, (accepted_none (backup w) w (reads_back w (stored w room n h).good)).1)

  -- (b) "Any change of a single byte in a block must be noticed."
  pub change_noticed : Bytes w.bytes → (out : List ℕ) (p v : ℕ) → p < n → v < 256 → (v ≡ get_or (after_storing w room) p 0 → ⊥)
      → restoring (set (take n (after_storing w room)) p v) out ≡ refused (fault 43 (p / 512))
  unfolding restoring backup
  change_noticed b out p v i small o =
      let s = stored w room n h in
      let g = sym (get_or-take n (after_storing w room) p 0 i) ∙ ap (λ t. get_or t p 0) stored_bytes in
      rw (stored_bytes, noticed (backup w) w p v (bytes_blocks (blocks_for (length w.bytes)) 0 w.space w.bytes (omega (arith, (storable w s.good).small)) b) (reads_back w s.good) (omega (arith, s.size)) small (λ e. o (e ∙ sym g)))

-- (c) a window has one backup: two that read back to the same length, space and bytes are the same
pub read_once : (b c out : List ℕ) (r : Restored) → Bytes b → Bytes c → restoring b out ≡ accepted r → restoring c out ≡ accepted r
    → after_restoring b out ≡ after_restoring c out → b ≡ c
unfolding restored
read_once b c out r h i g f e =
    let p = read b out r g in
    let q = read c out r f in
    let spaces : (window_in b).space ≡ (window_in c).space = ap (λ (x : Restored). x.space) (p.is ∙ sym q.is) in
    let bytes : (window_in b).bytes ≡ (window_in c).bytes = sym p.after ∙ ap (take r.size) e ∙ q.after in
    one_backup b c (window_in c) h i (p.said ∙ ap (λ (w : Kept). accepted w) (same_window (window_in b) (window_in c) spaces bytes)) q.said

-- ── inspecting block by block ──

-- the block at this position judged by itself: so many stand behind it, and the space is that of block 0
abbrev pub inspecting : List ℕ → ℕ → Answer Unit
inspecting b k = judging k (blocks_in b - 1 - k) (space b) (block_at k b)

module _ (b : List ℕ) (whole : is_whole b ≡ true) where
  at_first : (k : ℕ) → cause_of (0 + k) (blocks_in b - 1 - k) (space b) (block_at k b) ≡ cause_of k (blocks_in b - 1 - k) (space b) (block_at k b)
  at_first k = ap (λ i. cause_of i (blocks_in b - 1 - k) (space b) (block_at k b)) (zero-add k)

  good_at : (k : ℕ) → k < blocks_in b → inspecting b k ≡ accepted tt → cause_of (0 + k) (blocks_in b - 1 - k) (space b) (block_at k b) ≡ none
  good_at k l e = at_first k ∙ judged_good k (blocks_in b - 1 - k) (space b) (block_at k b) (block_size b k whole l) e

  -- (d) "the first bad block and its cause": the first block that is refused by itself is what reading refuses with
  pub first_bad_read : (k : ℕ) (f : Fault) → k < blocks_in b → ((j : ℕ) → j < k → inspecting b j ≡ accepted tt) → inspecting b k ≡ refused f
      → reading b ≡ refused f
  unfolding reading fault_in
  first_bad_read k f l g e =
      rw (
        whole,
        found_from (blocks_in b) 0 (space b) b k f l (λ j m. good_at j (omega arith) (g j m))
            (at_first k ∙ judged_bad k (blocks_in b - 1 - k) (space b) (block_at k b) (block_size b k whole l) f e),
      )

  -- and where none is refused the window is read
  pub all_good_read : ((j : ℕ) → j < blocks_in b → inspecting b j ≡ accepted tt) → reading b ≡ accepted (window_in b)
  unfolding reading fault_in
  all_good_read g = rw (whole, none_from (blocks_in b) 0 (space b) b (λ j m. good_at j m (g j m)))

-- ── the lent output keeps its length ──

keeps_length : {A : Type 0} (a : Answer A) (new out : List ℕ) → ((x : A) → a ≡ accepted x → length new ≤ length out) → length (output_after a new out) ≡ length out
unfolding output_after
keeps_length (accepted a) new out h = let l = h a refl in simp (length-append, length-drop) (omega arith)
keeps_length (refused f) new out h = refl

pub storing_keeps_length : (w : Kept) (out : List ℕ) → length (after_storing w out) ≡ length out
unfolding after_storing
storing_keeps_length w out = keeps_length (storing w out) (backup w) out (λ n e. let s = stored w out n e in omega arith)

pub restoring_keeps_length : (b out : List ℕ) → length (after_restoring b out) ≡ length out
unfolding after_restoring
restoring_keeps_length b out = keeps_length (restoring b out) (window_in b).bytes out (λ r e. (read b out r e).room)
