-- Reading what was stored gives the window's bytes and its space.
use mathlib.Core.Path.{◌≡◌, refl, ap, ◌∙◌}
use mathlib.Core.List.{List, [], ◌∷◌}
use mathlib.Core.Bool.{true}
use mathlib.Core.Option.{none}
use Prim.Native.Nat.{ℕ, zero, suc, ◌+◌, ◌*◌, ◌^◌, ◌%◌, ◌<◌, ◌≤◌}
use native.Mathlib.Omega.{arith}
use borrow.Author.Tests.{eq-eqb, le-leb, leb-true}
use lib.Dec.{leb}
use lib.ListN.{length, take, drop, length-append, length-take, length-drop, take-append-drop, get_or-append}
use lib.Seq.{take_at, drop_at}
use Rattle.cdi.specs.Lists.{between}
use Rattle.cdi.specs.Faults.{accepted}
use Rattle.cdi.proofs.Tests.{parts, both}
use Rattle.blocks.specs.Blocks.{block, used, space}
use Rattle.blocks.specs.Backups.{Kept, kept, blocks_for, last_flag, blocks_from, backup, is_storable, is_whole, is_length_good, is_good, cause_of, first_bad, payloads, blocks_in, fault_in, window_in, reading}
use Rattle.blocks_laws.proofs.Tests.{passes_both}
use Rattle.blocks_laws.proofs.Fields.{length_block, block_number, block_used, block_space, block_flag, block_payload, block_padding, block_checked}

-- a block with a good payload has nothing wrong
block_good : (k n sp : ℕ) (s : List ℕ) → k < 256 ^ 4 → length s ≤ 502 → is_length_good n (length s) ≡ true → cause_of k n sp (block k sp (last_flag n) s) ≡ none
unfolding is_good
block_good k n sp s h few g =
    let fl = last_flag n in
    let lengths : is_length_good n (used (block k sp fl s)) ≡ true = rw (block_used k sp fl s few) g in
    passes_both k n sp (block k sp fl s) (block_checked k sp fl s few)
    (both (eq-eqb _ _ (block_number k sp fl s few h))
    (both (eq-eqb _ _ (block_space k sp fl s few))
    (both lengths
    (both (eq-eqb _ _ (block_flag k sp fl s few))
    (block_padding k sp fl s few)))))

-- so many bytes fill n blocks
pub record Fills (n m : ℕ) : Type 0 where
  pub low : 502 * n < m + 502
  pub high : m ≤ 502 * n

first_length : (n : ℕ) (s : List ℕ) → Fills (suc n) (length s) → is_length_good n (length (take 502 s)) ≡ true
unfolding is_length_good between
first_length zero s f =
    let l = length-take 502 s in
    both (le-leb 1 (length (take 502 s)) (omega arith)) (le-leb (length (take 502 s)) 502 (omega arith))
first_length (suc n) s f = eq-eqb (length (take 502 s)) 502 (omega (arith, length-take 502 s))

-- what n blocks of bytes are
pub record Stands (k n sp : ℕ) (s b : List ℕ) : Type 0 where
  pub size : length b ≡ 512 * n
  pub good : first_bad k n sp b ≡ none
  pub bytes : payloads n b ≡ s

stands : (n k sp : ℕ) (s : List ℕ) → k + n ≤ 256 ^ 4 → Fills n (length s) → Stands k n sp s (blocks_from k n sp s)
unfolding blocks_from first_bad payloads
stands zero k sp [] h f = record { size = refl; good = refl; bytes = refl }
stands zero k sp (x ∷ s) h f = absurd (omega arith)
stands (suc n) k sp s h f =
    let t = block k sp (last_flag n) (take 502 s) in
    let few : length (take 502 s) ≤ 502 = rw length-take (omega arith) in
    let l = length_block k sp (last_flag n) (take 502 s) few in
    let others = blocks_from (k + 1) n sp (drop 502 s) in
    let r = stands n (k + 1) sp (drop 502 s) (omega arith) (record { low = rw length-drop (omega arith); high = rw length-drop (omega arith) }) in
    record {
      size = simp length-append (omega (arith, l, r.size));
      good = rw (take_at t others 512 l, drop_at t others 512 l, block_good k n sp (take 502 s) (omega arith) few (first_length n s f)) r.good;
      bytes = rw (take_at t others 512 l, drop_at t others 512 l, block_payload k sp (last_flag n) (take 502 s) few, r.bytes) (take-append-drop 502 s);
    }

-- ── a window that is stored ──

-- what a window is that has a backup
pub record Storable (w : Kept) : Type 0 where
  pub low : 1 ≤ length w.bytes
  pub high : length w.bytes ≤ 2 ^ 32
  pub small : w.space ≤ 255

pub storable : (w : Kept) → is_storable w ≡ true → Storable w
unfolding is_storable between
storable w h =
    let a = parts (between 1 (2 ^ 32) (length w.bytes)) (leb w.space 255) h in
    let b = parts (leb 1 (length w.bytes)) (leb (length w.bytes) (2 ^ 32)) a.0 in
    record { low = leb-true 1 _ b.0; high = leb-true (length w.bytes) (2 ^ 32) b.1; small = leb-true w.space 255 a.1 }

-- the space of the first block
first_space : (n k sp : ℕ) (s : List ℕ) → 1 ≤ n → space (blocks_from k n sp s) ≡ sp
unfolding blocks_from space
first_space zero k sp s h = absurd (omega arith)
first_space (suc n) k sp s h =
    let few : length (take 502 s) ≤ 502 = rw length-take (omega arith) in
    let t = block k sp (last_flag n) (take 502 s) in
    get_or-append t (blocks_from (k + 1) n sp (drop 502 s)) 0 6 (omega (arith, length_block k sp (last_flag n) (take 502 s) few))
    ∙ block_space k sp (last_flag n) (take 502 s) few

pub same_window : (v w : Kept) → v.space ≡ w.space → v.bytes ≡ w.bytes → v ≡ w
same_window v w e f = ap (λ sp. kept sp v.bytes) e ∙ ap (kept w.space) f

module _ (w : Kept) (h : is_storable w ≡ true) where
  backup_stands : Stands 0 (blocks_for (length w.bytes)) w.space w.bytes (backup w)
  unfolding backup blocks_for
  backup_stands =
      let s = storable w h in
      stands (blocks_for (length w.bytes)) 0 w.space w.bytes (omega (arith, s.high)) (record { low = omega arith; high = omega arith })

  -- 512 bytes for each block
  pub length_backup : length (backup w) ≡ 512 * blocks_for (length w.bytes)
  length_backup = backup_stands.size

  backup_blocks : blocks_in (backup w) ≡ blocks_for (length w.bytes)
  unfolding blocks_in
  backup_blocks = omega (arith, length_backup)

  some_blocks : 1 ≤ blocks_for (length w.bytes)
  unfolding blocks_for
  some_blocks = omega (arith, (storable w h).low)

  backup_space : space (backup w) ≡ w.space
  unfolding backup
  backup_space = first_space (blocks_for (length w.bytes)) 0 w.space w.bytes some_blocks

  backup_whole : is_whole (backup w) ≡ true
  unfolding is_whole
  backup_whole = both (le-leb 1 (length (backup w)) (omega (arith, length_backup, some_blocks))) (eq-eqb (length (backup w) % 512) 0 (omega (arith, length_backup)))

  backup_good : fault_in (backup w) ≡ none
  unfolding fault_in
  backup_good = rw (backup_whole, backup_blocks, backup_space) backup_stands.good

  backup_window : window_in (backup w) ≡ w
  unfolding window_in
  backup_window = same_window (window_in (backup w)) w backup_space (rw backup_blocks backup_stands.bytes)

  -- "Reading back gives the window's bytes", and its space
  pub reads_back : reading (backup w) ≡ accepted w
  unfolding reading
  reads_back = rw (backup_good, backup_window)
