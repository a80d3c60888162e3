-- "Backups a shop can inspect": the blocks of a window, and what a backup says when it is read.
use Rattle.std.specs.Prelude.{List, [], ◌++◌, Bool, cond, ◌&&◌, ℕ, zero, suc, ◌+◌, ◌^◌, ◌/◌, ◌%◌, length, take, drop, eqb, leb}
use Rattle.std.proofs.Math.Option.{Option, none, some}
use Rattle.cdi.specs.Lists.{◌or_else◌, all, between}
use Rattle.cdi.specs.Faults.{Fault, fault, Answer, accepted, refused, ◌and_then◌, stage}
use Rattle.blocks.specs.Blocks.{check_of, block, front, number, used, space, flag, payload, padding, check}

-- what is kept of a window: "The first address isn't stored."
pub record Kept : Type 0 where
  pub space : ℕ
  pub bytes : List ℕ

abbrev pub kept : ℕ → List ℕ → Kept
kept sp s = record { space = sp; bytes = s }

-- the lent output after an answer: the new bytes stand at its front, and "A refusal leaves the lent output unchanged."
unfoldable pub output_after : {A : Type 0} → Answer A → List ℕ → List ℕ → List ℕ
output_after (accepted a) new out = new ++ drop (length new) out
output_after (refused f) new out = out

-- ── the blocks of a window ──

-- how many bytes have how many blocks: 502 to each, rounded up
unfoldable pub blocks_for : ℕ → ℕ
blocks_for n = (n + 501) / 502

-- "7 is 1 in the last block and else 0", of a block with so many behind it
unfoldable pub last_flag : ℕ → ℕ
last_flag zero = 1
last_flag (suc behind) = 0

-- so many blocks, the first at this position, of these bytes: "Every block but the last is full."
unfoldable pub blocks_from : ℕ → ℕ → ℕ → List ℕ → List ℕ
blocks_from position zero sp s = []
blocks_from position (suc behind) sp s =
    block position sp (last_flag behind) (take 502 s) ++ blocks_from (position + 1) behind sp (drop 502 s)

-- the backup of a window: "the block number, counted from 0"; "the space, the same in every block"
unfoldable pub backup : Kept → List ℕ
backup w = blocks_from 0 (blocks_for (length w.bytes)) w.space w.bytes

-- ── storing ──

-- "40 window empty, longer than 2^32 bytes or of a space above 255"
unfoldable pub is_storable : Kept → Bool
is_storable w = between 1 (2 ^ 32) (length w.bytes) && leb w.space 255

-- the number of bytes stored; or 40, then "41 lent buffer too small"
unfoldable pub storing : Kept → List ℕ → Answer ℕ
storing w out =
    let n = length (backup w) in
    cond (is_storable w) (cond (leb n (length out)) (accepted n) (refused (fault 41 0))) (refused (fault 40 0))

-- the lent output afterwards
unfoldable pub after_storing : Kept → List ℕ → List ℕ
after_storing w out = output_after (storing w out) (backup w) out

-- ── one block ──

-- "43 check"
unfoldable pub is_checked : List ℕ → Bool
is_checked b = eqb (check b) (check_of (front b))

-- "the payload length from 1 to 502"; "Every block but the last is full."
unfoldable pub is_length_good : ℕ → ℕ → Bool
is_length_good zero n = between 1 502 n
is_length_good (suc behind) n = eqb n 502

-- "44 number, space, length, flag or padding", of the block at this position with so many behind it, in a backup of this space
unfoldable pub is_good : ℕ → ℕ → ℕ → List ℕ → Bool
is_good position behind sp b =
    eqb (number b) position
    && (eqb (space b) sp
    && (is_length_good behind (used b)
    && (eqb (flag b) (last_flag behind)
    && all (eqb 0) (padding b))))

-- what is wrong with it: "43 ..; 44 .., per block in that order", and its position is the place
unfoldable pub cause_of : ℕ → ℕ → ℕ → List ℕ → Option Fault
cause_of position behind sp b =
    cond (is_checked b) (cond (is_good position behind sp b) none (some (fault 44 position))) (some (fault 43 position))

-- a block by itself, as a shop inspects it; bytes that aren't 512 are no block: 42
unfoldable pub judging : ℕ → ℕ → ℕ → List ℕ → Answer Unit
judging position behind sp b = cond (eqb (length b) 512) (stage (cause_of position behind sp b) tt) (refused (fault 42 0))

-- ── reading ──

-- "42 length not a positive multiple of 512"
unfoldable pub is_whole : List ℕ → Bool
is_whole b = leb 1 (length b) && eqb (length b % 512) 0

-- "the first bad block and its cause", of so many blocks, the first at this position
unfoldable pub first_bad : ℕ → ℕ → ℕ → List ℕ → Option Fault
first_bad position zero sp b = none
first_bad position (suc behind) sp b =
    let others = first_bad (position + 1) behind sp (drop 512 b) in
    cause_of position behind sp (take 512 b) or_else others

-- the payloads of so many blocks, one behind the other
unfoldable pub payloads : ℕ → List ℕ → List ℕ
payloads zero b = []
payloads (suc behind) b = payload (take 512 b) ++ payloads behind (drop 512 b)

unfoldable pub blocks_in : List ℕ → ℕ
blocks_in b = length b / 512

-- what is wrong with a backup: 42, then the blocks in order; "the space, the same in every block", is that of block 0
unfoldable pub fault_in : List ℕ → Option Fault
fault_in b = cond (is_whole b) (first_bad 0 (blocks_in b) (space b) b) (some (fault 42 0))

-- the window that its blocks say
unfoldable pub window_in : List ℕ → Kept
window_in b = kept (space b) (payloads (blocks_in b) b)

-- "Reading back gives the window's bytes, or the first bad block and its cause."
unfoldable pub reading : List ℕ → Answer Kept
reading b = stage (fault_in b) (window_in b)

-- what the call tells: the number of the window's bytes, and its space
pub record Restored : Type 0 where
  pub size : ℕ
  pub space : ℕ

unfoldable pub restored : Kept → Restored
restored w = record { size = length w.bytes; space = w.space }

-- "then 41": the lent output is shorter than the window's bytes
unfoldable pub room_for : List ℕ → Kept → Answer Restored
room_for out w = cond (leb (length w.bytes) (length out)) (accepted (restored w)) (refused (fault 41 0))

unfoldable pub restoring : List ℕ → List ℕ → Answer Restored
restoring b out = reading b and_then room_for out

-- the lent output afterwards
unfoldable pub after_restoring : List ℕ → List ℕ → List ℕ
after_restoring b out = output_after (restoring b out) (window_in b).bytes out

unfoldable pub backups_page : Unit {0}
unfolding output_after blocks_for last_flag blocks_from backup is_storable storing after_storing is_checked is_length_good is_good cause_of judging is_whole first_bad payloads blocks_in fault_in window_in reading restored room_for restoring after_restoring
backups_page = tt
