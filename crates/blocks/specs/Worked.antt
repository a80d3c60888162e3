-- Worked cases, by computation: windows of 2, 3, 502 and 503 bytes, each thing that can be wrong with a block, and the order of the refusals.
use Rattle.std.specs.Prelude.{◌≡◌, refl, List, [], ◌∷◌, ◌++◌, map, false, ℕ, length, take, drop, replicate, set}
use Rattle.cdi.specs.Lists.{lists_page}
use Rattle.cdi.specs.Faults.{fault, Answer, accepted, refused, faults_page}
use Rattle.cdi.specs.Values.{bytes_of, values_page}
use Rattle.blocks.specs.Blocks.{check_of, front_of, front, block, blocks_page}
use Rattle.blocks.specs.Backups.{Kept, output_after, backup, storing, after_storing, is_length_good, is_good, judging, reading, restoring, after_restoring, backups_page}

-- opens every page
unfoldable pub all_pages : Unit {0}
unfolding lists_page faults_page values_page blocks_page backups_page
all_pages = tt

unfoldable pub three : Kept
three = record { space = 253; bytes = 1 ∷ 2 ∷ 3 ∷ [] }

-- one full block
unfoldable pub full : Kept
full = record { space = 7; bytes = replicate 502 255 }

-- a full block and one byte
unfoldable pub more : Kept
more = record { space = 7; bytes = replicate 502 255 ++ (9 ∷ []) }

-- the sum is 0002 + FF01 + 00FC = FFFF, of which the check is 0
unfoldable pub whole : Kept
whole = record { space = 255; bytes = 0 ∷ 252 ∷ [] }

unfoldable pub empty : Kept
empty = record { space = 7; bytes = [] }

unfoldable pub strange : Kept
strange = record { space = 256; bytes = 1 ∷ [] }

-- ── storing ──

-- the one block of three bytes
pub three_stored : take 510 (backup three) ≡ 0 ∷ 0 ∷ 0 ∷ 0 ∷ 0 ∷ 3 ∷ 253 ∷ 1 ∷ 1 ∷ 2 ∷ 3 ∷ replicate 499 0
unfolding all_pages three
three_stored = refl

-- and its check: the sum is 0003 + FD01 + 0102 + 0300 = 10106, and 65,535 less is 0107
pub three_checked : drop 510 (backup three) ≡ 1 ∷ 7 ∷ []
unfolding all_pages three
three_checked = refl

-- a full last block has no empty one behind it
pub full_stored : (length (backup full) ≡ 512) × (take 9 (backup full) ≡ 0 ∷ 0 ∷ 0 ∷ 0 ∷ 1 ∷ 246 ∷ 7 ∷ 1 ∷ 255 ∷ [])
unfolding all_pages full
full_stored = (refl, refl)

-- two blocks: the first is full, and what the second begins with
pub more_stored : (length (backup more) ≡ 1024) × ((take 9 (backup more) ≡ 0 ∷ 0 ∷ 0 ∷ 0 ∷ 1 ∷ 246 ∷ 7 ∷ 0 ∷ 255 ∷ []) × (take 10 (drop 512 (backup more)) ≡ 0 ∷ 0 ∷ 0 ∷ 1 ∷ 0 ∷ 1 ∷ 7 ∷ 1 ∷ 9 ∷ 0 ∷ []))
unfolding all_pages more
more_stored = (refl, (refl, refl))

pub whole_stored : drop 510 (backup whole) ≡ 0 ∷ 0 ∷ []
unfolding all_pages whole
whole_stored = refl

-- ── reading ──

pub all_read : (reading (backup three) ≡ accepted three) × ((reading (backup full) ≡ accepted full) × ((reading (backup more) ≡ accepted more) × (reading (backup whole) ≡ accepted whole)))
unfolding all_pages three full more whole
all_read = (refl, (refl, (refl, refl)))

-- a block with the check that fits it, whatever else is wrong with it
unfoldable pub mended : List ℕ → List ℕ
mended b = front b ++ bytes_of 2 (check_of (front b))

-- a block before the last that isn't full
pub short_told : restoring (block 0 7 0 (1 ∷ 2 ∷ []) ++ block 1 7 1 (3 ∷ [])) [] ≡ refused (fault 44 0)
unfolding all_pages
short_told = refl

-- the space of block 1 isn't that of block 0
pub space_told : restoring (take 512 (backup more) ++ block 1 8 1 (9 ∷ [])) [] ≡ refused (fault 44 1)
unfolding all_pages more
space_told = refl

-- other backups, and what is wrong with them
unfoldable pub bad : List (List ℕ × (ℕ × ℕ))
bad =
    -- 42: lengths
    ([], (42, 0))
    ∷ (take 511 (backup three), (42, 0))
    ∷ (backup three ++ (0 ∷ []), (42, 0))
    -- 43: a byte changed, of the number, the payload, the padding, the check, the space of the first block, the second block
    ∷ (set (backup three) 3 1, (43, 0))
    ∷ (set (backup three) 8 0, (43, 0))
    ∷ (set (backup three) 509 1, (43, 0))
    ∷ (set (backup three) 511 8, (43, 0))
    ∷ (set (backup more) 6 8, (43, 0))
    ∷ (set (backup more) 519 0, (43, 1))
    -- FFFF is no check, also where the sum is 65,535
    ∷ (set (set (backup whole) 510 255) 511 255, (43, 0))
    -- 44, the check being right: the number, the length (0 or 503), the flag, the padding
    ∷ (block 1 253 1 (1 ∷ 2 ∷ 3 ∷ []), (44, 0))
    ∷ (block 0 253 1 [], (44, 0))
    ∷ (mended (set (backup full) 5 247), (44, 0))
    ∷ (block 0 253 2 (1 ∷ 2 ∷ 3 ∷ []), (44, 0))
    ∷ (mended (set (backup three) 509 1), (44, 0))
    -- a backup cut off behind its first block, its second block alone, its blocks exchanged, a block too many
    ∷ (take 512 (backup more), (44, 0))
    ∷ (drop 512 (backup more), (44, 0))
    ∷ (drop 512 (backup more) ++ take 512 (backup more), (44, 0))
    ∷ (backup three ++ backup three, (44, 0))
    -- 44 in block 0 comes before 43 in block 1
    ∷ (block 1 7 0 (replicate 502 255) ++ set (backup three) 8 0, (44, 0))
    ∷ []

pub bad_told : map (λ c. restoring c.0 []) bad ≡ map (λ c. refused (fault c.1.0 c.1.1)) bad
unfolding all_pages three full more whole bad mended
bad_told = refl

-- the second block by itself: good in its place; one byte short; at another place, as if another stood behind it, in a backup of another space; changed
unfoldable pub second : List ℕ
second = drop 512 (backup more)

pub second_judged :
    judging 1 0 7 second
    ∷ judging 1 0 7 (drop 1 second)
    ∷ judging 2 0 7 second
    ∷ judging 1 1 7 second
    ∷ judging 1 0 8 second
    ∷ judging 1 0 7 (set second 8 8)
    ∷ []
    ≡ accepted tt
    ∷ refused (fault 42 0)
    ∷ refused (fault 44 2)
    ∷ refused (fault 44 1)
    ∷ refused (fault 44 1)
    ∷ refused (fault 43 1)
    ∷ []
unfolding all_pages more second
second_judged = refl

-- ── the room ──

-- 40 comes before 41; room for all blocks when storing, for the window's bytes when reading; what stands behind stays
pub room_told :
    (storing empty [] ≡ refused (fault 40 0))
    × ((storing strange [] ≡ refused (fault 40 0))
    × ((storing three (replicate 511 5) ≡ refused (fault 41 0))
    × ((storing three (replicate 513 5) ≡ accepted 512)
    × ((after_storing three (replicate 513 5) ≡ backup three ++ (5 ∷ []))
    × ((restoring (backup three) (5 ∷ 5 ∷ []) ≡ refused (fault 41 0))
    × ((restoring (backup three) (5 ∷ 5 ∷ 5 ∷ 5 ∷ []) ≡ accepted (record { size = 3; space = 253 }))
    × (after_restoring (backup three) (5 ∷ 5 ∷ 5 ∷ 5 ∷ []) ≡ 1 ∷ 2 ∷ 3 ∷ 5 ∷ [])))))))
unfolding all_pages three empty strange
room_told = (refl, (refl, (refl, (refl, (refl, (refl, (refl, refl)))))))

-- "A refusal leaves the lent output unchanged.": by 41, and by 44 in a block behind a good one
pub refusals_left :
    (after_storing three (replicate 511 5) ≡ replicate 511 5)
    × ((after_restoring (backup three) (5 ∷ 5 ∷ []) ≡ 5 ∷ 5 ∷ [])
    × (after_restoring (take 512 (backup more) ++ block 1 8 1 (9 ∷ [])) (replicate 503 5) ≡ replicate 503 5))
unfolding all_pages three more
refusals_left = (refl, (refl, refl))

-- ── single definitions, each by a fact of its own ──

-- 65,535 and nothing have one check
pub sum_modulo : check_of (255 ∷ 255 ∷ []) ≡ 0
unfolding all_pages
sum_modulo = refl

pub from_zero : take 4 (backup three) ≡ 0 ∷ 0 ∷ 0 ∷ 0 ∷ []
unfolding all_pages three
from_zero = refl

-- of a block of 501 bytes with one behind it
pub full_before_last : is_length_good 1 501 ≡ false
unfolding all_pages
full_before_last = refl

-- the bytes before the check have all that is asked here
pub one_space : is_good 0 0 8 (front_of 0 7 1 (1 ∷ [])) ≡ false
unfolding all_pages
one_space = refl

pub refusal_left : output_after {A = ℕ} (refused (fault 41 0)) (1 ∷ []) (5 ∷ []) ≡ 5 ∷ []
unfolding all_pages
refusal_left = refl
