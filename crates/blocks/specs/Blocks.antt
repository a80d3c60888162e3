-- "A second library above this one stores a window in blocks of 512 bytes.": a block as it is stored, and the fields that stored bytes have.
use Rattle.std.specs.Prelude.{List, [], ◌∷◌, ◌++◌, ℕ, ◌+◌, ◌*◌, ◌%◌, ◌<◌, length, take, drop, get_or}
use Rattle.cdi.specs.Values.{bytes_of, value_of, padded}

-- each is a byte
abbrev pub Bytes : List ℕ → Type 0
Bytes s = (i : ℕ) → get_or s i 0 < 256

-- ── the check ──

-- "16-bit words", "all numbers big-endian"
unfoldable pub words : List ℕ → List ℕ
words [] = []
words (a ∷ []) = []
words (a ∷ b ∷ s) = (a * 256 + b) ∷ words s

unfoldable pub sum : List ℕ → ℕ
sum [] = 0
sum (x ∷ xs) = x + sum xs

-- "the sum of the 255 preceding 16-bit words modulo 65,535", which is from 0 to 65,534
unfoldable pub check_of : List ℕ → ℕ
check_of front = sum (words front) % 65535

-- ── a block as it is stored ──

-- all before its check: "Bytes 0 to 3 are the block number, .., 4 to 5 the payload length .., 6 the space, .., 7 is 1 in the last block and else 0, then
-- 502 bytes of payload padded with zeros."
unfoldable pub front_of : ℕ → ℕ → ℕ → List ℕ → List ℕ
front_of number space flag payload = bytes_of 4 number ++ (bytes_of 2 (length payload) ++ (space ∷ flag ∷ padded 502 payload))

-- "The last two bytes are the sum .."
unfoldable pub block : ℕ → ℕ → ℕ → List ℕ → List ℕ
block number space flag payload =
    let front = front_of number space flag payload in
    front ++ bytes_of 2 (check_of front)

-- ── the fields that 512 bytes have ──

-- "the 255 preceding 16-bit words"
unfoldable pub front : List ℕ → List ℕ
front b = take 510 b

-- "Bytes 0 to 3 are the block number"
unfoldable pub number : List ℕ → ℕ
number b = value_of (take 4 b)

-- "4 to 5 the payload length"
unfoldable pub used : List ℕ → ℕ
used b = value_of (take 2 (drop 4 b))

-- "6 the space"
unfoldable pub space : List ℕ → ℕ
space b = get_or b 6 0

-- "7 is 1 in the last block and else 0"
unfoldable pub flag : List ℕ → ℕ
flag b = get_or b 7 0

-- "then 502 bytes"
unfoldable pub area : List ℕ → List ℕ
area b = take 502 (drop 8 b)

-- "of payload"
unfoldable pub payload : List ℕ → List ℕ
payload b = take (used b) (area b)

-- "padded with zeros"
unfoldable pub padding : List ℕ → List ℕ
padding b = drop (used b) (area b)

-- "The last two bytes"
unfoldable pub check : List ℕ → ℕ
check b = value_of (drop 510 b)

unfoldable pub blocks_page : Unit {0}
unfolding words sum check_of front_of block front number used space flag area payload padding check
blocks_page = tt
