-- What stands in a line: numbers in decimal, the words for kinds, and the line of a variable. A line is added to the bytes `s` before it.
use Rattle.std.specs.Prelude.{cond, List, [], ◌∷◌, ◌++◌, ℕ, zero, suc, ◌+◌, ◌/◌, ◌%◌, ltb, eqb, get_or, drop}
use Rattle.cdi.specs.Walk.{Found}

-- a number in decimal without leading zeros, where it has at most p + 1 digits
unfoldable pub decimal_in : ℕ → ℕ → List ℕ
decimal_in zero n = (48 + n % 10) ∷ []
decimal_in (suc p) n = let front = decimal_in p (n / 10) in cond (ltb n 10) ((48 + n) ∷ []) (front ++ ((48 + n % 10) ∷ []))

-- 2^64 has 20 digits
unfoldable pub decimal : ℕ → List ℕ
decimal n = decimal_in 19 n

-- a blank and a number
unfoldable pub next : List ℕ → ℕ → List ℕ
next s n = (s ++ (32 ∷ [])) ++ decimal n

-- ` int`, ` string`, ` eventid`, ` float`
unfoldable pub kind_word : ℕ → List ℕ
kind_word k =
    cond (eqb k 3) (32 ∷ 105 ∷ 110 ∷ 116 ∷ [])
    (cond (eqb k 4) (32 ∷ 115 ∷ 116 ∷ 114 ∷ 105 ∷ 110 ∷ 103 ∷ [])
    (cond (eqb k 5) (32 ∷ 101 ∷ 118 ∷ 101 ∷ 110 ∷ 116 ∷ 105 ∷ 100 ∷ [])
    (32 ∷ 102 ∷ 108 ∷ 111 ∷ 97 ∷ 116 ∷ [])))

-- `0 253 128 1 int` and a newline
unfoldable pub line : List ℕ → ℕ → ℕ → ℕ → ℕ → ℕ → List ℕ
line s n space address size kind = (next (next (next (s ++ decimal n) space) address) size ++ kind_word kind) ++ (10 ∷ [])

-- the lines of the variables n, n + 1, ..
unfoldable pub lines_of : List ℕ → ℕ → List Found → List ℕ
lines_of s n [] = s
lines_of s n (f ∷ fs) = lines_of (line s n f.space f.address f.size f.kind) (n + 1) fs

-- the same of k variables, five numbers each: record, space, address, size and kind
unfoldable pub lines_in : List ℕ → ℕ → List ℕ → ℕ → List ℕ
lines_in s n xs zero = s
lines_in s n xs (suc k) = lines_in (line s n (get_or xs 1 0) (get_or xs 2 0) (get_or xs 3 0) (get_or xs 4 0)) (n + 1) (drop 5 xs) k

-- `refused 8 at 155` and a newline
unfoldable pub refusal_line : ℕ → ℕ → List ℕ
refusal_line n place =
    ((((114 ∷ 101 ∷ 102 ∷ 117 ∷ 115 ∷ 101 ∷ 100 ∷ 32 ∷ []) ++ decimal n) ++ (32 ∷ 97 ∷ 116 ∷ 32 ∷ [])) ++ decimal place) ++ (10 ∷ [])

-- `variables 8` and a newline
unfoldable pub count_line : ℕ → List ℕ
count_line n = ((118 ∷ 97 ∷ 114 ∷ 105 ∷ 97 ∷ 98 ∷ 108 ∷ 101 ∷ 115 ∷ 32 ∷ []) ++ decimal n) ++ (10 ∷ [])
