-- What is stored of a value, and what stored bytes say.
use Rattle.std.specs.Prelude.{List, [], ◌∷◌, ◌++◌, Bool, cond, ◌&&◌, ℕ, zero, suc, ◌+◌, ◌*◌, ◌-◌, ◌^◌, ◌/◌, ◌%◌, length, replicate, leb, ltb, ℤ, pos, negsuc, neg_ℤ}

-- "An integer comes in as a sign and a 64-bit magnitude; minus zero is zero."
unfoldable pub with_sign : Bool → ℕ → ℤ
with_sign negative m = cond negative (neg_ℤ (pos m)) (pos m)

-- "big-endian over the whole size"
unfoldable pub bytes_of : ℕ → ℕ → List ℕ
bytes_of zero v = []
bytes_of (suc n) v = bytes_of n (v / 256) ++ (v % 256 ∷ [])

-- the number that bytes are, behind the number a
unfoldable pub value_from : ℕ → List ℕ → ℕ
value_from a [] = a
value_from a (b ∷ s) = value_from (a * 256 + b) s

unfoldable pub value_of : List ℕ → ℕ
value_of s = value_from 0 s

-- "signed ones in two's complement": the number whose bytes stand for z
unfoldable pub complement : ℕ → ℤ → ℕ
complement n (pos m) = m
complement n (negsuc m) = 256 ^ n - suc m

-- and back: of a signed int the upper half is below zero
unfoldable pub uncomplement : Bool → ℕ → ℕ → ℤ
uncomplement is_signed n v = cond (is_signed && leb (2 ^ (8 * n - 1)) v) (neg_ℤ (pos (256 ^ n - v))) (pos v)

-- "text with zeros to the end of its size"
unfoldable pub padded : ℕ → List ℕ → List ℕ
padded n s = s ++ replicate (n - length s) 0

-- a character in UTF-8, by RFC 3629
unfoldable pub utf8 : ℕ → List ℕ
utf8 c =
    cond (ltb c 128) (c ∷ [])
    (cond (ltb c 2048) ((192 + c / 64) ∷ (128 + c % 64) ∷ [])
    (cond (ltb c 65536) ((224 + c / 4096) ∷ (128 + c / 64 % 64) ∷ (128 + c % 64) ∷ [])
    ((240 + c / 262144) ∷ (128 + c / 4096 % 64) ∷ (128 + c / 64 % 64) ∷ (128 + c % 64) ∷ [])))

unfoldable pub values_page : Unit {0}
unfolding with_sign bytes_of value_from value_of complement uncomplement padded utf8
values_page = tt
