-- FNV-1a with 64 bits.
use Rattle.std.specs.Prelude.{ℕ, ◌*◌, ◌%◌, ◌^◌, List, [], ◌∷◌, ◌++◌, ℤ, bit_xor}
use Rattle.cdi.specs.Values.{bytes_of, complement}

-- times the prime 2^40 + 435
unfoldable pub times_prime : ℕ → ℕ
times_prime h = h * 1099511628211 % 2 ^ 64

-- bytes, behind the hash h of those before them
unfoldable pub hash_from : ℕ → List ℕ → ℕ
hash_from h [] = h
hash_from h (b ∷ s) = hash_from (times_prime (bit_xor h b)) s

unfoldable pub hash_of : List ℕ → ℕ
hash_of s = hash_from 14695981039346656037 s

-- the numbers of a table, eight bytes each: big-endian, in two's complement
unfoldable pub table_bytes : List ℤ → List ℕ
table_bytes [] = []
table_bytes (z ∷ zs) = bytes_of 8 (complement 8 z) ++ table_bytes zs
