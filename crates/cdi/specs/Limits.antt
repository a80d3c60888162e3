-- Numbers of document 01 that several pages need, each once.
use Rattle.std.specs.Prelude.{ℕ, ◌-◌, ◌^◌}

-- "the 22 bytes `<?xml version="1.0"?>` and newline"
abbrev pub first_line_length : ℕ
first_line_length = 22

-- "no zero byte at 65,535 or earlier": "smaller of length and 65,536"
abbrev pub text_limit : ℕ
text_limit = 65536

-- "At most depth 24 and 4,096 elements"
abbrev pub deepest : ℕ
deepest = 24

abbrev pub most_elements : ℕ
most_elements = 4096

-- "at most 1,000,000"
abbrev pub most_variables : ℕ
most_variables = 1000000

-- "space 0 to 255", as `fixed` and `var`
abbrev pub most_space : ℕ
most_space = 255

-- "origin 0 to 2,147,483,647"
abbrev pub most_origin : ℕ
most_origin = 2147483647

-- "replication 1 to 2,147,483,647"
abbrev pub most_replication : ℕ
most_replication = 2147483647

-- a string's "size 1 to 65,535"
abbrev pub most_text_size : ℕ
most_text_size = 65535

-- "Offset is a 32-bit signed number": down to the one below zero, up to the other
abbrev pub lowest_offset : ℕ
lowest_offset = 2 ^ 31

abbrev pub highest_offset : ℕ
highest_offset = 2 ^ 31 - 1
