-- Along a list, by place: one step, the rest, and parts.
use mathlib.Core.Path.{◌≡◌, sym}
use mathlib.Core.List.{List, ◌∷◌}
use Prim.Native.Nat.{ℕ, ◌+◌, ◌-◌, ◌≤◌, ◌<◌}
use native.Mathlib.Numerals.{add-one}
use native.Mathlib.Omega.{arith}
use borrow.Author.Rules.{rules}
use lib.ListN.{length, take, drop, get_or, length-drop, get_or-eq_default}
use lib.Seq.{drop-cons, take_all}

-- one byte more, at the code's `i + 1`
pub drop_next : (s : List ℕ) (i : ℕ) → i < length s → drop i s ≡ get_or s i 0 ∷ drop (i + 1) s
drop_next s i h = rw (add-one, drop-cons s i 0)

-- the part `&s[a..]` is the rest of the list
pub rest : (s : List ℕ) (a : ℕ) → take (length s - a) (drop a s) ≡ drop a s
rest s a = take_all (length s - a) (drop a s) (rw length-drop (omega arith))

-- the part from place a to before e
abbrev pub part : List ℕ → ℕ → ℕ → List ℕ
part s a e = take (e - a) (drop a s)

-- past the end stands 0
pub nothing_there : (s : List ℕ) (i : ℕ) → length s ≤ i → 0 ≡ get_or s i 0
nothing_there s i h = sym (get_or-eq_default s 0 h)

pub ruleset past = (nothing_there, rules)
