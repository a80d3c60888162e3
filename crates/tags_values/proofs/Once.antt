-- One answer: a value is held by one code and one amount.
use mathlib.Core.Path.{◌≡◌, sym, ap, ◌∙◌}
use mathlib.Core.List.{List}
use Prim.Native.Nat.{ℕ}
use Rattle.tags_values.specs.Codes.{code_of, amount_of}
use Rattle.tags_values.specs.declared.Held.{Held}

abbrev held : ℕ → ℕ → Held
held c n = record { code = c; amount = n }

pub hold_once : (a : ℕ) (v : List ℕ) {q r : Held} → q.code ≡ code_of a v → q.amount ≡ amount_of a v → r.code ≡ code_of a v → r.amount ≡ amount_of a v → q ≡ r
hold_once a v {q} {r} c n d m = ap (λ x. held x q.amount) (c ∙ sym d) ∙ ap (held r.code) (n ∙ sym m)
