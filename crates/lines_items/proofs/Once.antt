-- One answer: any two outcomes of putting bytes have the same end, and the same bytes before it. The bytes behind it may be any.
use mathlib.Core.Path.{◌≡◌, sym, ap, ◌∙◌}
use mathlib.Core.List.{List}
use Prim.Native.Nat.{ℕ, ◌≤◌}
use native.Mathlib.Omega.{arith}
use lib.ListN.{length, take, length-take}

-- x are the bytes up to the end, which stands at n or before; u and v are the slices afterwards
-- of lines_items::put_all, lines_items::put_number, lines_items::put_next, lines_items::put_kind, lines::put_line, lines::put_lines
-- of lines::put_refusal, lines::put_count, list_lines::lines_from
pub put_once : (x u v : List ℕ) (n q r : ℕ) → n ≤ length u → n ≤ length v → take q u ≡ x → q ≤ n → take r v ≡ x → r ≤ n → (q ≡ r) × (take q u ≡ take r v)
put_once x u v n q r h k e l f m =
    let same : take q u ≡ take r v = e ∙ sym f in
    let long = rw (length-take, length-take) at (ap length same) in
    (omega (arith, long), same)
