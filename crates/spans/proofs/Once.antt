-- One answer: a value in a quote has one end. (The ends of the other spans: `scan`.)
use mathlib.Core.Path.{◌≡◌, sym, ap, ◌∙◌}
use mathlib.Core.List.{List}
use mathlib.Core.Bool.{Bool}
use Prim.Native.Nat.{ℕ, ◌-◌}
use lib.Dec.{eqb}
use lib.ListN.{take, drop}
use Rattle.cdi.specs.Lists.{any}
use Rattle.cdi.specs.Pieces.{value_byte}
use Rattle.scan.specs.Spans.{Span}
use Rattle.scan.proofs.Once.{span_once}
use Rattle.spans.specs.declared.Ended.{Ended}

abbrev ended : ℕ → Bool → Ended
ended c b = record { close = c; refers = b }

pub value_end_once : (s : List ℕ) (at quote : ℕ) {q r : Ended} → Span (value_byte quote) s at q.close → q.refers ≡ any (eqb 38) (take (q.close - at) (drop at s))
    → Span (value_byte quote) s at r.close → r.refers ≡ any (eqb 38) (take (r.close - at) (drop at s)) → q ≡ r
value_end_once s at quote {q} {r} v e w f =
    let close : q.close ≡ r.close = span_once v w in
    ap (λ b. ended q.close b) (e ∙ ap (λ c. any (eqb 38) (take (c - at) (drop at s))) close ∙ sym f) ∙ ap (λ c. ended c r.refers) close
