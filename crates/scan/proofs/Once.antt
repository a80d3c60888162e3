-- One answer: a span of the bytes that pass a test has one end.
use mathlib.Core.Path.{◌≡◌, sym, ◌∙◌}
use mathlib.Core.List.{List}
use mathlib.Core.Bool.{Bool}
use Prim.Native.Nat.{ℕ}
use Rattle.scan.specs.Spans.{Span}

-- of scan::span, scan::span_while, spans::blanks, spans::name_rest, spans::value_rest, marks_runs::text_end
pub span_once : {p : ℕ → Bool} {s : List ℕ} {at q r : ℕ} → Span p s at q → Span p s at r → q ≡ r
span_once v w = v.is ∙ sym w.is
