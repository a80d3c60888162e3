-- One answer: the piece at a place is one, and so is what is told of it.
use mathlib.Core.Path.{◌≡◌, sym, ap, ◌∙◌}
use mathlib.Core.List.{List}
use mathlib.Core.Bool.{Bool}
use Prim.Native.Nat.{ℕ}
use Rattle.pieces_cuts.specs.declared.Cut.{Cut}
use Rattle.pieces.proofs.Once.{piece_at_once}
use Rattle.parse_marks.specs.Rare.{rare_fault, is_refer, Rares}
use Rattle.parse_marks.specs.declared.Rare.{Rare}

abbrev rare : ℕ → ℕ → Bool → Rare
rare n e b = record { number = n; end = e; refers = b }

pub rare_at_once : {s : List ℕ} {at : ℕ} {q r : Rare} → Rares s at q.number q.end q.refers → Rares s at r.number r.end r.refers → q ≡ r
rare_at_once {s} {at} {q} {r} v w =
    let same : v.cut ≡ w.cut = piece_at_once v.stands w.stands in
    ap (λ n. rare n q.end q.refers) (v.number ∙ ap (λ (c : Cut). rare_fault c.kind) same ∙ sym w.number)
    ∙ ap (λ e. rare r.number e q.refers) (v.end ∙ ap (λ (c : Cut). c.end) same ∙ sym w.end)
    ∙ ap (rare r.number r.end) (v.refer ∙ ap (λ (c : Cut). is_refer c.kind) same ∙ sym w.refer)
