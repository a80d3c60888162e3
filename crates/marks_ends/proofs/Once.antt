-- Each contract allows one answer: any two answers that it allows are equal.
use mathlib.Core.Path.{◌≡◌, sym, ap, ◌∙◌}
use mathlib.Core.List.{List}
use mathlib.Core.Bool.{cond}
use mathlib.Core.Logic.{⊎_elim}
use Prim.Native.Nat.{ℕ, ◌+◌}
use Rattle.cdi.specs.Lists.{same}
use Rattle.scan.proofs.Tests.{eq_or_ne}
use Rattle.pieces_cuts.specs.Places.{part}
use Rattle.marks_cuts.proofs.Once.{finish_once, finish_or_bad}
use Rattle.marks_ends.specs.Ends.{Finishes, shut_end, Closes}
use Rattle.marks_ends.specs.declared.Finish.{Finish}
use Rattle.marks_ends.specs.declared.Closed.{Closed}

pub shut_once : (s : List ℕ) (from to at : ℕ) {q r : ℕ} → q ≡ shut_end s from to at → r ≡ shut_end s from to at → q ≡ r
shut_once s from to at e f = e ∙ sym f

abbrev a_finish : ℕ → ℕ → Finish
a_finish n e = record { behind = n; end = e }

finish_path : (q r : Finish) → q.behind ≡ r.behind → q.end ≡ r.end → q ≡ r
finish_path q r a b = ap (λ n. a_finish n q.end) a ∙ ap (a_finish r.behind) b

pub end_tag_once : {s : List ℕ} {at : ℕ} {q r : Finish} → Finishes s at q.behind q.end → Finishes s at r.behind r.end → q ≡ r
end_tag_once {s} {at} {q} {r} v w = ⊎_elim
    (λ a. ⊎_elim (λ b. finish_path q r (v.none a ∙ sym (w.none b)) (a ∙ sym b)) (λ b. finish_or_bad (w.tag b) (v.bad a)) (eq_or_ne r.end 0))
    (λ a. ⊎_elim
    (λ b. finish_or_bad (v.tag a) (w.bad b))
    (λ b. let o = finish_once (v.tag a) (w.tag b) in finish_path q r o.0 o.1)
    (eq_or_ne r.end 0))
    (eq_or_ne q.end 0)

abbrev a_closed : ℕ → ℕ → ℕ → Closed
a_closed k n e = record { number = k; behind = n; end = e }

closed_path : (q r : Closed) → q.number ≡ r.number → q.behind ≡ r.behind → q.end ≡ r.end → q ≡ r
closed_path q r a b c = ap (λ k. a_closed k q.behind q.end) a ∙ ap (λ n. a_closed r.number n q.end) b ∙ ap (a_closed r.number r.behind) c

pub close_once : {s : List ℕ} {from to at : ℕ} {q r : Closed} → Closes s from to at q.number q.behind q.end → Closes s from to at r.number r.behind r.end → q ≡ r
close_once {s} {from} {to} {at} {q} {r} v w = ⊎_elim
    (λ a. ⊎_elim
    (λ b. closed_path q r (a ∙ sym b) ((v.none a).0 ∙ sym (w.none b).0) ((v.none a).1 ∙ sym (w.none b).1))
    (λ b. finish_or_bad (w.tag b) (v.bad a))
    (eq_or_ne r.number 4))
    (λ a. ⊎_elim (λ b. finish_or_bad (v.tag a) (w.bad b)) (λ b. tags a b) (eq_or_ne r.number 4))
    (eq_or_ne q.number 4)
  where
    tags : (q.number ≡ 4 → ⊥) → (r.number ≡ 4 → ⊥) → q ≡ r
    tags a b =
        let o = finish_once (v.tag a) (w.tag b) in
        closed_path q r (v.number a ∙ ap (λ n. cond (same (part s from to) (part s (at + 2) n)) 0 6) o.0 ∙ sym (w.number b)) o.0 o.1
