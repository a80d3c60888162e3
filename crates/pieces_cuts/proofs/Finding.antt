-- Names, words looked for, and words of one byte.
use mathlib.Core.Path.{◌≡◌, refl, sym, ap, ◌∙◌}
use mathlib.Core.List.{List, [], ◌∷◌}
use mathlib.Core.Bool.{Bool, true, false, cond}
use mathlib.Core.Option.{none, some}
use mathlib.Core.Logic.{⊎_elim}
use Prim.Native.Nat.{ℕ, suc, ◌+◌, ◌-◌, ◌≤◌, ◌<◌}
use native.Mathlib.Omega.{arith}
use borrow.Author.Rules.{rules}
use borrow.Author.Tests.{eq-eqb, ne_eqb}
use lib.ListN.{length, take, drop, get_or, drop_of_length-le, length-drop}
use lib.Seq.{drop-drop}
use Rattle.cdi.specs.Lists.{begins, strip, beyond}
use Rattle.cdi.specs.Pieces.{name_start, name_at}
use Rattle.scan.specs.Spans.{of_class, Span}
use Rattle.scan.specs.declared.Class.TheVariants.{Name as Names}
use Rattle.scan.proofs.Along.{drop_next}
use Rattle.scan.proofs.Tests.{eq_or_ne}
use Rattle.scan.proofs.Spans.{span_here, span_rest}
use Rattle.pieces_cuts.specs.Places.{part, Name}

-- one byte, and the part behind it
pub part_cons : (s : List ℕ) (at e : ℕ) → at < e → at < length s → part s at e ≡ get_or s at 0 ∷ part s (at + 1) e
part_cons s at e l h = let one : e - at ≡ suc (e - (at + 1)) = omega arith in ap (λ (n : ℕ). take n (drop at s)) one ∙ rw (drop_next s at h)

-- ── names ──

module _ (s : List ℕ) (at : ℕ) where
  pub no_room : at ≤ length s → length s ≤ at → Name s at at
  unfolding name_at
  no_room k h = record { is = rw (drop_of_length-le s h, eq-eqb at at refl); low = omega arith; high = k }

  module _ {r : Bool} (h : at < length s) (e : r ≡ name_start (get_or s at 0)) where
    pub no_name : r ≡ false → Name s at at
    unfolding name_at
    no_name f = record { is = rw (drop_next s at h, ← e, f, eq-eqb at at refl); low = omega arith; high = omega arith }

    pub a_name : {n : ℕ} → r ≡ true → Span (of_class Names) s (at + 1) n → Name s at n
    unfolding name_at of_class
    a_name {n} f v = record {
      is = rw (part_cons s at n (omega (arith, v.low)) h, drop_next s at h, ← e, f, span_rest v, span_here v, ne_eqb n at (λ z. omega (arith, v.low)));
      low = omega (arith, v.low);
      high = v.high;
    }

pub ruleset name_ends = (no_room, no_name, a_name, rules)

-- ── words ──

-- a word that stands at the front lies inside
begins_room : (w s : List ℕ) → begins w s ≡ true → length w ≤ length s
unfolding begins
begins_room [] s e = omega arith
begins_room (w ∷ ws) [] e = let y : ◌≡◌ {A = ℕ} 0 1 = cc in absurd (omega arith)
begins_room (w ∷ ws) (b ∷ s) e =
    ⊎_elim (λ h. omega (arith, begins_room ws s (rw (eq-eqb w b h) at e)))
    (λ h. let z : false ≡ true = rw (ne_eqb w b h) at e in let y : ◌≡◌ {A = ℕ} 0 1 = cc in absurd (omega arith))
    (eq_or_ne w b)

pub word_room : (s w : List ℕ) (i : ℕ) {r : Bool} → i ≤ length s → r ≡ begins w (drop i s) → r ≡ true → i + length w ≤ length s
word_room s w i h e f = omega (arith, begins_room w (drop i s) (sym e ∙ f), length-drop i s)

-- the word does not begin before i
pub record Seeking (w s : List ℕ) (at i : ℕ) : Type 0 where
  pub left : beyond w (drop at s) ≡ beyond w (drop i s)
  pub high : i ≤ length s

pub seek : (w s : List ℕ) (at : ℕ) → at ≤ length s → Seeking w s at at
seek w s at h = record { left = refl; high = h }

-- a text shorter than the word has none
too_short : (w s : List ℕ) → length s < length w → beyond w s ≡ none
unfolding beyond
too_short w [] h = refl
too_short w (x ∷ s) h = by (begins w (x ∷ s)) refl (too_short w s (omega arith))
  where
    by : (b : Bool) → begins w (x ∷ s) ≡ b → beyond w s ≡ none → cond b (some (drop (length w) (x ∷ s))) (beyond w s) ≡ none
    by true e f = let z = begins_room w (x ∷ s) e in absurd (omega arith)
    by false e f = f

module _ {w s : List ℕ} {at i : ℕ} (v : Seeking w s at i) where
  pub seek_end : length s - i < length w → beyond w (drop at s) ≡ none
  seek_end h = v.left ∙ too_short w (drop i s) (omega (arith, length-drop i s))

  module _ {r : Bool} (h : i < length s) (e : r ≡ begins w (drop i s)) where
    step : beyond w (drop at s) ≡ cond r (some (drop (length w) (drop i s))) (beyond w (drop (i + 1) s))
    unfolding beyond
    step = v.left ∙ rw (e, drop_next s i h)

    pub found : r ≡ true → beyond w (drop at s) ≡ some (drop (i + length w) s)
    found f = step ∙ rw (f, drop-drop)

    pub not_yet : r ≡ false → Seeking w s at (i + 1)
    not_yet f = record { left = step ∙ rw f; high = omega arith }

pub ruleset find_loop = (seek, seek_end, found, word_room, not_yet, rules)

-- what follows a word that was looked at
pub stripped : (s w : List ℕ) (i : ℕ) {r : Bool} → r ≡ begins w (drop i s) → strip w (drop i s) ≡ cond r (some (drop (i + length w) s)) none
unfolding strip
stripped s w i e = rw (← e, drop-drop)

pub room_one : (s : List ℕ) (i c : ℕ) {r : Bool} → i ≤ length s → r ≡ begins (c ∷ []) (drop i s) → r ≡ true → i + 1 ≤ length s
room_one s i c h e f = word_room s (c ∷ []) i h e f

pub room_two : (s : List ℕ) (i c d : ℕ) {r : Bool} → i ≤ length s → r ≡ begins (c ∷ d ∷ []) (drop i s) → r ≡ true → i + 2 ≤ length s
room_two s i c d h e f = word_room s (c ∷ d ∷ []) i h e f

-- a word of one byte, by that byte
pub one_there : (s : List ℕ) (i c : ℕ) → i < length s → get_or s i 0 ≡ c → strip (c ∷ []) (drop i s) ≡ some (drop (i + 1) s)
unfolding strip begins
one_there s i c h e = rw (drop_next s i h, eq-eqb _ _ (sym e))

pub one_not : (s : List ℕ) (i c : ℕ) → i < length s → (get_or s i 0 ≡ c → ⊥) → strip (c ∷ []) (drop i s) ≡ none
unfolding strip begins
one_not s i c h e = rw (drop_next s i h, ne_eqb c (get_or s i 0) (λ z. e (sym z)))

pub one_end : (s : List ℕ) (i c : ℕ) → length s ≤ i → strip (c ∷ []) (drop i s) ≡ none
unfolding strip begins
one_end s i c h = rw (drop_of_length-le s h)
