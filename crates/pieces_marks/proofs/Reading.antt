-- Comments, instructions, end tags and runs of text.
use mathlib.Core.Path.{◌≡◌, refl, sym, ap, ◌∙◌}
use mathlib.Core.List.{List, [], ◌∷◌}
use mathlib.Core.Bool.{Bool, true, false, cond, ◌&&◌, ◌||◌}
use mathlib.Core.Option.{Option, none, some}
use Prim.Native.Nat.{ℕ, suc, ◌+◌, ◌-◌, ◌≤◌, ◌<◌}
use native.Mathlib.Nat.{add-zero}
use native.Mathlib.Omega.{arith}
use borrow.Author.Rules.{rules}
use borrow.Author.Tests.{eq-eqb, ne_eqb}
use lib.Dec.{eqb}
use lib.ListN.{length, drop, get_or, drop_of_length-le, length-drop, length-take}
use lib.Seq.{get_or-drop}
use Rattle.cdi.specs.Lists.{ascii, ◌>>=◌, is_some, is_empty, while, begins, beyond}
use Rattle.cdi.specs.Pieces.{finish, remark, blank, is_text, lower, is_xml, end_tag, comment, instruction, run, or_malformed}
use Rattle.scan.specs.Spans.{of_class, span_end, Span}
use Rattle.scan.specs.declared.Class.TheVariants.{Blank, Text as Texts}
use Rattle.scan.proofs.Along.{drop_next}
use Rattle.scan.proofs.Spans.{span_here, span_rest}
use Rattle.pieces_cuts.specs.Places.{part, Name}
use Rattle.pieces_cuts.specs.Cuts.{piece_of, before, name_of, text_of, code_of, short_of, refers_of, Cuts}
use Rattle.pieces_cuts.specs.declared.Kind.TheVariants.{Finish, Text}
use Rattle.pieces_cuts.proofs.Finding.{stripped, room_one}
use Rattle.pieces_cuts.proofs.Making.{nothing, something}

-- ── comments ──

module _ (s : List ℕ) where
  pub endless : beyond (45 ∷ 45 ∷ []) (drop 4 s) ≡ none → comment (drop 4 s) ≡ none
  unfolding comment
  endless e = rw e

  module _ (t : ℕ) {r : Bool} (v : beyond (45 ∷ 45 ∷ []) (drop 4 s) ≡ some (drop t s)) (w : r ≡ begins (62 ∷ []) (drop t s)) where
    dashes : comment (drop 4 s) ≡ (cond r (some (drop (t + 1) s)) none >>= λ u. some (remark, u))
    unfolding comment
    dashes = rw (v, stripped s (62 ∷ []) t w)

    pub dashes_inside : r ≡ false → comment (drop 4 s) ≡ none
    dashes_inside f = dashes ∙ rw f

    pub dashes_end : r ≡ true → comment (drop 4 s) ≡ some (remark, drop (t + 1) s)
    dashes_end f = dashes ∙ rw f

pub ruleset comments = (nothing, something, endless, dashes_inside, dashes_end, room_one, rules)

-- ── instructions ──

and_true : (b : Bool) → (b && true) ≡ b
and_true true = refl
and_true false = refl

bind_none : {A B : Type 0} (o : Option A) → ◌>>=◌ {B = B} o (λ a. none) ≡ none
bind_none none = refl
bind_none (some a) = refl

module _ (s : List ℕ) where
  pub not_three : (length s ≡ 3 → ⊥) → false ≡ is_xml s
  unfolding is_xml is_empty
  not_three h = by s h
    where
      by : (t : List ℕ) → (length t ≡ 3 → ⊥) → false ≡ is_xml t
      by [] h = refl
      by (a ∷ []) h = refl
      by (a ∷ b ∷ []) h = refl
      by (a ∷ b ∷ c ∷ []) h = absurd (h refl)
      by (a ∷ b ∷ c ∷ d ∷ t) h = last (eqb (lower a) 120) (eqb (lower b) 109) (eqb (lower c) 108)
        where
          last : (x y z : Bool) → false ≡ (x && (y && (z && false)))
          last false y z = refl
          last true false z = refl
          last true true false = refl
          last true true true = refl

  module _ {a b c : ℕ} (h : length s ≡ 3) (p : a ≡ lower (get_or s 0 0)) (q : b ≡ lower (get_or s 1 0)) (u : c ≡ lower (get_or s 2 0)) where
    letters : is_xml s ≡ (eqb a 120 && (eqb b 109 && eqb c 108))
    unfolding is_xml is_empty
    letters = ap is_xml three ∙ rw (← p, ← q, ← u, and_true)
      where
        rest : drop 3 s ≡ []
        rest = let k : length s ≤ 3 = omega arith in drop_of_length-le s k

        three : s ≡ get_or s 0 0 ∷ get_or s 1 0 ∷ get_or s 2 0 ∷ []
        three =
            drop_next s 0 (omega arith)
            ∙ ap (λ t. get_or s 0 0 ∷ t) (drop_next s 1 (omega arith) ∙ ap (λ t. get_or s 1 0 ∷ t) (drop_next s 2 (omega arith) ∙ ap (λ t. get_or s 2 0 ∷ t) rest))

    pub not_x : (a ≡ 120 → ⊥) → false ≡ is_xml s
    not_x e = sym (letters ∙ rw (ne_eqb _ _ e))

    pub not_m : a ≡ 120 → (b ≡ 109 → ⊥) → false ≡ is_xml s
    not_m e f = sym (letters ∙ rw (eq-eqb _ _ e, ne_eqb _ _ f))

    pub last_letter : a ≡ 120 → b ≡ 109 → eqb c 108 ≡ is_xml s
    last_letter e f = sym (letters ∙ rw (eq-eqb _ _ e, eq-eqb _ _ f))

pub ruleset xml_names = (not_three, not_x, not_m, last_letter, rules)

module _ (s : List ℕ) {n : ℕ} (v : Name s 2 n) where
  pub targetless : n ≡ 2 → instruction (drop 2 s) ≡ none
  unfolding instruction
  targetless e = rw (v.is, eq-eqb _ _ e)

  module _ {x : Bool} (h : n ≡ 2 → ⊥) (e : x ≡ is_xml (part s 2 n)) where
    pub is_xml_law : x ≡ true → instruction (drop 2 s) ≡ none
    unfolding instruction
    is_xml_law f = rw (v.is, ne_eqb _ _ h, ← e, f) (bind_none (beyond (ascii "?>") (drop n s)))

    module _ (f : x ≡ false) where
      pub unended : beyond (63 ∷ 62 ∷ []) (drop n s) ≡ none → instruction (drop 2 s) ≡ none
      unfolding instruction
      unended k = rw (v.is, ne_eqb _ _ h, k)

      module _ (t : ℕ) {y : Bool} (b : beyond (63 ∷ 62 ∷ []) (drop n s) ≡ some (drop t s)) (g : y ≡ begins (63 ∷ 62 ∷ []) (drop n s)) where
        behind_target : instruction (drop 2 s) ≡ cond (y || blank (get_or s n 0)) (some (remark, drop t s)) none
        unfolding instruction
        behind_target = rw (v.is, ne_eqb _ _ h, ← e, f, b, ← g, get_or-drop n s 0 0, add-zero n)

        pub at_once : y ≡ true → instruction (drop 2 s) ≡ some (remark, drop t s)
        at_once l = behind_target ∙ rw l

        module _ {c : ℕ} {w : Bool} (l : y ≡ false) (q : c ≡ get_or s n 0) (u : w ≡ blank c) where
          pub apart : w ≡ true → instruction (drop 2 s) ≡ some (remark, drop t s)
          apart m = behind_target ∙ rw (l, ← q, ← u, m)

          pub not_apart : w ≡ false → instruction (drop 2 s) ≡ none
          not_apart m = behind_target ∙ rw (l, ← q, ← u, m)

pub ruleset instructions = (nothing, something, targetless, is_xml_law, unended, at_once, apart, not_apart, rules)

-- ── end tags ──

-- the length of a part that lies inside
pub part_length : (s : List ℕ) (a e : ℕ) → a ≤ e → e ≤ length s → length (part s a e) ≡ e - a
part_length s a e l h = rw (length-take, length-drop) (omega arith)

module _ (s : List ℕ) {n : ℕ} (v : Name s 2 n) where
  pub nameless : n ≡ 2 → end_tag (drop 2 s) ≡ none
  unfolding end_tag
  nameless e = rw (v.is, eq-eqb _ _ e)

  module _ {t : ℕ} {r : Bool} (h : n ≡ 2 → ⊥) (b : Span (of_class Blank) s n t) (w : r ≡ begins (62 ∷ []) (drop t s)) where
    behind_name : end_tag (drop 2 s) ≡ (cond r (some (drop (t + 1) s)) none >>= λ u. some (finish (part s 2 n), u))
    unfolding end_tag of_class
    behind_name = rw (v.is, ne_eqb _ _ h, span_rest b, stripped s (62 ∷ []) t w)

    pub unclosed : r ≡ false → end_tag (drop 2 s) ≡ none
    unclosed f = behind_name ∙ rw f

    pub closed : r ≡ true → Cuts s 0 (or_malformed (end_tag (drop 2 s))) (record { kind = Finish; name = 2; behind = n; end = t + 1; solid = 0; code = 0; short = false; refers = false })
    unfolding or_malformed piece_of before name_of text_of code_of short_of refers_of while
    closed f = rw (behind_name, f) (record {
      is = refl;
      name = refl;
      behind = omega (arith, v.low, part_length s 2 n v.low v.high);
      solid = refl;
      code = refl;
      short = refl;
      refers' = refl;
      name_low = v.low;
      name_high = omega (arith, b.low);
      solid_low = omega arith;
      solid_high = omega arith;
      low = omega arith;
      high = room_one s t 62 b.high w f;
    })

pub ruleset end_tags = (nothing, nameless, unclosed, closed, room_one, rules)

-- ── runs of text ──

not_empty : (p : ℕ → Bool) (s : List ℕ) {n : ℕ} → 0 < length s → p (get_or s 0 0) ≡ true → Span p s 0 n → 0 < n
unfolding span_end while
not_empty p s {n} h e v = let z : length (while p (drop 0 s)) ≡ suc (length (while p (drop 1 s))) = ap (λ t. length (while p t)) (drop_next s 0 h) ∙ rw e in omega (arith, v.is)

module _ (s : List ℕ) {n m : ℕ} (h : 0 < length s) (c : is_text (get_or s 0 0) ≡ true) (v : Span (of_class Texts) s 0 n) (w : Span (of_class Blank) (part s 0 n) 0 m) where
  pub is_run : beyond (93 ∷ 93 ∷ 62 ∷ []) (drop 0 (part s 0 n)) ≡ none → Cuts s 0 (or_malformed (run s)) (record { kind = Text; name = 0; behind = 0; end = n; solid = m; code = 0; short = false; refers = false })
  unfolding run is_some or_malformed piece_of before name_of text_of code_of short_of refers_of of_class span_end
  is_run e = rw (span_here v, span_rest v, e) (record {
    is = refl;
    name = refl;
    behind = refl;
    solid = w.is;
    code = refl;
    short = refl;
    refers' = refl;
    name_low = omega arith;
    name_high = omega arith;
    solid_low = omega arith;
    solid_high = omega (arith, w.high, part_length s 0 n v.low v.high);
    low = not_empty is_text s h c v;
    high = v.high;
  })

pub bad_run : (s : List ℕ) {n : ℕ} → Span (of_class Texts) s 0 n → (t : ℕ) → beyond (93 ∷ 93 ∷ 62 ∷ []) (drop 0 (part s 0 n)) ≡ some (drop t (part s 0 n)) → run s ≡ none
unfolding run is_some of_class
bad_run s v t e = rw (span_here v, e)

pub ruleset runs = (nothing, is_run, bad_run, rules)
