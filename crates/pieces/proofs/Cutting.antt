-- Which piece stands at a place, and its places counted from the content's beginning.
use mathlib.Core.Path.{◌≡◌, refl, sym, ap, ◌∙◌}
use mathlib.Core.List.{List, [], ◌∷◌}
use mathlib.Core.Bool.{Bool, true, false}
use Prim.Native.Nat.{ℕ, zero, suc, ◌+◌, ◌-◌, ◌≤◌, ◌<◌}
use native.Mathlib.Nat.{add-zero}
use native.Mathlib.Omega.{arith}
use borrow.Author.Rules.{rules}
use borrow.Author.Tests.{eq-eqb, ne_eqb}
use lib.ListN.{length, take, drop, get_or, length-drop}
use lib.Seq.{drop-drop}
use Rattle.cdi.specs.Lists.{ascii, begins}
use Rattle.cdi.specs.Pieces.{Piece, unsupported, is_text, comment, instruction, end_tag, start_tag, reference, run, or_malformed, piece_at, pieces}
use Rattle.scan.proofs.Along.{drop_next, rest}
use Rattle.pieces_cuts.specs.Places.{part}
use Rattle.pieces_cuts.specs.Cuts.{piece_of, Cuts, Stands}
use Rattle.pieces_cuts.specs.declared.Kind.{Kind}
use Rattle.pieces_cuts.specs.declared.Kind.TheVariants.{Start, Finish, Remark, Refer, Text, Malformed, Unsupported}
use Rattle.pieces_cuts.specs.declared.Cut.{Cut}
use Rattle.pieces_cuts.proofs.Finding.{word_room}
use Rattle.pieces_attributes.proofs.Walking.{skip_to}
use Rattle.pieces.proofs.Moved.{moved_piece, moved_cut, attributes_moved, all_unmoved, piece_moved}

-- ── which piece ──

module _ (s : List ℕ) {r : Cut} {a : Bool} (h : begins (60 ∷ []) s ≡ true) (p : a ≡ begins (ascii "<!DOCTYPE") (drop 0 s)) where
  pub is_doctype : a ≡ true → Cuts s 0 (unsupported, []) r → Cuts s 0 (piece_at 0 s) r
  unfolding piece_at
  is_doctype e t = rw (h, ← p, e) t

  module _ {b : Bool} (e : a ≡ false) (q : b ≡ begins (ascii "<![CDATA[") (drop 0 s)) where
    pub is_cdata : b ≡ true → Cuts s 0 (unsupported, []) r → Cuts s 0 (piece_at 0 s) r
    unfolding piece_at
    is_cdata f t = rw (h, ← p, e, ← q, f) t

    module _ {c : Bool} (f : b ≡ false) (u : c ≡ begins (ascii "<!--") (drop 0 s)) where
      pub is_comment : c ≡ true → Cuts s 0 (or_malformed (comment (drop 4 s))) r → Cuts s 0 (piece_at 0 s) r
      unfolding piece_at
      is_comment g t = rw (h, ← p, e, ← q, f, ← u, g) t

      module _ {d : Bool} (g : c ≡ false) (v : d ≡ begins (ascii "<?") (drop 0 s)) where
        pub is_instruction : d ≡ true → Cuts s 0 (or_malformed (instruction (drop 2 s))) r → Cuts s 0 (piece_at 0 s) r
        unfolding piece_at
        is_instruction k t = rw (h, ← p, e, ← q, f, ← u, g, ← v, k) t

        module _ {l : Bool} (k : d ≡ false) (w : l ≡ begins (ascii "</") (drop 0 s)) where
          pub is_end_tag : l ≡ true → Cuts s 0 (or_malformed (end_tag (drop 2 s))) r → Cuts s 0 (piece_at 0 s) r
          unfolding piece_at
          is_end_tag m t = rw (h, ← p, e, ← q, f, ← u, g, ← v, k, ← w, m) t

          pub is_start_tag : l ≡ false → Cuts s 0 (or_malformed (start_tag 1 (drop 1 s))) r → Cuts s 0 (piece_at 0 s) r
          unfolding piece_at
          is_start_tag m t = rw (h, ← p, e, ← q, f, ← u, g, ← v, k, ← w, m) t

module _ (s : List ℕ) {r : Bool} where
  pub front_two : (c d : ℕ) → r ≡ begins (c ∷ d ∷ []) (drop 0 s) → r ≡ true → 2 ≤ length s
  front_two c d e f = word_room s (c ∷ d ∷ []) 0 (omega arith) e f

  pub front_four : (a b c d : ℕ) → r ≡ begins (a ∷ b ∷ c ∷ d ∷ []) (drop 0 s) → r ≡ true → 4 ≤ length s
  front_four a b c d e f = word_room s (a ∷ b ∷ c ∷ d ∷ []) 0 (omega arith) e f

pub ruleset markups = (is_doctype, is_cdata, is_comment, is_instruction, is_end_tag, is_start_tag, front_two, front_four, rules)

-- another byte stands in front
other_front : (s : List ℕ) (c : ℕ) {a : Bool} → 0 < length s → a ≡ begins (c ∷ []) (drop 0 s) → a ≡ false → get_or s 0 0 ≡ c → ⊥
unfolding begins
other_front s c h p e q =
    let there : begins (c ∷ []) (drop 0 s) ≡ true = ap (begins (c ∷ [])) (drop_next s 0 h) ∙ rw (eq-eqb c (get_or s 0 0) (sym q)) in
    let z : true ≡ false = sym there ∙ sym p ∙ e in
    let y : ◌≡◌ {A = ℕ} 0 1 = cc in
    absurd (omega arith)

module _ (s : List ℕ) {a : Bool} (p : a ≡ begins (60 ∷ []) (drop 0 s)) where
  pub is_markup : a ≡ true → begins (60 ∷ []) s ≡ true
  is_markup e = sym p ∙ e

  module _ {b : Bool} (e : a ≡ false) (q : b ≡ begins (38 ∷ []) (drop 0 s)) where
    pub is_reference : {r : Cut} → b ≡ true → Cuts s 0 (or_malformed (reference (drop 1 s))) r → Cuts s 0 (piece_at 0 s) r
    unfolding piece_at
    is_reference f t = rw (← p, e, ← q, f) t

    pub is_text_law : {r : Cut} → b ≡ false → Cuts s 0 (or_malformed (run s)) r → Cuts s 0 (piece_at 0 s) r
    unfolding piece_at
    is_text_law f t = rw (← p, e, ← q, f) t

    pub text_front : b ≡ false → 0 < length s → is_text (get_or s 0 0) ≡ true
    unfolding is_text
    text_front f h = rw (ne_eqb (get_or s 0 0) 60 (other_front s 60 h p e), ne_eqb (get_or s 0 0) 38 (other_front s 38 h q f))

pub ruleset any_piece = (is_markup, is_reference, is_text_law, text_front, rules)

-- ── counted from the content's beginning ──

-- the bytes that are still to pass
pub pieces_skip : (at k : ℕ) (s : List ℕ) → pieces at k s ≡ pieces (at + k) 0 (drop k s)
unfolding pieces
pieces_skip at zero s = rw add-zero
pieces_skip at (suc k) [] = refl
pieces_skip at (suc k) (x ∷ s) = let again : at + 1 + k ≡ at + suc k = omega arith in pieces_skip (at + 1) k s ∙ ap (λ (n : ℕ). pieces n 0 (drop k s)) again

-- the piece at i, where the text from e on follows it
pub cut_next : (s : List ℕ) (i e : ℕ) → i < length s → i < e → e ≤ length s → (piece_at i (drop i s)).1 ≡ drop e s → pieces i 0 (drop i s) ≡ (i, (piece_at i (drop i s)).0) ∷ pieces e 0 (drop e s)
unfolding pieces
cut_next s i e h l k q =
    ap (pieces i 0) (drop_next s i h)
    ∙ ap (λ (r : List (ℕ × Piece)). (i, (piece_at i (get_or s i 0 ∷ drop (i + 1) s)).0) ∷ r) (
    ap (λ (t : List ℕ). pieces (i + 1) (length (drop (i + 1) s) - length t) (drop (i + 1) s)) follows
    ∙ pieces_skip (i + 1) (length (drop (i + 1) s) - length (drop e s)) (drop (i + 1) s)
    ∙ ap (pieces (i + 1 + (length (drop (i + 1) s) - length (drop e s))) 0) (skip_to s i e l k)
    ∙ ap (λ (n : ℕ). pieces n 0 (drop e s)) there)
    ∙ ap (λ (l : List ℕ). (i, (piece_at i l).0) ∷ pieces e 0 (drop e s)) (sym (drop_next s i h))
  where
    follows : (piece_at i (get_or s i 0 ∷ drop (i + 1) s)).1 ≡ drop e s
    follows = ap (λ (l : List ℕ). (piece_at i l).1) (sym (drop_next s i h)) ∙ q

    there : i + 1 + (length (drop (i + 1) s) - length (drop e s)) ≡ e
    there = omega (arith, length-drop (i + 1) s, length-drop e s)

part_shift : (s : List ℕ) (i a e : ℕ) → part (drop i s) a e ≡ part s (i + a) (i + e)
part_shift s i a e = let less : e - a ≡ i + e - (i + a) = omega arith in ap (take (e - a)) (drop-drop a i s) ∙ ap (λ (n : ℕ). take n (drop (i + a) s)) less

-- the cut with its places moved
abbrev moved : ℕ → Cut → Cut
moved i c = record { kind = c.kind; name = i + c.name; behind = i + c.behind; end = i + c.end; solid = i + c.solid; code = c.code; short = c.short; refers = c.refers }

shifted : (k : Kind) (s : List ℕ) (i : ℕ) (c : Cut) → moved_piece i (piece_of k (drop i s) 0 c) ≡ piece_of k s i (moved i c)
unfolding piece_of
shifted Start s i c = rw (part_shift s i c.name c.behind, ← attributes_moved i c.behind 0 (drop c.behind (drop i s)), drop-drop)
shifted Finish s i c = rw (part_shift s i c.name c.behind)
shifted Remark s i c = refl
shifted Refer s i c = refl
shifted Text s i c = rw (part_shift s i 0 c.end, add-zero)
shifted Malformed s i c = refl
shifted Unsupported s i c = refl

move : (s : List ℕ) (i : ℕ) (want : Piece × List ℕ) (c : Cut) → Cuts (drop i s) 0 want c → i < length s → Cuts s i (moved_cut i want) (moved i c)
move s i want c v h =
    let a = v.name in
    let b = v.behind in
    let d = v.solid in
    let e = v.name_low in
    let f = v.name_high in
    let g = v.solid_high in
    let j = v.low in
    let k = v.high in
    let u = all_unmoved i want.0 in
    record {
      is = ap (moved_cut i) v.is ∙ rw (shifted c.kind s i c, drop-drop);
      name = omega arith;
      behind = rw u.name (omega arith);
      solid = rw u.text' (omega arith);
      code = v.code ∙ sym u.code;
      short = v.short ∙ sym u.short;
      refers' = v.refers' ∙ sym u.refers';
      name_low = omega arith;
      name_high = omega arith;
      solid_low = omega arith;
      solid_high = omega arith;
      low = omega arith;
      high = omega (arith, length-drop i s);
    }

pub stands : (s : List ℕ) (i : ℕ) {c : Cut} → i < length s → Cuts (take (length s - i) (drop i s)) 0 (piece_at 0 (take (length s - i) (drop i s))) c
    → Stands s i (record { kind = c.kind; name = i + c.name; behind = i + c.behind; end = i + c.end; solid = i + c.solid; code = c.code; short = c.short; refers = c.refers })
stands s i {c} h v = record {
  is = cut_next s i (i + c.end) h m.low m.high (ap (λ w. w.1) m.is) ∙ ap (λ w. (i, w.0) ∷ pieces (i + c.end) 0 (drop (i + c.end) s)) m.is;
  cut = m;
}
  where
    m : Cuts s i (piece_at i (drop i s)) (moved i c)
    m = rw (piece_moved i (drop i s)) (move s i (piece_at 0 (drop i s)) c (rw (rest s i) at v) h)

pub ruleset standing = (stands, rules)
