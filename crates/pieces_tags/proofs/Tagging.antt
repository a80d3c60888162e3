-- Start tags.
use mathlib.Core.Path.{◌≡◌, refl, sym, ap}
use mathlib.Core.List.{List, [], ◌∷◌}
use mathlib.Core.Bool.{Bool, true, false, cond}
use mathlib.Core.Option.{none, some}
use Prim.Native.Nat.{ℕ, ◌+◌, ◌≤◌}
use native.Mathlib.Omega.{arith}
use borrow.Author.Rules.{rules}
use borrow.Author.Tests.{eq-eqb, ne_eqb}
use lib.ListN.{length, drop}
use lib.Seq.{drop-drop}
use Rattle.cdi.specs.Lists.{◌>>=◌, any, while, begins}
use Rattle.cdi.specs.Pieces.{start, attributes, twice, start_tag, or_malformed}
use Rattle.cdi.specs.Markup.{refers}
use Rattle.scan.specs.Spans.{of_class, Span}
use Rattle.scan.specs.declared.Class.TheVariants.{Blank}
use Rattle.scan.proofs.Spans.{span_rest}
use Rattle.pieces_cuts.specs.Places.{part, Name, closing, Closes}
use Rattle.pieces_cuts.specs.Cuts.{piece_of, before, name_of, text_of, code_of, short_of, refers_of, Cuts, tag_of}
use Rattle.pieces_cuts.specs.declared.Kind.TheVariants.{Start}
use Rattle.pieces_cuts.specs.declared.Cut.{Cut}
use Rattle.pieces_cuts.proofs.Finding.{room_one, room_two}
use Rattle.pieces_cuts.proofs.Making.{nothing}
use Rattle.pieces_marks.proofs.Reading.{part_length}

module _ (s : List ℕ) (n e : ℕ) (k : Bool) {d : Bool} (w : d ≡ twice (attributes n 0 (drop n s))) where
  pub name_twice : d ≡ true → tag_of s n e k ≡ none
  unfolding tag_of
  name_twice f = rw (← w, f)

  pub a_tag : {x : Bool} → d ≡ false → x ≡ refers (attributes n 0 (drop n s)) → 1 ≤ n → n ≤ e → 1 ≤ e → e ≤ length s
      → Cuts s 0 (or_malformed (tag_of s n e k)) (record { kind = Start; name = 1; behind = n; end = e; solid = 0; code = 0; short = k; refers = x })
  unfolding tag_of or_malformed piece_of before name_of text_of code_of short_of refers_of while
  a_tag f q l m o h = rw (← w, f) (record {
    is = refl;
    name = refl;
    behind = let j : n ≤ length s = omega arith in omega (arith, part_length s 1 n l j);
    solid = refl;
    code = refl;
    short = refl;
    refers' = q;
    name_low = l;
    name_high = m;
    solid_low = omega arith;
    solid_high = omega arith;
    low = o;
    high = h;
  })

-- a tag without attributes has no name twice and refers to nothing
pub bare_tag : (s : List ℕ) (n e : ℕ) (k : Bool) {l : ℕ} → Closes s n l → l ≡ n → 1 ≤ n → n ≤ e → 1 ≤ e → e ≤ length s
    → Cuts s 0 (or_malformed (tag_of s n e k)) (record { kind = Start; name = 1; behind = n; end = e; solid = 0; code = 0; short = k; refers = false })
unfolding twice refers any
bare_tag s n e k {l} v f =
    let z : attributes n 0 (drop n s) ≡ [] = rw (← f) v.all in
    a_tag s n e k {d = false} (sym (ap twice z)) refl (sym (ap refers z))

pub ruleset a_start_tag = (nothing, name_twice, a_tag, bare_tag, rules)

module _ (s : List ℕ) {n : ℕ} (v : Name s 1 n) where
  pub untagged : n ≡ 1 → start_tag 1 (drop 1 s) ≡ none
  unfolding start_tag
  untagged e = rw (v.is, eq-eqb _ _ e)

  module _ {l t : ℕ} {a : Bool} (h : n ≡ 1 → ⊥) (c : Closes s n l) (b : Span (of_class Blank) s l t) (w : a ≡ begins (62 ∷ []) (drop t s)) where
    behind : 1 + length (part s 1 n) ≡ n
    behind = omega (arith, v.low, part_length s 1 n v.low v.high)

    ends : start_tag 1 (drop 1 s) ≡ (closing (drop t s) >>= λ e. cond (twice (attributes n 0 (drop n s))) none (some (start (part s 1 n) (attributes n 0 (drop n s)) e.0, e.1)))
    unfolding start_tag of_class
    ends = rw (v.is, ne_eqb _ _ h, c.is, span_rest b, behind)

    pub long_tag : {r : Cut} → a ≡ true → Cuts s 0 (or_malformed (tag_of s n (t + 1) false)) r → Cuts s 0 (or_malformed (start_tag 1 (drop 1 s))) r
    unfolding tag_of closing
    long_tag f k = rw (ends, ← w, f, drop-drop) k

    module _ {d : Bool} (f : a ≡ false) (u : d ≡ begins (47 ∷ 62 ∷ []) (drop t s)) where
      pub short_tag : {r : Cut} → d ≡ true → Cuts s 0 (or_malformed (tag_of s n (t + 2) true)) r → Cuts s 0 (or_malformed (start_tag 1 (drop 1 s))) r
      unfolding tag_of closing
      short_tag g k = rw (ends, ← w, f, ← u, g, drop-drop) k

      pub open_tag : d ≡ false → start_tag 1 (drop 1 s) ≡ none
      unfolding closing
      open_tag g = rw (ends, ← w, f, ← u, g)

pub ruleset start_tags = (nothing, untagged, long_tag, short_tag, open_tag, room_one, room_two, rules)
