-- Cuts that have no name and no text, and a piece that is none.
use mathlib.Core.Path.{◌≡◌, refl, sym, ap, ◌∙◌}
use mathlib.Core.List.{List, []}
use mathlib.Core.Bool.{false}
use mathlib.Core.Option.{Option, none, some}
use Prim.Native.Nat.{ℕ, ◌≤◌, ◌<◌}
use native.Mathlib.Omega.{arith}
use borrow.Author.Rules.{rules}
use lib.ListN.{length, drop, drop_of_length-le}
use Rattle.cdi.specs.Lists.{while}
use Rattle.cdi.specs.Pieces.{Piece, remark, refer, malformed, unsupported, or_malformed}
use Rattle.pieces_cuts.specs.Cuts.{plain_cut, piece_of, before, name_of, text_of, code_of, short_of, refers_of, Cuts}
use Rattle.pieces_cuts.specs.declared.Kind.{Kind}
use Rattle.pieces_cuts.specs.declared.Kind.TheVariants.{Remark, Refer, Malformed, Unsupported}
use Rattle.pieces_cuts.specs.declared.Cut.{Cut}

-- a piece without name, text or tag
pub record Bare (p : Piece) : Type 0 where
  pub name : name_of p ≡ []
  pub text' : text_of p ≡ []
  pub short : short_of p ≡ false
  pub refers' : refers_of p ≡ false

module _ (s : List ℕ) (p : Piece) (b : Bare p) (k : Kind) (e c : ℕ) (l : 0 < e) (h : e ≤ length s) where
  bare : (t : List ℕ) → p ≡ piece_of k s 0 (plain_cut k e c) → t ≡ drop e s → 0 ≡ before k → c ≡ code_of p → Cuts s 0 (p, t) (plain_cut k e c)
  unfolding while
  bare t q u v w = record {
    is = ap (λ x. (x, t)) q ∙ ap (λ x. (piece_of k s 0 (plain_cut k e c), x)) u;
    name = rw (← v);
    behind = rw b.name;
    solid = rw b.text';
    code = w;
    short = sym b.short;
    refers' = sym b.refers';
    name_low = omega arith;
    name_high = omega arith;
    solid_low = omega arith;
    solid_high = omega arith;
    low = l;
    high = h;
  }

all : (s : List ℕ) → [] ≡ drop (length s) s
all s = let k : length s ≤ length s = omega arith in sym (drop_of_length-le s k)

module _ (s : List ℕ) {r : Cut} where
  module _ (h : 0 < length s) where
    pub made_malformed : r ≡ plain_cut Malformed (length s) 0 → Cuts s 0 (malformed, []) r
    unfolding piece_of before name_of text_of code_of short_of refers_of
    made_malformed e = rw e (bare s malformed (record { name = refl; text' = refl; short = refl; refers' = refl }) Malformed (length s) 0 h (omega arith) [] refl (all s) refl refl)

    pub made_unsupported : r ≡ plain_cut Unsupported (length s) 0 → Cuts s 0 (unsupported, []) r
    unfolding piece_of before name_of text_of code_of short_of refers_of
    made_unsupported e = rw e (bare s unsupported (record { name = refl; text' = refl; short = refl; refers' = refl }) Unsupported (length s) 0 h (omega arith) [] refl (all s) refl refl)

  module _ (n : ℕ) (l : 0 < n) (h : n ≤ length s) where
    pub made_remark : r ≡ plain_cut Remark n 0 → Cuts s 0 (remark, drop n s) r
    unfolding piece_of before name_of text_of code_of short_of refers_of
    made_remark e = rw e (bare s remark (record { name = refl; text' = refl; short = refl; refers' = refl }) Remark n 0 l h (drop n s) refl refl refl refl)

    pub made_character : (c : ℕ) → r ≡ plain_cut Refer n c → Cuts s 0 (refer c, drop n s) r
    unfolding piece_of before name_of text_of code_of short_of refers_of
    made_character c e = rw e (bare s (refer c) (record { name = refl; text' = refl; short = refl; refers' = refl }) Refer n c l h (drop n s) refl refl refl refl)

pub ruleset makers = (made_malformed, made_unsupported, made_remark, made_character, rules)

-- a reader that finds nothing, and one that finds a piece
module _ (s : List ℕ) {x : Option (Piece × List ℕ)} {r : Cut} where
  pub nothing : Cuts s 0 (malformed, []) r → x ≡ none → Cuts s 0 (or_malformed x) r
  unfolding or_malformed
  nothing t e = rw e t

  pub something : {c : Piece × List ℕ} → Cuts s 0 c r → x ≡ some c → Cuts s 0 (or_malformed x) r
  unfolding or_malformed
  something t e = rw e t
