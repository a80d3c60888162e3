-- One answer: any two results that a contract allows are the same. That a name has one end is shown in `pieces_cuts`, of an attribute's places in
-- `pieces_attributes`.
use mathlib.Core.Path.{◌≡◌, refl, sym, ap, ◌∙◌}
use mathlib.Core.List.{List}
use mathlib.Core.Bool.{Bool}
use Prim.Native.Nat.{ℕ, ◌+◌}
use native.Mathlib.Omega.{arith}
use lib.ListN.{drop}
use Rattle.cdi.specs.Lists.{any}
use Rattle.cdi.specs.Pieces.{Piece, start, finish, remark, refer, text, malformed, unsupported, lower, attributes, bears, twice}
use Rattle.cdi.specs.Markup.{refers}
use Rattle.pieces_characters.specs.Characters.{clip, value_in, Encoded}
use Rattle.pieces_cuts.specs.Cuts.{piece_of, before, Cuts, Stands}
use Rattle.pieces_cuts.specs.declared.Kind.{Kind}
use Rattle.pieces_cuts.specs.declared.Kind.TheVariants.{Start, Finish, Remark, Refer, Text, Malformed, Unsupported}
use Rattle.pieces_cuts.specs.declared.Cut.{Cut}
use Rattle.pieces_characters.specs.declared.Encoding.{Encoding}
use Rattle.pieces_cuts.proofs.Once.{same_rest}

-- what equals a definition is one
module _ {A : Type 0} {x r q : A} where
  once : r ≡ x → q ≡ x → r ≡ q
  once e f = e ∙ sym f

pub lower_once : (b : ℕ) {r q : ℕ} → r ≡ lower b → q ≡ lower b → r ≡ q
lower_once b = once

pub number_of_once : (h : Bool) (s : List ℕ) {r q : ℕ} → r ≡ clip (value_in h 0 s) → q ≡ clip (value_in h 0 s) → r ≡ q
number_of_once h s = once

pub is_named_once : (n s : List ℕ) (at : ℕ) {r q : Bool} → r ≡ any (bears n) (attributes at 0 (drop at s)) → q ≡ any (bears n) (attributes at 0 (drop at s)) → r ≡ q
is_named_once n s at = once

pub is_twice_once : (s : List ℕ) (at : ℕ) {r q : Bool} → r ≡ twice (attributes at 0 (drop at s)) → q ≡ twice (attributes at 0 (drop at s)) → r ≡ q
is_twice_once s at = once

pub has_reference_once : (s : List ℕ) (at : ℕ) {r q : Bool} → r ≡ refers (attributes at 0 (drop at s)) → q ≡ refers (attributes at 0 (drop at s)) → r ≡ q
has_reference_once s at = once

abbrev encoding : List ℕ → ℕ → Encoding
encoding b n = record { bytes = b; length = n }

-- of pieces_characters::utf8
pub utf8_once : {c : ℕ} {r q : Encoding} → Encoded c r → Encoded c q → r ≡ q
utf8_once {c} {r} {q} v w = ap (λ b. encoding b r.length) (once v.is w.is) ∙ ap (encoding q.bytes) (once v.count w.count)

-- ── pieces ──

kind_of : Piece → Kind
kind_of (start n s e) = Start
kind_of (finish n) = Finish
kind_of remark = Remark
kind_of (refer c) = Refer
kind_of (text t) = Text
kind_of malformed = Malformed
kind_of unsupported = Unsupported

kind_back : (k : Kind) (s : List ℕ) (at : ℕ) (r : Cut) → kind_of (piece_of k s at r) ≡ k
unfolding kind_of piece_of
kind_back Start s at r = refl
kind_back Finish s at r = refl
kind_back Remark s at r = refl
kind_back Refer s at r = refl
kind_back Text s at r = refl
kind_back Malformed s at r = refl
kind_back Unsupported s at r = refl

abbrev a_cut : Kind → ℕ → ℕ → ℕ → ℕ → ℕ → Bool → Bool → Cut
a_cut k n b e s c h x = record { kind = k; name = n; behind = b; end = e; solid = s; code = c; short = h; refers = x }

-- of pieces_cuts::cuts::malformed, pieces_cuts::cuts::unsupported, pieces_cuts::cuts::passed, pieces_cuts::cuts::character
-- of pieces_marks::comment, pieces_marks::instruction, pieces_marks::text, pieces_references::reference, pieces_tags::end_tag
-- of pieces_tags::start_tag
pub cuts_once : {s : List ℕ} {at : ℕ} {want : Piece × List ℕ} {r q : Cut} → Cuts s at want r → Cuts s at want q → r ≡ q
cuts_once {s} {at} {want} {r} {q} v w =
    let kind : r.kind ≡ q.kind = sym (kind_back r.kind s at r) ∙ ap (λ x. kind_of x.0) (sym v.is ∙ w.is) ∙ kind_back q.kind s at q in
    let end : r.end ≡ q.end = same_rest s r.end q.end v.high w.high (ap (λ x. x.1) (sym v.is ∙ w.is)) in
    let name : r.name ≡ q.name = v.name ∙ ap (λ k. at + before k) kind ∙ sym w.name in
    let behind : r.behind ≡ q.behind = omega (arith, v.behind, w.behind) in
    ap (λ x. a_cut x r.name r.behind r.end r.solid r.code r.short r.refers) kind
    ∙ ap (λ x. a_cut q.kind x r.behind r.end r.solid r.code r.short r.refers) name
    ∙ ap (λ x. a_cut q.kind q.name x r.end r.solid r.code r.short r.refers) behind
    ∙ ap (λ x. a_cut q.kind q.name q.behind x r.solid r.code r.short r.refers) end
    ∙ ap (λ x. a_cut q.kind q.name q.behind q.end x r.code r.short r.refers) (once v.solid w.solid)
    ∙ ap (λ x. a_cut q.kind q.name q.behind q.end q.solid x r.short r.refers) (once v.code w.code)
    ∙ ap (λ x. a_cut q.kind q.name q.behind q.end q.solid q.code x r.refers) (once v.short w.short)
    ∙ ap (a_cut q.kind q.name q.behind q.end q.solid q.code q.short) (once v.refers' w.refers')

pub piece_at_once : {s : List ℕ} {at : ℕ} {r q : Cut} → Stands s at r → Stands s at q → r ≡ q
piece_at_once v w = cuts_once v.cut w.cut
