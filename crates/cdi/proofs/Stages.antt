-- What an accepted text has passed, stage by stage.
use mathlib.Core.Path.{◌≡◌, refl, ap, ◌∙◌}
use mathlib.Core.List.{List, [], ◌∷◌}
use mathlib.Core.Bool.{Bool, true, false}
use mathlib.Core.Option.{Option, none, some}
use Prim.Native.Nat.{ℕ, suc, ◌+◌, ◌≤◌, ◌<◌, min}
use native.Mathlib.Omega.{arith}
use lib.Dec.{eqb, leb}
use lib.ListN.{length, take, length-take}
use Rattle.cdi.specs.Lists.{given, ◌>>=◌, begins}
use Rattle.cdi.specs.Faults.{fault, least, accepted, refused}
use Rattle.cdi.specs.Text.{zero_from, end_of, content, bad_character, first_line}
use Rattle.cdi.specs.Markup.{progress, markup_faults}
use Rattle.cdi.specs.Tree.{tree}
use Rattle.cdi.specs.Rules.{element_faults}
use Rattle.cdi.specs.Walk.{total}
use Rattle.cdi.specs.Planning.{Description, describe, ending, characters, opening, cut, markup, elements, leaving, addressing, counting, described}
use Rattle.cdi.proofs.Quiet.{impossible, quiet, through, stage_passed, test_passed}

pub first_zero : (at : ℕ) (s : List ℕ) (e : ℕ) → zero_from at s ≡ some e → e < at + length s
unfolding zero_from
first_zero at [] e q = impossible (cc)
first_zero at (x ∷ s) e q = by (eqb x 0) refl (first_zero (at + 1) s e)
  where
    by : (t : Bool) → eqb x 0 ≡ t → (zero_from (at + 1) s ≡ some e → e < at + 1 + length s) → e < at + suc (length s)
    by true p others = let w = rw p at q in let z : at ≡ e = cc in omega arith
    by false p others = let z = others (rw p at q) in omega arith

-- Content ends at 65,535 or before.
pub content_short : (b c : List ℕ) → content b ≡ some c → length c ≤ 65535
unfolding content end_of
content_short b c e = by (end_of b) refl e
  where
    by : (o : Option ℕ) → end_of b ≡ o → (o >>= λ z. some (take z b)) ≡ some c → length c ≤ 65535
    by none q h = impossible (cc)
    by (some z) q h =
        let l = first_zero 0 (take 65536 b) z q in
        let m : take z b ≡ c = cc in
        omega (arith, length-take 65536 b, length-take z b, ap length m)

-- what stages 1 to 12 make sure of
pub record Stages (b : List ℕ) (d : Description) : Type 0 where
  pub text : List ℕ
  pub ends : content b ≡ some text
  pub marked : markup_faults (length text) (progress [] 0) (cut text) ≡ []
  pub ruled : element_faults (tree (cut text)) ≡ []
  pub told : describe (tree (cut text)) (tree (cut text)) ≡ d
  pub keeps : leaving 0 d.segments ≡ none
  pub counts : leb (total d.segments) 1000000 ≡ true

text_ends : (b c : List ℕ) → ending b ≡ accepted c → content b ≡ some c
unfolding ending
text_ends b c e = by (content b) e
  where
    by : (o : Option (List ℕ)) → given o (refused (fault 1 (min (length b) 65536))) accepted ≡ accepted c → o ≡ some c
    by none q = cc
    by (some x) q = cc

text_same : (c x : List ℕ) → characters c ≡ accepted x → c ≡ x
unfolding characters
text_same c x e = by (bad_character c) e
  where
    by : (o : Option ℕ) → given o (accepted c) (λ p. refused (fault 2 p)) ≡ accepted x → c ≡ x
    by none q = cc
    by (some p) q = cc

-- An accepted text has passed every stage.
pub stages : (b : List ℕ) (d : Description) → described b ≡ accepted d → Stages b d
unfolding described opening markup elements addressing counting
stages b d e =
    through _ counting d e λ v p counted.
    through _ addressing v p λ u p stays.
    through _ elements u p λ t p ruled.
    through _ markup t p λ c p marked.
    through _ opening c p λ x p opened.
    through (ending b) characters x p λ y p good.
    let g = test_passed (leb (total v.segments) 1000000) (fault 12 v.root) v d counted in
    let k = stage_passed (leaving 0 u.segments) u v stays in
    let r = stage_passed (least (element_faults t)) (describe t t) u ruled in
    let m = stage_passed (least (markup_faults (length c) (progress [] 0) (cut c))) (tree (cut c)) t marked in
    let o = test_passed (begins first_line x) (fault 3 0) x c opened in
    record {
      text = c;
      ends = text_ends b y p ∙ ap some (text_same y x good ∙ o.1);
      marked = quiet _ m.0;
      ruled = rw m.1 (quiet (element_faults t) r.0);
      told = rw m.1 (r.1 ∙ (k.1 ∙ g.1));
      keeps = rw (k.1 ∙ g.1) at k.0;
      counts = rw g.1 at g.0;
    }
