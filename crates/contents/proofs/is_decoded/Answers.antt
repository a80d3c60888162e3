use Rattle.std.proofs.Common.{refl, ◌∙◌}
use Rattle.children.proofs.Turning.{walk_here, walk_stands, walk_on, walk_out}
use Rattle.contents.proofs.Decoding.{decode_out, decode_end, decode_idle, decode_run, not_run, decode_character, not_character, element_start, decode_deep, decode_element}
use Rattle.contents.proofs.is_decoded.Goals as goal

pub returns-in_default-behind_word : goal.returns-in_default-behind_word
returns-in_default-behind_word c =
    let w = c.loop-piece.invariant in
    let g = c.in-Some.ensures.steps in
    not_run (walk_here w g) (walk_stands w g) c.in-Run.ensures refl c.in_default-behind_word.ensures

pub loop-piece-preserved-in-Run : goal.loop-piece-preserved-in-Run
loop-piece-preserved-in-Run c =
    let w = c.loop-piece.invariant in
    let g = c.in-Some.ensures.steps in
    walk_on w g (decode_run (walk_here w g) (walk_stands w g) c.in-Run.ensures refl c.in-Some-behind_word.ensures)

pub returns-in_default-behind_character : goal.returns-in_default-behind_character
returns-in_default-behind_character c =
    let w = c.loop-piece.invariant in
    let g = c.in-Some.ensures.steps in
    not_character (walk_here w g) (walk_stands w g) c.in-Character.ensures refl c.in_default-behind_character.ensures

pub loop-piece-preserved-in-Character : goal.loop-piece-preserved-in-Character
loop-piece-preserved-in-Character c =
    let w = c.loop-piece.invariant in
    let g = c.in-Some.ensures.steps in
    walk_on w g (decode_character (walk_here w g) (walk_stands w g) c.in-Character.ensures refl c.in-Some-behind_character.ensures)

pub after-requires : goal.after-requires
after-requires c =
    let w = c.loop-piece.invariant in
    let g = c.in-Some.ensures.steps in
    let v = walk_stands w g in
    (v, element_start (walk_here w g) v c.in-Element.ensures refl, decode_deep (walk_here w g) v c.in-Element.ensures)

pub loop-piece-preserved-in-Element : goal.loop-piece-preserved-in-Element
loop-piece-preserved-in-Element c =
    let w = c.loop-piece.invariant in
    let g = c.in-Some.ensures.steps in
    record { is = decode_element (walk_here w g) (walk_stands w g) c.in-Element.ensures c.after.ensures; content = g.content ∙ w.content }

pub loop-piece-preserved : goal.loop-piece-preserved
loop-piece-preserved c =
    let w = c.loop-piece.invariant in
    let g = c.in-Some.ensures.steps in
    walk_on w g (decode_idle (walk_here w g) (walk_stands w g) c.role_of.ensures c.in-Dropped.is)

pub returns-in-End : goal.returns-in-End
returns-in-End c =
    let w = c.loop-piece.invariant in
    let g = c.in-Some.ensures.steps in
    decode_end (walk_here w g) (walk_stands w g) c.in-End.ensures refl refl

pub returns : goal.returns
returns c = decode_out c.loop-piece.invariant.is (walk_out c.loop-piece.invariant c.in_default.ensures.steps)
