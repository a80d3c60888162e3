use Rattle.std.proofs.Common.{refl, rules}
use Rattle.contents.proofs.Owning.{own_low, own_high, own_bytes, own_nothing}
use Rattle.contents.proofs.own_text.Goals as goal

pub slice_bounds-result-count : goal.slice_bounds-result-count
slice_bounds-result-count c =
    let low = own_low c.own_place.ensures c.in-Some.is in
    let high = own_high c.own_place.ensures c.in-Some.is in
    search rules

pub slice_bounds-result-start : goal.slice_bounds-result-start
slice_bounds-result-start c =
    let low = own_low c.own_place.ensures c.in-Some.is in
    let high = own_high c.own_place.ensures c.in-Some.is in
    search rules

pub slice_bounds-result-end : goal.slice_bounds-result-end
slice_bounds-result-end c =
    let low = own_low c.own_place.ensures c.in-Some.is in
    let high = own_high c.own_place.ensures c.in-Some.is in
    search rules

pub returns-in-Some : goal.returns-in-Some
returns-in-Some c = own_bytes c.own_place.ensures c.in-Some.is refl

pub returns-in-None : goal.returns-in-None
returns-in-None c = own_nothing c.own_place.ensures c.in-None.is
