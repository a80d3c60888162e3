use Rattle.std.proofs.Common.{◌≡◌, rules}
use Rattle.std.specs.Prelude.{Ok, Err}
use Rattle.locate.specs.declared.Absent.TheVariants.{NotAPlan, NoVariable}
use Rattle.access_lookup.proofs.Seeking.{seeking, held_record, seek_no_plan, seek_none, stands, stands_inside, stands_behind, seek_is, seek_fits}
use Rattle.access_lookup.proofs.seek.Goals as goal

pub find-requires : goal.find-requires
find-requires c = search seeking

pub rise_at-place-requires : goal.rise_at-place-requires
rise_at-place-requires c = let g : c.find.result ≡ Ok c.in-Ok.it = cc in (held_record c.args.table.now c.find.ensures.held c.in-Ok.it g, search seeking)

pub slice_bounds-content_at-end : goal.slice_bounds-content_at-end
slice_bounds-content_at-end c = search seeking

pub content_at-part-requires : goal.content_at-part-requires
content_at-part-requires c =
    let g : c.find.result ≡ Ok c.in-Ok.it = cc in
    let l = c.rise_at-place.ensures.0 in
    (stands_behind c.args.text.now c.args.table.now c.requires c.args.n c.find.ensures.is g l, stands_inside c.args.text.now c.args.table.now c.requires c.args.n c.find.ensures.is g l, stands c.args.text.now c.args.table.now c.requires c.args.n c.find.ensures.is g l)

pub returns-in-Err-NotAPlan-clause-is : goal.returns-in-Err-NotAPlan-clause-is
returns-in-Err-NotAPlan-clause-is c =
    let g : c.find.result ≡ Err NotAPlan = cc in seek_no_plan c.args.text.now c.args.table.now c.requires c.args.n c.find.ensures.is g

pub returns-in-Err-NotAPlan-clause-fits : goal.returns-in-Err-NotAPlan-clause-fits
returns-in-Err-NotAPlan-clause-fits c = search seeking

pub returns-in-Err-NoVariable-clause-is : goal.returns-in-Err-NoVariable-clause-is
returns-in-Err-NoVariable-clause-is c =
    let g : c.find.result ≡ Err NoVariable = cc in seek_none c.args.text.now c.args.table.now c.requires c.args.n c.find.ensures.is g

pub returns-in-Err-NoVariable-clause-fits : goal.returns-in-Err-NoVariable-clause-fits
returns-in-Err-NoVariable-clause-fits c = search seeking

pub returns-in-Ok-clause-is : goal.returns-in-Ok-clause-is
returns-in-Ok-clause-is c =
    let g : c.find.result ≡ Ok c.in-Ok.it = cc in
    search (seek_is c.args.text.now c.args.table.now c.requires c.args.n c.find.ensures.is g, rules)

pub returns-in-Ok-clause-fits : goal.returns-in-Ok-clause-fits
returns-in-Ok-clause-fits c =
    let g : c.find.result ≡ Ok c.in-Ok.it = cc in
    search (seek_fits c.args.text.now c.args.table.now c.requires c.args.n c.find.ensures.is g, rules)
