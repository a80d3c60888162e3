use Rattle.std.proofs.Common.{rules, ap, true, ◌∙◌}
use Rattle.cdi.specs.Values.{uncomplement}
use Rattle.frames.proofs.number_of.Goals as goal

pub returns : goal.returns
returns c =
    let e = c.signed.ensures ∙ ap (uncomplement true 8) c.from_be_bytes.ensures in
    search rules
