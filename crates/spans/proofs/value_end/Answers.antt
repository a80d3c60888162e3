use Rattle.spans.proofs.Valued.{value_loop}
use Rattle.spans.proofs.value_end.Goals as goal

pub returns-then-not-is_value_byte-clause-span : goal.returns-then-not-is_value_byte-clause-span
returns-then-not-is_value_byte-clause-span c = search value_loop

pub returns-then-not-is_value_byte-clause-refers : goal.returns-then-not-is_value_byte-clause-refers
returns-then-not-is_value_byte-clause-refers c = search value_loop

pub loop-i-preserved : goal.loop-i-preserved
loop-i-preserved c = search value_loop

pub returns-clause-span : goal.returns-clause-span
returns-clause-span c = search value_loop

pub returns-clause-refers : goal.returns-clause-refers
returns-clause-refers c = search value_loop
