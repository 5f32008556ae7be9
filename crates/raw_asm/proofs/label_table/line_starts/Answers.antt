use Rattle.std.proofs.Common.{arith}
use Rattle.std.proofs.lemmas.Grind.{common_steps}
use Rattle.raw_asm.proofs.label_table.line_starts.Goals as goal

pub loop-line-preserved : goal.loop-line-preserved
loop-line-preserved g c = grind (arith, common_steps)

pub returns-clause-places : goal.returns-clause-places
returns-clause-places g c = grind (arith, common_steps)

pub overflow_add-place : goal.overflow_add-place
overflow_add-place g c = grind (arith, common_steps)
