use Rattle.std.proofs.Common.{arith}
use Rattle.std.proofs.lemmas.Grind.{common_steps}
use Rattle.raw_codegen.proofs.programs.Programs.give_load.Goals as goal

pub returns-in_err-give_tile-clause-too_many : goal.returns-in_err-give_tile-clause-too_many
returns-in_err-give_tile-clause-too_many c = grind (arith, common_steps)

pub returns-in_err-give_tile-2-clause-too_many : goal.returns-in_err-give_tile-2-clause-too_many
returns-in_err-give_tile-2-clause-too_many c = grind (arith, common_steps)

pub returns-in_ok-give_tile-2-clause-gives : goal.returns-in_ok-give_tile-2-clause-gives
returns-in_ok-give_tile-2-clause-gives c = grind (arith, common_steps)

pub returns-in_default-clause-gives : goal.returns-in_default-clause-gives
returns-in_default-clause-gives c = grind (arith, common_steps)
