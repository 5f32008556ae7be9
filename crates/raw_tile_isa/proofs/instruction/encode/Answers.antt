use Rattle.std.proofs.Common.{◌∙◌, ap, arith}
use Rattle.std.proofs.lemmas.Grind.{common_steps}
use Rattle.raw_tile_isa.specs.Instruction.{key_word}
use Rattle.raw_tile_isa.proofs.Encoding.{encoded}
use Rattle.raw_tile_isa.proofs.instruction.encode.Goals as goal

pub returns : goal.returns
returns c =
    rw (← c.ins.view_is)
    (encoded _ c.key_word.result _ _ _ _ _ c.ins.invariant (c.key_word.ensures ∙ ap key_word c.key.ensures)
    c.from.ensures c.from-2.ensures c.from-3.ensures c.from-4.ensures c.from-5.ensures)

pub overflow_add-result : goal.overflow_add-result
overflow_add-result c = grind (arith, common_steps)

pub overflow_add-result-2 : goal.overflow_add-result-2
overflow_add-result-2 c = grind (arith, common_steps)

pub overflow_add-result-3 : goal.overflow_add-result-3
overflow_add-result-3 c = grind (arith, common_steps)

pub overflow_add-result-4 : goal.overflow_add-result-4
overflow_add-result-4 c = grind (arith, common_steps)

pub overflow_add-result-5 : goal.overflow_add-result-5
overflow_add-result-5 c = grind (arith, common_steps)

pub overflow_add-result-6 : goal.overflow_add-result-6
overflow_add-result-6 c = grind (arith, common_steps)
