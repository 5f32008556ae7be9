use Rattle.std.proofs.Common.{◌∙◌, ap, length}
use Rattle.raw_tile.specs.Given.{out_of}
use Rattle.raw_tile.proofs.Operands.{fired}
use Rattle.raw_tile.proofs.Touched.{touched_inside}
use Rattle.raw_tile.proofs.fire.tile_fire.Goals as goal

pub returns-clause-next : goal.returns-clause-next
returns-clause-next c =
    c.do_row.ensures.next
    ∙ ap (λ effect. effect.next)
    (fired c.args.code.now c.args.state.now c.instruction-ins.result.now c.args.given _ _ c.instruction-ins.ensures
    c.requires.given c.operand_at_rs-a.ensures c.operand_at_rt-b.ensures)

pub returns-clause-out : goal.returns-clause-out
returns-clause-out c =
    c.do_row.ensures.out
    ∙ ap out_of
    (fired c.args.code.now c.args.state.now c.instruction-ins.result.now c.args.given _ _ c.instruction-ins.ensures
    c.requires.given c.operand_at_rs-a.ensures c.operand_at_rt-b.ensures)

pub returns-clause-touched : goal.returns-clause-touched
returns-clause-touched c =
    rw c.do_row.ensures.out
    (touched_inside c.instruction-ins.result.now.op (length c.args.code.now) c.args.state.now c.instruction-ins.result.now
    c.operand_at_rs-a.result c.operand_at_rt-b.result)
