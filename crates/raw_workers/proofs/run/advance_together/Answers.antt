use Rattle.raw_workers.proofs.Turning.{advanced}
use Rattle.raw_workers.proofs.Turning.{some_left}
use Rattle.raw_workers.proofs.run.advance_together.Goals as goal

pub returns-clause-advanced : goal.returns-clause-advanced
returns-clause-advanced g c =
    let r = c.round-machine.ensures.taken in
    let turn = c.serial_turn-steps.result.items in
    advanced c.args.machine c.round-machine.result.0 c.serial_turn-steps.new.machine r.0 turn _ r.1 c.serial_turn-steps.ensures.taken
    (some_left turn c.is_empty.result c.is_empty.ensures) c.law_taken.ensures.both c.law_bound.ensures.no_longer
