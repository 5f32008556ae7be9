use Rattle.raw_workers.proofs.Turning.{some_left, less_left}
use Rattle.raw_workers.proofs.record.advance.Goals as goal

pub returns-clause-less : goal.returns-clause-less
returns-clause-less g c = λ fired.
    let r = c.round-machine.ensures.taken in
    let turn = c.serial_turn-steps.result.items in
    less_left c.args.machine c.round-machine.result.0 c.serial_turn-steps.new.machine r.0 turn r.1 c.serial_turn-steps.ensures.taken
    (some_left turn c.is_empty.result c.is_empty.ensures fired) c.law_bound.ensures.no_longer
