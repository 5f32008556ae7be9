use Rattle.raw_prove.specs.Units.{state_of}
use Rattle.raw_prove.proofs.Resting.{rested_tells}
use Rattle.raw_prove.proofs.RowJudging.{done_of, rest_of}
use Rattle.raw_prove.proofs.rows.rested.Goals as goal

pub returns-in-Done : goal.returns-in-Done
returns-in-Done c =
    done_of c.args.set.now c.args.stream.now c.args.order.now (state_of c.args.machine.now) c.args.how
    (rested_tells c.args.set.now c.requires.fits.valid c.law_runs.ensures.alike c.requires.rests.sweeps c.requires.rests.steps (state_of c.args.machine.now) c.args.how c.requires.rests.there c.requires.rests.quiet c.requires.outcome)
    c.in-Done.is c.compare.result c.compare.ensures

pub returns-in_default : goal.returns-in_default
returns-in_default c =
    rest_of c.args.set.now c.args.stream.now c.args.order.now (state_of c.args.machine.now) c.args.how
    (rested_tells c.args.set.now c.requires.fits.valid c.law_runs.ensures.alike c.requires.rests.sweeps c.requires.rests.steps (state_of c.args.machine.now) c.args.how c.requires.rests.there c.requires.rests.quiet c.requires.outcome)
    c.in_default.not-Done
