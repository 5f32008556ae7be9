use Rattle.std.proofs.Common.{[], subst, sym}
use Rattle.raw_serial.specs.Running.{Running}
use Rattle.raw_serial.specs.Leading.{HasTaken}
use Rattle.raw_fabric.specs.Opened.{about_of}
use Rattle.raw_workers.proofs.Closing.{round_of}
use Rattle.raw_workers.proofs.rounds.round.Goals as goal

pub returns-in-Ok-clause-round : goal.returns-in-Ok-clause-round
returns-in-Ok-clause-round g c =
    round_of c.args.machine c.close-machine.result.0 c.args.workers (about_of c.in-Ok.fabric) c.close-machine.result.1.items c.in-Ok.ensures.opened c.close-machine.ensures.closed

pub returns-in-Ok-clause-taken : goal.returns-in-Ok-clause-taken
returns-in-Ok-clause-taken g c =
    let r = round_of c.args.machine c.close-machine.result.0 c.args.workers (about_of c.in-Ok.fabric) c.close-machine.result.1.items c.in-Ok.ensures.opened c.close-machine.ensures.closed in
    (r.history, r.taken)

pub returns-in-Err-clause-taken : goal.returns-in-Err-clause-taken
returns-in-Err-clause-taken g c =
    ([], subst (λ (m : Running). HasTaken c.args.machine m []) (sym c.in-Err.ensures.refused) (c.law_taken.ensures.none c.args.machine))
