-- A fabric that is closed makes a round of the machine that was opened.
use Rattle.std.proofs.Common.{◌≡◌, ℕ, List, subst}
use Rattle.raw_serial.specs.Running.{Running}
use Rattle.raw_fabric_rule.specs.Views.{About}
use Rattle.raw_steps.specs.declared.log.PassLog.{PassLog}
use Rattle.raw_fabric.specs.Opened.{about_before}
use Rattle.raw_fabric.specs.Closed.{IsClosedTo}
use Rattle.raw_workers.specs.Rounds.{IsRound}

pub round_of : (old new : Running) (workers : ℕ) (about : About) (logs : List PassLog) → about ≡ about_before old workers → IsClosedTo about new logs → IsRound old new logs
round_of old new workers about logs is closed =
    let k = subst (λ (a : About). IsClosedTo a new logs) is closed in
    record {
      history = k.history;
      taken = k.taken;
      joined = k.joined;
      in_order = k.in_order;
    }
