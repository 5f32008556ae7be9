-- Rounds of all workers, and machines that run on in them.
use Rattle.std.specs.Prelude.{◌≡◌, ℕ, ◌<◌, Bool, true, List}
use Rattle.raw_model.specs.Serial.{IsJoined}
use Rattle.raw_model.specs.Bounds.{all_left}
use Rattle.raw_serial.specs.Running.{Running}
use Rattle.raw_serial.specs.Leading.{HasTaken, HasRun}
use Rattle.raw_steps.specs.declared.log.PassLog.{PassLog}
use Rattle.raw_steps.specs.Weaving.{steps_in, AreInOrder}

-- the one machine took some list of steps and is now the other, and the list is joined from these logs
pub record IsRound (old new : Running) (logs : List PassLog) : Type 0 where
  pub history : List ℕ
  pub taken : HasTaken old new history
  pub joined : IsJoined history (steps_in logs)
  pub in_order : AreInOrder logs

-- the one machine ran on to the other, by lawful steps; `fired` says that there was one
pub record HasAdvanced (old new : Running) (fired : Bool) : Type 0 where
  pub set : new.set ≡ old.set
  pub ran : HasRun old new
  pub less : fired ≡ true → all_left old.set new.state < all_left old.set old.state
