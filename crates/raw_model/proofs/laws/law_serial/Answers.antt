use Rattle.raw_model.proofs.Sweeping.{serial_rests, sweep_of_quiet, quiet_by, until_quiet}
use Rattle.raw_model.proofs.laws.law_serial.Goals as goal

pub returns : goal.returns
returns c = record { run = serial_rests; still = sweep_of_quiet; moves = quiet_by; until_quiet = until_quiet }
