use Rattle.raw_serial.proofs.Taking.{none_taken, then_taken}
use Rattle.raw_serial.proofs.laws.law_taken.Goals as goal

pub returns : goal.returns
returns c = record { none = none_taken; both = then_taken }
