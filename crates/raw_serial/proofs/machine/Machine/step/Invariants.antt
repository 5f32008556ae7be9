use Rattle.std.proofs.Common.{◌≡◌}
use Rattle.std.specs.Prelude.{slice_index}
use Rattle.raw_serial.specs.Leading.{past_stalls}
use Rattle.raw_serial.proofs.machine.Machine.step.Given as goal

abbrev pub invariant-stalls : goal.invariant-stalls
invariant-stalls l = (l.self.set ≡ l.initial.self.set) × (past_stalls l.self l.p.0 ≡ past_stalls l.initial.self l.p.0)

abbrev pub decreases-stalls : goal.decreases-stalls
decreases-stalls l = slice_index l.self.owed l.p.0
