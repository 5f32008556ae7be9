use Rattle.std.proofs.Common.{◌≡◌, ◌-◌, ◌<◌, true}
use Rattle.std.specs.List.{find}
use Rattle.raw_switch_isa.specs.Ends.{has_end}
use Rattle.raw_serial.specs.Needs.{fails}
use Rattle.raw_serial.proofs.ByEnds.{left_from}
use Rattle.raw_serial.proofs.wires.Wires.first_failing.Given as goal

-- the first of those that are left is the first of all
abbrev pub invariant-ends : goal.invariant-ends
invariant-ends l = record {
  same : find (fails l.need l.self) (left_from l.word l.wires l.end) ≡ find (fails l.need l.self) (left_from l.word l.wires 0);
  there : l.end < 10 → has_end l.word l.end ≡ true;
}

abbrev pub decreases-ends : goal.decreases-ends
decreases-ends l = 30 - l.end
