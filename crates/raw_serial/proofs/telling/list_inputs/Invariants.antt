use Rattle.std.proofs.Common.{◌≡◌, ◌-◌, ◌<◌, ◌≤◌, ◌++◌, length, true}
use Rattle.raw_switch_isa.specs.Ends.{has_end}
use Rattle.raw_processor.specs.Given.{wires_in}
use Rattle.raw_serial.proofs.ByEnds.{left_from}
use Rattle.raw_serial.proofs.telling.list_inputs.Given as goal

-- what is listed and what is left give the whole
abbrev pub invariant-ends : goal.invariant-ends
invariant-ends l = record {
  whole : l.list.items ++ left_from l.word l.wires l.end ≡ wires_in l.word l.wires;
  few : length l.list.items ≤ l.end;
  there : l.end < 10 → has_end l.word l.end ≡ true;
}

abbrev pub decreases-ends : goal.decreases-ends
decreases-ends l = 30 - l.end
