use Rattle.std.proofs.Common.{◌≡◌, ◌-◌, ◌<◌, ◌≤◌, ◌++◌, length, true}
use Rattle.raw_switch_isa.specs.Ends.{has_end}
use Rattle.raw_model.specs.SwitchTable.{routed}
use Rattle.raw_processor.specs.Given.{sent_at}
use Rattle.raw_serial.proofs.ByEnds.{sent_from}
use Rattle.raw_serial.proofs.telling.list_routes.Given as goal

-- what is listed and what is left give the whole
abbrev pub invariant-ends : goal.invariant-ends
invariant-ends l = record {
  whole :
      l.list.items ++ sent_from l.word l.wires (routed l.step l.switch.regs l.given) l.end
      ≡ sent_at l.wires (routed l.step l.switch.regs l.given);
  few : length l.list.items ≤ l.end;
  there : l.end < 10 → has_end l.word l.end ≡ true;
}

abbrev pub decreases-ends : goal.decreases-ends
decreases-ends l = 30 - l.end
