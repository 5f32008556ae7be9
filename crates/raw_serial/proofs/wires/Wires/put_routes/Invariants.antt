use Rattle.std.proofs.Common.{◌≡◌, ◌-◌, ◌<◌, true}
use Rattle.raw_network.specs.Network.{appended}
use Rattle.raw_switch_isa.specs.Ends.{has_end}
use Rattle.raw_model.specs.SwitchTable.{routed}
use Rattle.raw_processor.specs.Given.{sent_at}
use Rattle.raw_serial.proofs.ByEnds.{sent_from, HaveRoom}
use Rattle.raw_serial.proofs.wires.Wires.put_routes.Given as goal

-- what is left to append gives the whole, and has room
abbrev pub invariant-ends : goal.invariant-ends
invariant-ends l = record {
  whole : appended (sent_from l.word l.wires (routed l.step l.switch.regs l.given) l.end) l.self ≡ appended (sent_at l.wires (routed l.step l.switch.regs l.given)) l.initial.self;
  have : HaveRoom l.word l.wires (routed l.step l.switch.regs l.given) l.self l.end;
  there : l.end < 10 → has_end l.word l.end ≡ true;
}

abbrev pub decreases-ends : goal.decreases-ends
decreases-ends l = 30 - l.end
