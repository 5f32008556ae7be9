use Rattle.std.proofs.Common.{◌≡◌, ◌-◌, ◌<◌, ◌≤◌, true}
use Rattle.raw_switch_isa.specs.Ends.{has_end}
use Rattle.raw_model.specs.SwitchTable.{routed}
use Rattle.raw_fabric_step.specs.Units.{mine}
use Rattle.raw_fabric_step.specs.Turns.{TurnKept}
use Rattle.raw_fabric_step.proofs.SwitchEnds.{IsSending}
use Rattle.raw_fabric_step.proofs.switches.send_routes.Given as goal

abbrev pub invariant-ends : goal.invariant-ends
invariant-ends l = record {
  kept : TurnKept l.words.key l.post l.fn.seat l.seat;
  sending : IsSending (mine l.fn.seat.me.0 l.post.index) (routed l.step l.state.regs l.given) (mine l.seat.me.0 l.post.index) l.taken l.raised l.end;
  there : l.end < 10 → has_end l.outputs l.end ≡ true;
  few : l.end ≤ 26;
}

abbrev pub decreases-ends : goal.decreases-ends
decreases-ends l = 30 - l.end
