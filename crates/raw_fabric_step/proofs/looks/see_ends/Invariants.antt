use Rattle.std.proofs.Common.{◌-◌, ◌≤◌, ◌<◌, true, ◌≡◌}
use Rattle.raw_fabric_step.specs.Units.{mine}
use Rattle.raw_fabric_step.specs.Turns.{TurnKept}
use Rattle.raw_fabric_step.specs.Causes.{SawEnds}
use Rattle.raw_fabric_step.specs.Asks.{is_asked}
use Rattle.raw_fabric_step.proofs.looks.see_ends.Given as goal

abbrev pub invariant-ends : goal.invariant-ends
invariant-ends l = record {
  kept : TurnKept l.words.key l.post l.fn.seat l.seat;
  saw : SawEnds l.words.key l.post.p l.end (mine l.fn.seat.me.0 l.post.index) (mine l.seat.me.0 l.post.index);
  there : l.end < 20 → is_asked l.asks.needs l.end ≡ true;
  few : l.end ≤ 36;
}

abbrev pub decreases-ends : goal.decreases-ends
decreases-ends l = 20 - l.end
