use Rattle.std.proofs.Common.{◌≡◌, ℕ, ◌-◌, ◌<◌, ◌≤◌, None, true, is_some, length}
use Rattle.std.specs.Prelude.{slice_index_or}
use Rattle.raw_switch_isa.specs.Ends.{has_end}
use Rattle.raw_fabric_step.specs.Units.{mine}
use Rattle.raw_fabric_step.specs.Turns.{TurnKept}
use Rattle.raw_fabric_step.proofs.SwitchEnds.{IsTaking}
use Rattle.raw_fabric_step.proofs.switches.take_inputs.Given as goal

abbrev pub invariant-ends : goal.invariant-ends
invariant-ends l = record {
  kept : TurnKept l.words.key l.post l.fn.seat l.seat;
  taking : IsTaking (mine l.fn.seat.me.0 l.post.index) (mine l.seat.me.0 l.post.index) l.given l.raised;
  ten : length l.given ≡ 10;
  none : (end : ℕ) → l.end ≤ end → slice_index_or l.given end None ≡ None;
  some : (end : ℕ) → end < l.end → end < 10 → is_some (slice_index_or l.given end None) ≡ has_end l.inputs end;
  there : l.end < 10 → has_end l.inputs l.end ≡ true;
  few : l.end ≤ 26;
}

abbrev pub decreases-ends : goal.decreases-ends
decreases-ends l = 30 - l.end
