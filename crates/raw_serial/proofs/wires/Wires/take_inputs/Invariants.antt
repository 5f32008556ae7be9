use Rattle.std.proofs.Common.{◌≡◌, ℕ, ◌-◌, ◌<◌, ◌≤◌, ◌++◌, None, true, drop, take, length}
use Rattle.std.specs.Prelude.{slice_index_or}
use Rattle.raw_network.specs.Network.{values_on, count_of, fronts, taken}
use Rattle.raw_switch_isa.specs.Ends.{ends, has_end}
use Rattle.raw_processor.specs.Given.{handed, wires_in}
use Rattle.raw_serial.proofs.ByEnds.{left_from}
use Rattle.raw_serial.proofs.wires.Wires.take_inputs.Given as goal

-- what is given and what is left to take give the whole
abbrev pub invariant-ends : goal.invariant-ends
invariant-ends l = record {
  ten : length l.given ≡ 10;
  whole : take l.end l.given ++ handed l.inputs l.wires (drop l.end ends) (fronts (left_from l.inputs l.wires l.end) l.self)
      ≡ handed l.inputs l.wires ends (fronts (wires_in l.inputs l.wires) l.initial.self);
  rest : taken (left_from l.inputs l.wires l.end) l.self ≡ taken (wires_in l.inputs l.wires) l.initial.self;
  enough : (v : ℕ) → count_of v (left_from l.inputs l.wires l.end) ≤ length (values_on l.self v);
  there : l.end < 10 → has_end l.inputs l.end ≡ true;
  none : (end : ℕ) → l.end ≤ end → slice_index_or l.given end None ≡ None;
}

abbrev pub decreases-ends : goal.decreases-ends
decreases-ends l = 30 - l.end
