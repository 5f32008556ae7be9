use Rattle.std.proofs.Common.{◌≡◌, drop}
use Rattle.raw_switch_isa.specs.Ends.{ends}
use Rattle.raw_processor.specs.Given.{all_have_wires}
use Rattle.raw_processor.proofs.switches.all_have_wires.Given as goal

-- what is left decides about the whole
abbrev pub invariant-loop-end : goal.invariant-loop-end
invariant-loop-end l = all_have_wires l.word l.wires (drop l.end ends) ≡ all_have_wires l.word l.wires ends
