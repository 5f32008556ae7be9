use Rattle.std.proofs.Common.{◌≡◌, take}
use Rattle.raw_processor.proofs.code.switch_steps.Given as goal

-- the steps are those of the instructions before this place
abbrev pub invariant-loop-ins : goal.invariant-loop-ins
invariant-loop-ins l = l.steps.items ≡ take l.ins-index l.code
