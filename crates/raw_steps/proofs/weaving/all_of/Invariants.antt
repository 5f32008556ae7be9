use Rattle.std.proofs.Common.{◌≡◌, take}
use Rattle.raw_steps.specs.Weaving.{steps_in}
use Rattle.raw_steps.specs.Left.{entries_of}
use Rattle.raw_steps.proofs.weaving.all_of.Given as goal

abbrev pub invariant-loop-log : goal.invariant-loop-log
invariant-loop-log l = entries_of l.left.items ≡ take l.log-index (steps_in l.logs)
