use Rattle.std.proofs.Common.{◌≡◌, take}
use Rattle.raw_steps.specs.Weaving.{steps_in}
use Rattle.raw_steps.specs.Left.{count_in}
use Rattle.raw_steps.proofs.weaving.room_for.Given as goal

abbrev pub invariant-loop-log : goal.invariant-loop-log
invariant-loop-log l = l.entries ≡ count_in (take l.log-index (steps_in l.logs))
