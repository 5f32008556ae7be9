use Rattle.std.proofs.Common.{take}
use Rattle.raw_steps.specs.Taking.{numbers}
use Rattle.raw_serial.specs.Leading.{HasTaken}
use Rattle.raw_steps.proofs.taking.take_enabled.Given as goal

abbrev pub invariant-loop-place : goal.invariant-loop-place
invariant-loop-place l = HasTaken l.initial.m l.m (take l.place (numbers l.steps))
