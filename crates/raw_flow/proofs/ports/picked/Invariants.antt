use Rattle.std.proofs.Common.{◌≡◌, ◌++◌, drop}
use Rattle.raw_flow.specs.Ports.{picked}
use Rattle.raw_flow.proofs.ports.picked.Given as goal

-- the words so far, and then those of what is left, are those of all
abbrev pub invariant-loop-place : goal.invariant-loop-place
invariant-loop-place l = l.own.items ++ picked l.port (drop l.place l.ports) (drop l.place l.words) ≡ picked l.port l.ports l.words
