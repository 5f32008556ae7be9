use Rattle.std.proofs.Common.{◌≡◌, map}
use Rattle.std.specs.List.{range_with_len}
use Rattle.raw_flow.specs.Compiled.{source_program}
use Rattle.raw_flow.proofs.ports.source_programs.Given as goal

-- the programs of the sources so far
abbrev pub invariant-loop-port : goal.invariant-loop-port
invariant-loop-port l = l.programs.items ≡ map (source_program l.ports l.inputs) (range_with_len 0 l.port)
