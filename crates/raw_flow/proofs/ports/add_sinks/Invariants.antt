use Rattle.std.proofs.Common.{◌≡◌, ◌++◌, map}
use Rattle.std.specs.List.{range_with_len}
use Rattle.raw_flow.specs.Compiled.{sink_program}
use Rattle.raw_flow.proofs.ports.add_sinks.Given as goal

-- the programs of the sinks so far
abbrev pub invariant-loop-port : goal.invariant-loop-port
invariant-loop-port l = l.programs.items ≡ l.initial.programs.items ++ map (sink_program l.flow l.ports) (range_with_len 0 l.port)
