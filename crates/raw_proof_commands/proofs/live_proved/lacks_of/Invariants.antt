use Rattle.std.proofs.Common.{◌≡◌, map, take}
use Rattle.std.specs.Prelude.{slice_index}
use Rattle.raw_proof_commands.proofs.live_proved.lacks_of.Given as goal

abbrev pub invariant-loop-port : goal.invariant-loop-port
invariant-loop-port l = l.found.items ≡ map (slice_index l.lacks) (take l.port-index l.order)
