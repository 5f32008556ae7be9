use Rattle.std.proofs.Common.{◌≡◌, map, take}
use Rattle.raw_stream_choice.specs.Endless.{endless_port}
use Rattle.raw_stream_choice.proofs.endless.ports_at.Given as goal

abbrev pub invariant-loop-place : goal.invariant-loop-place
invariant-loop-place l = l.ports.items ≡ map (endless_port l.room) (take l.place-index l.places)
