use Rattle.std.proofs.Common.{◌≡◌, take}
use Rattle.raw_live.proofs.judging.places_of.Given as goal

abbrev pub invariant-loop-port : goal.invariant-loop-port
invariant-loop-port l = l.places.items ≡ take l.port l.topo.places
