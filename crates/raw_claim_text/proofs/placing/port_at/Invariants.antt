use Rattle.std.proofs.Common.{◌≡◌, drop}
use Rattle.raw_claim_text.specs.Placing.{port_from}
use Rattle.raw_claim_text.proofs.placing.port_at.Given as goal

abbrev pub invariant-loop-port : goal.invariant-loop-port
invariant-loop-port l = port_from l.place l.port (drop l.port l.topo.places) ≡ port_from l.place 0 l.topo.places
