use Rattle.std.proofs.Common.{◌≡◌, map}
use Rattle.raw_cut.specs.Parts.{ports_with}
use Rattle.raw_cut.proofs.ports.ports_with.Given as goal

abbrev pub invariant-loop-port : goal.invariant-loop-port
invariant-loop-port l = l.ports.items ≡ ports_with l.topo l.stream l.port (map (λ row. row.items) l.rows) l.spare
