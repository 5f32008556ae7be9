use Rattle.std.proofs.Common.{◌≡◌, ◌-◌}
use Rattle.raw_image.specs.Fields.{repeated}
use Rattle.raw_image.specs.Reading.{port_at, no_ports}
use Rattle.raw_image.proofs.ports.ports_at.Given as goal

abbrev pub invariant-loop : goal.invariant-loop
invariant-loop l = repeated port_at (l.count - l.counter) l.ports l.rest ≡ repeated port_at l.count (no_ports l.columns l.rows) l.initial.rest
