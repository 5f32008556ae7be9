use Rattle.raw_image.specs.Fields.{repeated}
use Rattle.raw_image.specs.Reading.{port_at, no_ports}
use Rattle.raw_image.proofs.Loop.{goes_on}
use Rattle.raw_image.proofs.ports.ports_at.Goals as goal

pub loop-preserved : goal.loop-preserved
loop-preserved c =
    goes_on port_at c.in_ok-count.count c.loop.counter c.loop.ports c.loop.rest.now c.in_ok-next.next c.in_ok-next.after.now (repeated port_at c.in_ok-count.count (no_ports c.args.columns c.args.rows) c.in_ok-count.rest.now) c.loop-test.true c.in_ok-next.ensures c.loop.invariant
