use Rattle.raw_image.proofs.Placing.{place_free, place_taken}
use Rattle.raw_image.proofs.ports.place_at.Goals as goal

pub returns-in-Ok-clause-read : goal.returns-in-Ok-clause-read
returns-in-Ok-clause-read c =
    place_free c.args.topo.now c.args.bytes.now _ _ _ _ _ _ _ _ _ _ c.in_ok-kind.ensures c.in_ok-net.ensures c.in_ok-x.ensures c.in_ok-y.ensures c.in_ok-side.ensures
    (λ off. absurd (cc (c.in-Ok.is, c.add_port.ensures.off_edge.1 off)))
    (λ at has. absurd (cc (c.in-Ok.is, c.add_port.ensures.double.1 (at, has))))

pub returns-in-Err-Double-clause-read : goal.returns-in-Err-Double-clause-read
returns-in-Err-Double-clause-read c =
    let twice = c.add_port.ensures.double.0 (rw c.in-Err-Double.field-0-is at c.in-Err-Double.is) in
    rw c.bad_field-in-Err-Double.ensures
    (place_taken c.args.topo.now c.args.bytes.now _ _ _ _ _ _ _ _ _ _ c.in_ok-kind.ensures c.in_ok-net.ensures c.in_ok-x.ensures c.in_ok-y.ensures c.in_ok-side.ensures twice.0 twice.1)
