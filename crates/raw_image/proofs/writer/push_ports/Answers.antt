use Rattle.std.proofs.Common.{◌++◌, ◌<◌, length, sym, ap, ◌∙◌, arith, append_assoc}
use Rattle.std.proofs.lemmas.Option.{get_or_from_slice_get}
use Rattle.raw_image.specs.Image.{number, port_bytes, place_bytes, given_bytes}
use Rattle.raw_image.proofs.Appends.{pair_next}
use Rattle.raw_image.proofs.writer.push_ports.Goals as goal

pub loop-i-preserved : goal.loop-i-preserved
loop-i-preserved c =
    let places = c.args.topo.now.places in
    let ports = c.args.ports.now in
    let i = c.loop-i.i in
    let place = c.place_of-place.result in
    let port = c.index-ports-i.result in
    let in_places : i < length places = omega (arith, c.ports-i-end.ensures) in
    let in_ports : i < length ports = omega (arith, c.requires.each) in
    pair_next port_bytes places ports i place port c.loop-i.out.items (c.args.out.now.items ++ number (length ports)) c.push_given.new.out.items in_places in_ports (get_or_from_slice_get places i place place c.place_of-place.ensures) (sym c.index-ports-i.is) c.loop-i.invariant
    (c.in_ok-push_given.ensures ∙ ap (λ o. o ++ given_bytes place.kind port) c.in_ok-push_place.ensures ∙ append_assoc c.loop-i.out.items (place_bytes place) (given_bytes place.kind port))
