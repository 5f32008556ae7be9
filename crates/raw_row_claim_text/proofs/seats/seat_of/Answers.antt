use Rattle.std.proofs.Common.{◌≡◌, ◌≤◌, false, true, length, take, Some, sym, ap, ◌∙◌, arith, rules}
use Rattle.std.specs.List.{list_any}
use Rattle.std.proofs.lemmas.Bool.{both_ways}
use Rattle.std.proofs.lemmas.List.{take_all}
use Rattle.raw_set_text.specs.Entry.{same_place}
use Rattle.raw_set_text.proofs.Building.PortsFound.{others_more}
use Rattle.raw_row_claim_text.proofs.seats.seat_of.Goals as goal

pub returns-then-eq : goal.returns-then-eq
returns-then-eq c =
    let same : c.place_of.result ≡ c.args.place = search rules in
    c.place_of.ensures ∙ ap Some same

pub loop-port-preserved : goal.loop-port-preserved
loop-port-preserved c =
    others_more c.args.place c.args.topo.now.places c.loop-port.port c.place_of.result c.loop-port.invariant c.place_of.ensures (search rules)

pub unreachable-requires : goal.unreachable-requires
unreachable-requires c =
    let whole : take c.loop-port.port c.args.topo.now.places ≡ c.args.topo.now.places = take_all c.loop-port.port c.args.topo.now.places (omega arith) in
    both_ways (list_any (same_place c.args.place) c.args.topo.now.places) (sym (ap (list_any (same_place c.args.place)) whole) ∙ c.loop-port.invariant) c.requires
