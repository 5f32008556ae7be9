use Rattle.std.proofs.Common.{◌≡◌, false, Some, sym, ap, ◌∙◌, take_all, arith, rules}
use Rattle.std.specs.List.{list_any}
use Rattle.raw_set_text.specs.Entry.{same_place}
use Rattle.raw_set_text.proofs.Building.PortsFound.{found_any, others_more}
use Rattle.raw_set_text.proofs.ports.port_at.Goals as goal

pub returns-then-eq : goal.returns-then-eq
returns-then-eq c =
    let same : c.place_of.result ≡ c.args.place = search rules in
    let there = c.place_of.ensures ∙ ap Some same in
    record { fault = rw (found_any c.args.place c.args.topo.now.places c.loop-port.port there); there = there }

pub loop-port-preserved : goal.loop-port-preserved
loop-port-preserved c =
    others_more c.args.place c.args.topo.now.places c.loop-port.port c.place_of.result c.loop-port.invariant c.place_of.ensures (search rules)

pub returns-clause-fault : goal.returns-clause-fault
returns-clause-fault c =
    let places = c.args.topo.now.places in
    let none : list_any (same_place c.args.place) places ≡ false = sym (ap (list_any (same_place c.args.place)) (take_all c.loop-port.port places (omega arith))) ∙ c.loop-port.invariant in
    rw none
