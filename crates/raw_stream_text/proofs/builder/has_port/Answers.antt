use Rattle.std.proofs.Common.{◌≡◌, Some, sym, ap, ◌∙◌, rules}
use Rattle.raw_set_text.proofs.Building.PortsFound.{found_any, others_more}
use Rattle.raw_stream_text.proofs.builder.has_port.Goals as goal

pub returns-then-eq : goal.returns-then-eq
returns-then-eq c =
    let same : c.place_of.result ≡ c.args.place = search rules in
    let there = c.place_of.ensures ∙ ap Some same in
    sym (found_any c.args.place c.args.topo.now.places c.loop-port.port there)

pub loop-port-preserved : goal.loop-port-preserved
loop-port-preserved c =
    others_more c.args.place c.args.topo.now.places c.loop-port.port c.place_of.result c.loop-port.invariant c.place_of.ensures (search rules)
