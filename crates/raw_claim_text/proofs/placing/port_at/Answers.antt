use Rattle.std.proofs.Common.{◌≡◌, Some, sym, ap, ◌∙◌, arith, rules}
use Rattle.raw_claim_text.proofs.Ports.{here, other, none}
use Rattle.raw_claim_text.proofs.placing.port_at.Goals as goal

pub returns-then-eq-clause-found : goal.returns-then-eq-clause-found
returns-then-eq-clause-found c =
    let same : c.place_of.result ≡ c.args.place = search rules in
    sym (here c.args.place c.args.topo.now.places c.loop-port.port (c.place_of.ensures ∙ ap Some same)) ∙ c.loop-port.invariant

pub loop-port-preserved : goal.loop-port-preserved
loop-port-preserved c =
    sym (other c.args.place c.args.topo.now.places c.loop-port.port c.place_of.result c.place_of.ensures (search rules)) ∙ c.loop-port.invariant

pub returns-clause-found : goal.returns-clause-found
returns-clause-found c = sym (none c.args.place c.args.topo.now.places c.loop-port.port (omega arith)) ∙ c.loop-port.invariant
