use Rattle.std.proofs.Common.{◌≡◌, ℕ, List, length, map, subst}
use Rattle.raw_model.specs.Program.{ProgramSet, PortProgram}
use Rattle.raw_cut.specs.Parts.{AreFit, ports_with}
use Rattle.raw_cut.proofs.Copies.{some_so}
use Rattle.raw_cut.proofs.Fits.{ports_fit}
use Rattle.raw_cut.proofs.fitting.fitting_ports.Goals as goal

pub returns-clause-ports : goal.returns-clause-ports
returns-clause-ports c =
    let set : ProgramSet = c.args.set.now in
    let rs : List (List ℕ) = map (λ row. row.items) c.args.rows.now in
    let ports : List PortProgram = c.in-Some.ports.items in
    ports_fit set c.args.stream.now c.args.limit c.args.spare (length set.topo.places) rs ports
    (subst (λ (g : ProgramSet). ports ≡ ports_with g.topo c.args.stream.now (length g.topo.places) rs c.args.spare) c.set.view_is (some_so _ c.in_ok-ports.field-0 c.in-Some.ports c.in-Some.is c.in_ok-ports.ensures))
    (subst (AreFit set c.args.limit) c.deref.ensures.value (c.are_fit.ensures c.if-not-are_fit.false))

pub returns-clause-fit : goal.returns-clause-fit
returns-clause-fit c = subst (AreFit c.args.set.now c.args.limit) c.deref.ensures.value (c.are_fit.ensures c.if-not-are_fit.false)
