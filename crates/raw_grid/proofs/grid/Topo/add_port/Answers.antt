use Rattle.std.proofs.Common.{◌∙◌, refl, sym, ap, subst, arith}
use Rattle.std.specs.Prelude.{Contains}
use Rattle.std.proofs.lemmas.Bool.{false≢true}
use Rattle.raw_grid.specs.Topology.{Topology, proc_count}
use Rattle.raw_grid.proofs.Growth.{stored_push, room_for}
use Rattle.raw_grid.proofs.grid.Topo.add_port.Goals as goal

pub push_reserved-requires : goal.push_reserved-requires
push_reserved-requires c =
    let t : Topology = record { cols = c.self.inside.size.cols; rows = c.self.inside.size.rows; places = c.self.inside.places.items } in
    let room =
    room_for t c.args.place c.self.invariant.valid (c.if-not-is_at_edge.ensures.0 refl)
    (λ h. false≢true (c.if-is_taken.ensures.1 (subst (λ ps. Contains ps c.args.place) (sym c.deref.ensures.value) h)))
    in
    omega (arith, c.self.invariant.room)

pub invariant_of-self : goal.invariant_of-self
invariant_of-self c =
    let t : Topology = record { cols = c.self.inside.size.cols; rows = c.self.inside.size.rows; places = c.self.inside.places.items } in
    stored_push t c.args.place _ _ _ _ _ _ _ c.procs-port.result c.port_wire.result c.self.invariant (c.if-not-is_at_edge.ensures.0 refl)
    (λ h. false≢true (c.if-is_taken.ensures.1 (subst (λ ps. Contains ps c.args.place) (sym c.deref.ensures.value) h)))
    c.push_reserved.ensures.items c.push_reserved.ensures.capacity c.push_reserved-2.ensures.items c.push_reserved-2.ensures.capacity c.port_wire.ensures
    (c.procs-port.ensures.value ∙ ap proc_count (sym c.self.view_is))

pub returns-clause-valid : goal.returns-clause-valid
returns-clause-valid c = (invariant_of-self c).valid
