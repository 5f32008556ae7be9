use Rattle.std.proofs.Common.{◌≡◌, ℕ, true, false, List, [], ◌∷◌, ◌++◌, Some, refl, ap, ◌∙◌, arith}
use Rattle.std.specs.Option.{is_some}
use Rattle.std.specs.List.{list_any}
use Rattle.raw_grid.specs.Topology.{neighbour}
use Rattle.raw_set_text.specs.declared.kind.SetKind.TheVariants.{PortOffEdge, DoublePort}
use Rattle.raw_set_text.specs.Entry.{place_of, same_place}
use Rattle.raw_set_text.specs.Faults.{is_outside}
use Rattle.raw_set_text.proofs.Building.PortsFaults.{add_fault, add_fault_there, is_too_large, passed_on, off_grid, on_grid, neither, either, too_large_alone, too_large_together, small_enough}
use Rattle.raw_set_text.proofs.Building.PortsAdd.{ports_added}
use Rattle.raw_set_text.proofs.ports.Ports.add.Goals as goal
use Rattle.raw_set_text.proofs.ports.Ports.add.Goals.{then-capacity-gt-MAX_CAPACITY-via-then-capacity-gt-MAX_CAPACITY, then-capacity-gt-MAX_CAPACITY-via-else-capacity-gt-MAX_CAPACITY+then-capacity-self}

pub returns-in_err-place-clause-fault : goal.returns-in_err-place-clause-fault
returns-in_err-place-clause-fault c entries stands =
    let ports = c.args.self.now in
    let outside = is_outside ports.topo.cols ports.topo.rows (Some c.args.edge.tile) in
    passed_on c.from_residual.result c.in_err-place.field-0.0 _ c.from_residual.ensures.1
    (rw (add_fault ports entries (place_of c.args.kind c.args.edge) c.args.capacity stands) (off_grid outside c.in_err-place.field-0.0 (place_of c.args.kind c.args.edge) _ c.in_err-place.ensures.value))

pub returns-in_err-add_place-clause-fault : goal.returns-in_err-add_place-clause-fault
returns-in_err-add_place-clause-fault c entries stands =
    let ports = c.args.self.now in
    let place = c.in_ok-place.place in
    passed_on c.from_residual-in_err-add_place.result c.in_err-add_place.field-0.0 _ c.from_residual-in_err-add_place.ensures.1
    (rw (add_fault_there ports entries c.args.kind c.args.edge c.args.capacity place stands c.in_ok-place.ensures.value)
    (either (is_some (neighbour ports.topo place.x place.y place.side)) (list_any (same_place place) ports.topo.places) PortOffEdge DoublePort _ c.in_err-add_place.field-0.0 c.in_err-add_place.ensures.fault))

pub returns-then-capacity-gt-MAX_CAPACITY-clause-fault :
    goal.returns-then-capacity-gt-MAX_CAPACITY-clause-fault
returns-then-capacity-gt-MAX_CAPACITY-clause-fault c entries stands =
    let ports = c.args.self.now in
    let place = c.in_ok-place.place in
    let none = neither (is_some (neighbour ports.topo place.x place.y place.side)) (list_any (same_place place) ports.topo.places) PortOffEdge DoublePort c.in_ok-add_place.ensures.fault in
    let large : is_too_large ports.capacity c.args.capacity ≡ true = elim c.then-capacity-gt-MAX_CAPACITY.branch [
      | then-capacity-gt-MAX_CAPACITY-via-then-capacity-gt-MAX_CAPACITY w ↦ too_large_alone ports.capacity c.args.capacity (omega arith)
      | then-capacity-gt-MAX_CAPACITY-via-else-capacity-gt-MAX_CAPACITY+then-capacity-self w ↦ too_large_together ports.capacity c.args.capacity (omega arith)
    ] in
    add_fault_there ports entries c.args.kind c.args.edge c.args.capacity place stands c.in_ok-place.ensures.value ∙ rw (none.0, none.1, large)

pub returns-clause-fault : goal.returns-clause-fault
returns-clause-fault c entries stands =
    let ports = c.args.self.now in
    let place = c.in_ok-place.place in
    let none = neither (is_some (neighbour ports.topo place.x place.y place.side)) (list_any (same_place place) ports.topo.places) PortOffEdge DoublePort c.in_ok-add_place.ensures.fault in
    let small : is_too_large ports.capacity c.args.capacity ≡ false = small_enough ports.capacity c.args.capacity (omega arith) (omega arith) (omega arith) in
    add_fault_there ports entries c.args.kind c.args.edge c.args.capacity place stands c.in_ok-place.ensures.value ∙ rw (none.0, none.1, small)

pub returns-clause-stands : goal.returns-clause-stands
returns-clause-stands c entries stands =
    let ports = c.args.self.now in
    let place = c.in_ok-place.place in
    let on = on_grid (is_outside ports.topo.cols ports.topo.rows (Some c.args.edge.tile)) place (place_of c.args.kind c.args.edge) c.in_ok-place.ensures.value in
    let none = neither (is_some (neighbour ports.topo place.x place.y place.side)) (list_any (same_place place) ports.topo.places) PortOffEdge DoublePort c.in_ok-add_place.ensures.fault in
    ports_added ports _ entries place (place_of c.args.kind c.args.edge) c.args.capacity stands on.1 none.1 c.in_ok-add_place.ensures.added
    (c.in_ok-push.ensures.items ∙ ap (λ (ws : List ℕ). ports.programs.items ++ (record { words = ws; capacity = c.args.capacity }) ∷ []) c.new-words.ensures.items) refl refl
