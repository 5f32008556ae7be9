use Rattle.std.proofs.Common.{◌≡◌, ◌+◌, true, false, not, length, set, Some, refl, ap, ◌∙◌, arith, lt-ltb, le-ltb}
use Rattle.std.specs.Prelude.{nat_lt}
use Rattle.std.specs.List.{list_any}
use Rattle.raw_grid.specs.declared.parts.PortKind.TheVariants as kind
use Rattle.raw_model.specs.declared.limits.TheConstants.{MAX_ALL_WORDS}
use Rattle.raw_set_text.specs.Entry.{place_of, same_place}
use Rattle.raw_set_text.specs.declared.kind.SetKind.TheVariants.{UndeclaredEdge}
use Rattle.raw_set_text.specs.Faults.{is_outside}
use Rattle.raw_set_text.proofs.Building.PortsFaults.{feed_fault, feed_fault_there, passed_on, off_grid, on_grid, either}
use Rattle.raw_set_text.proofs.Building.PortsFound.{found_any}
use Rattle.raw_set_text.proofs.Building.PortsFeed.{ports_fed}
use Rattle.raw_set_text.proofs.ports.Ports.feed.Goals as goal

pub returns-in_err-place-clause-fault : goal.returns-in_err-place-clause-fault
returns-in_err-place-clause-fault c entries stands =
    let ports = c.args.self.now in
    let source = place_of kind.Source c.args.edge in
    passed_on c.from_residual.result c.in_err-place.field-0.0 _ c.from_residual.ensures.1
    (rw (feed_fault ports entries source c.args.words.now stands) (off_grid (is_outside ports.topo.cols ports.topo.rows (Some c.args.edge.tile)) c.in_err-place.field-0.0 source _ c.in_err-place.ensures.value))

pub returns-in_err-port-clause-fault : goal.returns-in_err-port-clause-fault
returns-in_err-port-clause-fault c entries stands =
    let places = c.args.self.now.topo.places in
    let place = c.in_ok-place.place in
    passed_on c.from_residual-in_err-port.result c.in_err-port.field-0.0 _ c.from_residual-in_err-port.ensures.1
    (rw (feed_fault_there c.args.self.now entries c.args.edge c.args.words.now place stands c.in_ok-place.ensures.value)
    (either false (not (list_any (same_place place) places)) UndeclaredEdge UndeclaredEdge _ c.in_err-port.field-0.0 c.in_err-port.ensures.fault))

pub returns-then-words-self-clause-fault : goal.returns-then-words-self-clause-fault
returns-then-words-self-clause-fault c entries stands =
    let ports = c.args.self.now in
    let place = c.in_ok-place.place in
    let any : list_any (same_place place) ports.topo.places ≡ true = found_any place ports.topo.places c.in_ok-port.port c.in_ok-port.ensures.there in
    let many : nat_lt MAX_ALL_WORDS (ports.words + length c.args.words.now) ≡ true = lt-ltb MAX_ALL_WORDS (ports.words + length c.args.words.now) (omega arith) in
    feed_fault_there ports entries c.args.edge c.args.words.now place stands c.in_ok-place.ensures.value ∙ rw (any, many)

pub returns-clause-fault : goal.returns-clause-fault
returns-clause-fault c entries stands =
    let ports = c.args.self.now in
    let place = c.in_ok-place.place in
    let any : list_any (same_place place) ports.topo.places ≡ true = found_any place ports.topo.places c.in_ok-port.port c.in_ok-port.ensures.there in
    let few : nat_lt MAX_ALL_WORDS (ports.words + length c.args.words.now) ≡ false = le-ltb MAX_ALL_WORDS (ports.words + length c.args.words.now) (omega arith) in
    feed_fault_there ports entries c.args.edge c.args.words.now place stands c.in_ok-place.ensures.value ∙ rw (any, few)

pub returns-clause-stands : goal.returns-clause-stands
returns-clause-stands c entries stands =
    let ports = c.args.self.now in
    let place = c.in_ok-place.place in
    let on = on_grid (is_outside ports.topo.cols ports.topo.rows (Some c.args.edge.tile)) place (place_of kind.Source c.args.edge) c.in_ok-place.ensures.value in
    ports_fed ports _ entries place (place_of kind.Source c.args.edge) c.args.words.now c.in_ok-port.port c.index_mut.result.now stands c.in_ok-place.ensures.valid on.1 c.in_ok-port.ensures.there c.index_mut.ensures.value refl
    (ap (λ program. set ports.programs.items c.in_ok-port.port program) c.in_ok-append.ensures) refl refl
