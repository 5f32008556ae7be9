use Rattle.std.proofs.Common.{◌≡◌, ℕ, ◌+◌, ◌*◌, ◌<◌, List, length, Some, refl, sym, ap, subst, arith}
use Rattle.std.specs.Prelude.{slice_get}
use Rattle.std.proofs.lemmas.Option.{slice_get_read}
use Rattle.raw_grid.specs.declared.parts.PortPlace.{PortPlace}
use Rattle.raw_grid.specs.Topology.{tile_count, kind_at}
use Rattle.raw_grid.proofs.Growth.{procs_few}
use Rattle.raw_model.specs.Program.{ProgramSet, PortProgram, IsSet}
use Rattle.raw_model.specs.Start.{first_port}
use Rattle.raw_prove.specs.declared.unit.Unit.{Unit}
use Rattle.raw_prove.specs.Units.{IsUnit}
use Rattle.raw_prove.proofs.Starting.{GrowsSo, NumbersSo, grows_step, numbers_step, port_unit, IsPortUnit}
use Rattle.raw_prove.proofs.opening.open_ports.Goals as goal

pub overflow_cast-behind : goal.overflow_cast-behind
overflow_cast-behind c =
    let set : ProgramSet = c.args.set.now in
    let valid : IsSet set = subst IsSet c.set.view_is c.set.invariant in
    let behind : c.len-behind.result ≡ tile_count set.topo = omega (arith, c.len-behind.ensures, ap (λ (g : ProgramSet). length g.tiles) c.set.view_is, valid.each_tile) in
    let below : c.loop-i.i < length set.ports = omega (arith, c.loop-i-test.true, c.len-i-end.ensures, c.loop-i.auto.i-end, ap (λ (g : ProgramSet). length g.ports) c.set.view_is) in
    omega (arith, behind, below, valid.each_port, procs_few set.topo valid.topology)

pub loop-i-preserved : goal.loop-i-preserved
loop-i-preserved c =
    let set : ProgramSet = c.args.set.now in
    let i : ℕ = c.loop-i.i in
    let port : PortProgram = c.index-program.result.now in
    let unit : Unit = c.in_ok-unit.unit in
    let valid : IsSet set = subst IsSet c.set.view_is c.set.invariant in
    let behind : c.len-behind.result ≡ tile_count set.topo = omega (arith, c.len-behind.ensures, ap (λ (g : ProgramSet). length g.tiles) c.set.view_is, valid.each_tile) in
    let below : i < length c.set.inside.ports.items = omega (arith, c.loop-i-test.true, c.len-i-end.ensures, c.loop-i.auto.i-end) in
    let here : slice_get set.ports i ≡ Some port =
    subst (λ (g : ProgramSet). slice_get g.ports i ≡ Some port) c.set.view_is
    (slice_get_read c.set.inside.ports.items (length c.set.inside.ports.items) i port refl below c.index-program.ensures) in
    let kind : kind_at set.topo (2 * tile_count set.topo + i) ≡ Some c.kind_of-kind.result =
    subst (λ n. kind_at set.topo (2 * n + i) ≡ Some c.kind_of-kind.result) behind
    (subst (λ (g : ProgramSet). kind_at g.topo (2 * c.len-behind.result + i) ≡ Some c.kind_of-kind.result) c.set.view_is c.kind_of-kind.ensures) in
    let so : NumbersSo set c.loop-i.first i = c.loop-i.invariant.1 in
    let made : IsPortUnit set c.loop-i.first i port here so valid unit = port_unit set c.loop-i.first i port here so valid c.kind_of-kind.result unit kind c.in_ok-unit.ensures in
    let words : c.len.result ≡ length port.words = omega (arith, c.len.ensures, ap (λ (p : PortProgram). length p.words) c.program.view_is) in (
      subst (λ (us : List Unit). GrowsSo set (λ (place : PortPlace). first_port place.kind) set.topo.places c.args.units.now.items us (i + 1)) (sym c.in_ok-push.ensures.items)
          (grows_step set (λ (place : PortPlace). first_port place.kind) set.topo.places c.args.units.now.items c.loop-i.units.items i made.place unit made.there made.local
          (subst (λ n. IsUnit set (n + i) unit) (sym c.requires.behind) made.is_unit) c.loop-i.invariant.0),
      subst (λ n. NumbersSo set (c.loop-i.first + n) (i + 1)) (sym words) (numbers_step set c.loop-i.first i port here so),
    )
