use Rattle.std.proofs.Common.{◌≡◌, ◌≤◌, length, Some, refl, sym, arith}
use Rattle.std.specs.Prelude.{slice_get}
use Rattle.std.proofs.lemmas.Option.{slice_get_read}
use Rattle.raw_grid.specs.Topology.{proc_count}
use Rattle.raw_term.specs.declared.limits.TheConstants.{MAX_TERMS}
use Rattle.raw_prove.specs.declared.unit.Unit.{Unit}
use Rattle.raw_prove.proofs.Seating.{seated}
use Rattle.raw_prove.proofs.machine.Machine.turn.Goals as goal

pub returns : goal.returns
returns c =
    let x : Unit = c.index_mut-unit.result.now in
    let here : slice_get c.args.self.now.units.items c.args.p.0 ≡ Some x =
    slice_get_read c.args.self.now.units.items (proc_count c.args.set.now.topo) c.args.p.0 x (sym c.requires.stands.each) c.requires.proc c.index_mut-unit.ensures.value in
    let few : length c.turn_unit.new.table ≤ MAX_TERMS = omega (arith, c.len-terms.ensures.few, c.len-terms.ensures.value) in
    seated c.args.set.now c.args.p.0 c.args.self.now _ x c.turn_unit.new.unit c.requires.stands here refl refl c.in_ok-turn.ensures.kept few c.in_ok-turn.turn c.in_ok-turn.ensures.turn
