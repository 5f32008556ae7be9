use Rattle.std.proofs.Common.{◌≡◌, Some, refl, sym}
use Rattle.std.specs.Prelude.{slice_get}
use Rattle.std.proofs.lemmas.Option.{slice_get_read}
use Rattle.std.proofs.lemmas.Result.{IfOk-weaker}
use Rattle.raw_grid.specs.Topology.{proc_count}
use Rattle.raw_prove.specs.declared.unit.Unit.{Unit}
use Rattle.raw_lengths.proofs.Seated.{look_seated}
use Rattle.raw_lengths.proofs.noting.note.Goals as goal

pub returns : goal.returns
returns c =
    let x : Unit = c.index_mut-unit.result.now in
    let here : slice_get c.args.machine.now.units.items c.args.p.0 ≡ Some x =
    slice_get_read c.args.machine.now.units.items (proc_count c.args.set.now.topo) c.args.p.0 x (sym c.requires.kept.each) c.requires.proc c.index_mut-unit.ensures.value in
    IfOk-weaker c.note_unit.result _ _
    (λ look is. look_seated c.args.set.now c.args.p.0 c.args.machine.now _ x c.note_unit.new.unit here refl refl (λ spare kept. c.note_unit.ensures.kept spare (kept.units c.args.p.0 x here)) look is)
    c.note_unit.ensures.look
