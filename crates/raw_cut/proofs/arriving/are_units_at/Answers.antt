use Rattle.std.proofs.Common.{◌≡◌, ℕ, List, length, map, Some, refl, arith}
use Rattle.std.specs.Prelude.{slice_get}
use Rattle.std.proofs.lemmas.Option.{slice_get_read}
use Rattle.std.proofs.lemmas.List.{length-map}
use Rattle.raw_serial.proofs.Fields.{at_field}
use Rattle.raw_rows.specs.Kernels.{renumbered}
use Rattle.raw_prove.specs.declared.unit.Unit.{Unit}
use Rattle.raw_prove.specs.Units.{local_of}
use Rattle.raw_cut.specs.declared.cut.CutLocal.{CutLocal}
use Rattle.raw_cut.specs.Cuts.{local_at}
use Rattle.raw_cut.proofs.Lists.{both_more, at_each}
use Rattle.raw_cut.proofs.arriving.are_units_at.Goals as goal

pub loop-p-preserved : goal.loop-p-preserved
loop-p-preserved c =
    let p : ℕ = c.loop-p.p in
    let us : List Unit = c.args.units.now in
    let cs : List CutLocal = c.args.cuts.now in
    let x : Unit = c.index-units-p.result in
    let y : CutLocal = c.index-cuts-p.result in
    let one : slice_get us p ≡ Some x = slice_get_read us (length us) p x refl c.loop-p-test.true c.index-units-p.is in
    let other : slice_get cs p ≡ Some y = slice_get_read cs (length us) p y (omega (arith, c.if-units-cuts.false)) c.loop-p-test.true c.index-cuts-p.is in
    both_more _ (map local_of us) (map (renumbered c.args.numbers.now) (map local_at cs)) p (local_of x) (renumbered c.args.numbers.now (local_at y))
    (at_field local_of us p x one) (at_field (renumbered c.args.numbers.now) (map local_at cs) p (local_at y) (at_field local_at cs p y other))
    (c.in_ok-is_unit_at.ensures c.if-not-branch.false) c.loop-p.invariant

pub returns : goal.returns
returns c =
    let us : List Unit = c.args.units.now in
    let cs : List CutLocal = c.args.cuts.now in
    let ns : List ℕ = c.args.numbers.now in
    let many : length (map local_of us) ≡ length (map (renumbered ns) (map local_at cs)) =
    omega (arith, length-map us local_of, length-map (map local_at cs) (renumbered ns), length-map cs local_at, c.if-units-cuts.false) in
    λ _.
    at_each _ (map local_of us) (map (renumbered c.args.numbers.now) (map local_at cs)) many (λ q below. c.loop-p.invariant q (omega (arith, below, length-map us local_of, c.loop-p-test.false)))
