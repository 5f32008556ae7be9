use Rattle.std.proofs.Common.{◌≡◌, ℕ, List, length, Some, refl, arith}
use Rattle.std.specs.Prelude.{slice_get}
use Rattle.std.proofs.lemmas.Option.{slice_get_read, slice_get_within}
use Rattle.raw_prove.specs.declared.unit.Unit.{Unit}
use Rattle.raw_lengths.proofs.Halted.{halted_more, all_halted}
use Rattle.raw_lengths.proofs.halting.are_halted.Goals as goal

pub loop-p-preserved : goal.loop-p-preserved
loop-p-preserved c =
    let us : List Unit = c.args.units.now in
    let p : ℕ = c.loop-p.p in
    let x : Unit = c.index-units-p.result in
    let here : slice_get us p ≡ Some x = slice_get_read us (length us) p x refl c.loop-p-test.true c.index-units-p.is in
    halted_more us p x here (c.is_halted.ensures c.if-not-is_halted.false) c.loop-p.invariant

pub returns : goal.returns
returns c = λ _.
    let us : List Unit = c.args.units.now in
    all_halted us (λ k y e. c.loop-p.invariant k y (omega (arith, slice_get_within us k y e, c.loop-p-test.false)) e)
