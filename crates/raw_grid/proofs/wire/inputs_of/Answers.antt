use Rattle.std.proofs.Common.{◌∙◌, ap, None}
use Rattle.std.specs.Prelude.{slice_index_or}
use Rattle.raw_grid.specs.Wires.{Wire}
use Rattle.raw_grid.proofs.FirstPlaces.{one_more, none_more}
use Rattle.raw_grid.proofs.wire.inputs_of.Goals.{then-wire-p, else-wire-p}
use Rattle.raw_grid.proofs.wire.inputs_of.Goals as goal

pub loop-number-preserved : goal.loop-number-preserved
loop-number-preserved c i few =
    let none : Wire = record { from = 0; output = 0; to = 0; input = 0 } in
    let old = slice_index_or c.loop-number.found i None in
    elim c.if-wire-p.branch [
      | then-wire-p w ↦ ap (λ f. slice_index_or f i None) w.found-is ∙ w.note_first.ensures i few ∙ one_more (λ (x : Wire). x.to) (λ (x : Wire). x.input) c.args.p i c.args.wires.now c.loop-number.number none old c.loop-number-test.true (c.loop-number.invariant i few) w.if-wire-p.true
      | else-wire-p w ↦ ap (λ f. slice_index_or f i None) w.found-is ∙ none_more (λ (x : Wire). x.to) (λ (x : Wire). x.input) c.args.p i c.args.wires.now c.loop-number.number none old c.loop-number-test.true (c.loop-number.invariant i few) w.if-wire-p.false
    ]
