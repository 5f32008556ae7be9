use Rattle.std.proofs.Common.{arith}
use Rattle.raw_picture.specs.Picture.{layer_text, size}
use Rattle.raw_state_text.proofs.Sections.{failed_numbered, more_numbered, all_numbered}
use Rattle.raw_picture.proofs.layers.put_layer.Goals as goal

pub returns-in_err-put_piece : goal.returns-in_err-put_piece
unfolding layer_text
returns-in_err-put_piece g c = failed_numbered _ (size c.args.drawn.now.machine.now.set.topo c.args.layer) _ c.loop-i.invariant (grind arith) c.in_err-put_piece.ensures c.from_residual.ensures.0

pub loop-i-preserved : goal.loop-i-preserved
loop-i-preserved g c = more_numbered _ (size c.args.drawn.now.machine.now.set.topo c.args.layer) _ c.loop-i.invariant (grind arith) c.in_ok-put_piece.ensures

pub returns : goal.returns
unfolding layer_text
returns g c = all_numbered _ (size c.args.drawn.now.machine.now.set.topo c.args.layer) _ c.loop-i.invariant (grind arith)
