use Rattle.raw_picture.specs.Picture.{piece, size}
use Rattle.raw_state_text.proofs.Sections.{Numbered}
use Rattle.raw_picture.proofs.layers.put_layer.Given as goal

abbrev pub invariant-loop-i : goal.invariant-loop-i
invariant-loop-i g l = Numbered (g.K.Sink.sight l.fn.out) (g.K.Sink.sight l.out) (piece l.fn.drawn.machine.now.set l.fn.drawn.machine.now.state l.layer) (size l.fn.drawn.machine.now.set.topo l.layer) l.i
