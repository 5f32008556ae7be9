use Rattle.std.proofs.Common.{◌+◌, sym, ap, ◌∙◌, drop}
use Rattle.std.specs.Prelude.{◌||◌}
use Rattle.std.specs.List.{list_any}
use Rattle.raw_picture.specs.Frame.{has_port, is_at}
use Rattle.raw_picture.proofs.Sides.{any_at}
use Rattle.raw_picture.proofs.frame.has_port.Goals as goal

pub returns-then-is_at : goal.returns-then-is_at
unfolding has_port
returns-then-is_at c =
    let places = c.args.topo.now.places in
    let rest = list_any (is_at c.args.side) (drop (c.loop-i.i + 1) places) in
    sym (sym c.loop-i.invariant ∙ any_at (is_at c.args.side) places c.loop-i.i c.place_of.result c.place_of.ensures ∙ ap (λ here. here || rest) (sym c.if-is_at.ensures))

pub loop-i-preserved : goal.loop-i-preserved
loop-i-preserved c =
    let places = c.args.topo.now.places in
    let rest = list_any (is_at c.args.side) (drop (c.loop-i.i + 1) places) in
    sym (any_at (is_at c.args.side) places c.loop-i.i c.place_of.result c.place_of.ensures ∙ ap (λ here. here || rest) (sym c.if-is_at.ensures))
    ∙ c.loop-i.invariant
