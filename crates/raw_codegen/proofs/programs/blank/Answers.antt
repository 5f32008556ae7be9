use Rattle.std.proofs.Common.{◌∙◌, refl}
use Rattle.raw_codegen.proofs.Giving.{blank_more}
use Rattle.raw_codegen.proofs.programs.blank.Goals as goal

pub loop-preserved : goal.loop-preserved
loop-preserved c =
    blank_more c.loop.counter c.loop.tiles.items c.push.new.self.items
    (c.in_ok-push.ensures.items ∙ rw (c.new.ensures.items, c.new-in-loop.ensures.items, c.new-in-loop-2.ensures.items, c.new-in-loop-3.ensures.items) refl)
    c.loop.invariant
