use Rattle.raw_generated.proofs.Whole.{tiles_more}
use Rattle.raw_generated.proofs.tiles.tile_programs.Goals as goal

pub loop-t-preserved : goal.loop-t-preserved
loop-t-preserved c =
    tiles_more c.args.n c.loop-t.t c.loop-t.tiles.items c.push.new.self.items _ c.in_ok-push.ensures.items c.in_ok-tile_program.ensures c.loop-t.invariant
