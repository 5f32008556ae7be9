use Rattle.std.proofs.Common.{refl}
use Rattle.raw_set_text.specs.Tiling.{program_of}
use Rattle.raw_set_text.proofs.Building.TilesLists.{unwrapped}
use Rattle.raw_set_text.proofs.Building.TilesProgram.{same_program}
use Rattle.raw_set_text.proofs.tile_parts.TileParts.program.Goals as goal

pub returns : goal.returns
unfolding program_of
returns c =
    let code = unwrapped c.args.self.code c.new.result c.unwrap_or.result c.unwrap_or.ensures c.new.ensures.items in
    let switch = unwrapped c.args.self.switch c.new-2.result c.unwrap_or-2.result c.unwrap_or-2.ensures c.new-2.ensures.items in
    same_program _ _ _ _ _ _ _ _ code switch c.in_ok-cells.ensures refl
