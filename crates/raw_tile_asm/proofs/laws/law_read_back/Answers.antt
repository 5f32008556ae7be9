use Rattle.raw_tile_asm.specs.Language.{tile_language}
use Rattle.raw_tile_asm.proofs.ReadBack.{read_back}
use Rattle.raw_tile_asm.proofs.laws.law_read_back.Goals as goal

pub returns : goal.returns
returns c = read_back (c.law_one_each.ensures tile_language)
