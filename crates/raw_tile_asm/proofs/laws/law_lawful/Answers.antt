use Rattle.raw_tile_asm.specs.Language.{tile_language}
use Rattle.raw_tile_asm.proofs.Lawful.{fronts_lawful}
use Rattle.raw_tile_asm.proofs.laws.law_lawful.Goals as goal

pub returns : goal.returns
returns c = fronts_lawful c.law_codes.ensures.encodes c.law_load.ensures (c.law_first_lines.ensures.given tile_language) (c.law_first_lines.ensures.few tile_language)
