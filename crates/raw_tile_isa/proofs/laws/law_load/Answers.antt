use Rattle.raw_tile_isa.proofs.Loading.{loading}
use Rattle.raw_tile_isa.proofs.laws.law_load.Goals as goal

pub returns : goal.returns
returns c = loading
