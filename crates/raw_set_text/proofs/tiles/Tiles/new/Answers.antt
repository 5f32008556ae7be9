use Rattle.std.proofs.Common.{refl, arith}
use Rattle.raw_set_text.proofs.Building.TilesBlank.{tiles_blank}
use Rattle.raw_set_text.proofs.tiles.Tiles.new.Goals as goal

pub returns-clause-stands : goal.returns-clause-stands
returns-clause-stands c = λ columns rows e. tiles_blank _ columns rows (omega arith) c.loop.invariant.blank refl refl refl refl
