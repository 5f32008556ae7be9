use Rattle.raw_tile_isa.proofs.Bits.{ones_is}
use Rattle.raw_tile_isa.proofs.arithmetic.ones.Goals as goal

pub returns : goal.returns
returns c = ones_is c.args.a c.ranges.a.fits
