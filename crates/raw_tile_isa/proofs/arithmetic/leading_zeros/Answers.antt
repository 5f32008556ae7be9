use Rattle.raw_tile_isa.proofs.Bits.{leading_zeros_is}
use Rattle.raw_tile_isa.proofs.arithmetic.leading_zeros.Goals as goal

pub returns : goal.returns
returns c = leading_zeros_is c.args.a c.ranges.a.fits
