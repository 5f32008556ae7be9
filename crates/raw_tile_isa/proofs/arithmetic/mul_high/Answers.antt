use Rattle.raw_tile_isa.proofs.Signed.{mul_high_is}
use Rattle.raw_tile_isa.proofs.arithmetic.mul_high.Goals as goal

pub returns : goal.returns
returns c =
    mul_high_is c.args.a c.args.b c.cast_unsigned.result
    c.cast_signed.result c.from.result c.cast_signed-2.result c.from-2.result c.ranges.a.fits c.ranges.b.fits
    c.cast_signed.ensures c.from.ensures c.cast_signed-2.ensures c.from-2.ensures c.cast_unsigned.ensures
