use Rattle.raw_tile_isa.proofs.Signed.{shift_right_signed_is}
use Rattle.raw_tile_isa.proofs.arithmetic.shift_right_signed.Goals as goal

pub returns : goal.returns
returns c =
    shift_right_signed_is c.args.a c.args.b c.cast_unsigned.result c.cast_signed.result c.wrapping_shr.result
    c.ranges.a.fits (record { sfits = c.wrapping_shr.type_inv })
    c.cast_signed.ensures c.wrapping_shr.ensures c.cast_unsigned.ensures
