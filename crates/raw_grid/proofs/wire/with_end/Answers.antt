use Rattle.std.proofs.Common.{◌∙◌, sym, ap, cond, w16, arith}
use Rattle.std.specs.Int.{bit_at}
use Rattle.std.proofs.lemmas.Nat.Bits.{bit_at_set_same, bit_at_set_other}
use Rattle.raw_grid.proofs.wire.with_end.Goals as goal

pub returns-then-has_wire-clause-same : goal.returns-then-has_wire-clause-same
returns-then-has_wire-clause-same c =
    bit_at_set_same w16 c.args.ends c.args.end (omega arith) ∙ sym (ap (λ b. cond b 1 (bit_at c.args.ends c.args.end)) c.if-has_wire.true)

pub returns-then-has_wire-clause-others : goal.returns-then-has_wire-clause-others
returns-then-has_wire-clause-others c = bit_at_set_other w16 c.args.ends c.args.end (omega arith)
