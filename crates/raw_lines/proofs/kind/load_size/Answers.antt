use Rattle.std.proofs.Common.{sym, arith}
use Rattle.raw_asm.specs.Tokens.{tokens_of}
use Rattle.raw_tile_asm.proofs.Sizes.{no_operand}
use Rattle.raw_lines.proofs.kind.load_size.Goals as goal

pub returns-then-len-lt2-clause-value : goal.returns-then-len-lt2-clause-value
returns-then-len-lt2-clause-value c = sym (no_operand (tokens_of c.args.operands.now) (omega (arith, c.len.ensures)))
