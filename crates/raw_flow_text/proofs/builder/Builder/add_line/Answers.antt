use Rattle.std.proofs.Common.{append-nil, arith}
use Rattle.raw_asm.specs.Tokens.{tokens_of}
use Rattle.raw_flow_text.proofs.Sound.{blank_says}
use Rattle.raw_flow_text.proofs.builder.Builder.add_line.Goals as goal

pub returns-then-len-eq0-clause-stands : goal.returns-then-len-eq0-clause-stands
returns-then-len-eq0-clause-stands c said stands =
    let none = blank_says (tokens_of c.args.line.now) (omega arith) in
    rw (none, append-nil) stands
