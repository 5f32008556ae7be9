use Rattle.std.proofs.Common.{◌++◌, subst, arith}
use Rattle.std.specs.Option.{option_to_list}
use Rattle.raw_asm.specs.Tokens.{section_lines}
use Rattle.raw_stream_text.specs.Forms.{line_statement}
use Rattle.raw_stream_text.specs.Meaning.{said_before}
use Rattle.raw_stream_text.specs.Building.{IsNamed}
use Rattle.raw_stream_text.proofs.Naming.{named_next, named_all}
use Rattle.raw_stream_text.proofs.named.Named.new.Goals as goal

pub loop-place-preserved : goal.loop-place-preserved
loop-place-preserved c =
    let lines = section_lines c.args.lines.now in
    let k = c.loop-place.place in
    named_next c.add_line.new.self lines k (omega arith)
    (subst (λ line. IsNamed c.add_line.new.self (said_before lines k ++ option_to_list (line_statement line))) c.line.ensures (c.in_ok-add_line.ensures (said_before lines k) c.loop-place.invariant))

pub returns : goal.returns
returns c = named_all c.loop-place.named (section_lines c.args.lines.now) c.loop-place.place (omega arith) c.loop-place.invariant
