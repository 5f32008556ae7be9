use Rattle.std.proofs.Common.{◌+◌, arith}
use Rattle.raw_lines.specs.Lines.{number_line}
use Rattle.raw_lines.proofs.Ranges.{one_more}
use Rattle.raw_lines.proofs.telling.push_numbers.Goals as goal

pub loop-j-preserved : goal.loop-j-preserved
loop-j-preserved c =
    let j = c.loop-j.j in
    one_more (λ i. number_line c.args.processor c.args.section.now.from c.args.line (c.args.place + i)) 0 j (j + 1) j _ c.loop-j.bytes.items _ (omega arith) (omega arith) c.loop-j.invariant
    c.in_ok-push_number_line.ensures
