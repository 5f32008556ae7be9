use Rattle.raw_text.proofs.Runs.{code_of_line}
use Rattle.raw_text.proofs.lines.cut_line.Goals as goal

pub cut_tokens-requires-clause-code : goal.cut_tokens-requires-clause-code
cut_tokens-requires-clause-code c =
    code_of_line c.args.bytes.now c.args.start c.args.end c.code_len.result c.requires.in_order c.requires.within c.requires.line c.code_len.ensures.place
