use Rattle.raw_report.specs.Lines.{word_line}
use Rattle.raw_state_text.proofs.Sections.{one_more, failed, same_text, next_text}
use Rattle.raw_report.proofs.ports.put_words.Goals as goal

pub returns-in_err-put_line : goal.returns-in_err-put_line
returns-in_err-put_line g c =
    failed _ _ _ _ _ _ _ c.loop-word.invariant (next_text word_line c.args.words.now c.loop-word.word-index 0 c.loop-word-test.true) _
    c.from_residual.result c.from_residual.ensures.0 (same_text _ _ _ _ _ c.word_line.ensures c.in_err-put_line.ensures)

pub loop-word-preserved : goal.loop-word-preserved
loop-word-preserved g c =
    one_more _ _ _ _ _ _ _ c.loop-word.invariant (next_text word_line c.args.words.now c.loop-word.word-index 0 c.loop-word-test.true) _
    (same_text _ _ _ _ _ c.word_line.ensures c.in_ok-put_line.ensures)
