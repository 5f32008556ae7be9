use Rattle.std.proofs.Common.{◌≡◌, ◌+◌, ◌*◌, ap, ◌∙◌}
use Rattle.raw_model.specs.TileTable.{word_at}
use Rattle.raw_state_text.proofs.Sections.{same_text, failed_numbered, more_numbered, all_numbered}
use Rattle.raw_debug.specs.Answers.{word_line}
use Rattle.raw_debug.proofs.answers.put_words.Given.{Over}
use Rattle.raw_debug.proofs.answers.put_words.Goals as goal
use Rattle.raw_debug.proofs.answers.put_words.Goals.{After-word_line}

-- the line of the next word
line : (g : Over) (c : After-word_line g) → c.word_line.result ≡ word_line (c.args.address + 4 * c.loop-k.k) (word_at c.args.memory.now (c.args.address + 4 * c.loop-k.k))
line g c = c.word_line.ensures ∙ ap (word_line (c.args.address + 4 * c.loop-k.k)) c.word_at.ensures

pub returns-in_err-put_line : goal.returns-in_err-put_line
returns-in_err-put_line g c =
    failed_numbered _ c.args.words _ c.loop-k.invariant c.loop-k-test.true (same_text _ _ _ _ _ (line g (goal.at.returns-in_err-put_line g c).After-word_line) c.in_err-put_line.ensures) c.from_residual.ensures.0

pub loop-k-preserved : goal.loop-k-preserved
loop-k-preserved g c = more_numbered _ c.args.words _ c.loop-k.invariant c.loop-k-test.true (same_text _ _ _ _ _ (line g (goal.at.loop-k-preserved g c).After-word_line) c.in_ok-put_line.ensures)

pub returns : goal.returns
returns g c = all_numbered _ c.args.words _ c.loop-k.invariant c.loop-k-test.false
