use Rattle.std.proofs.Common.{◌≡◌, ◌+◌, ◌*◌, ap, ◌∙◌}
use Rattle.raw_model.specs.Program.{ProgramSet}
use Rattle.raw_model.specs.TileTable.{word_at}
use Rattle.raw_report.specs.Lines.{memory_word_line}
use Rattle.raw_report.specs.Report.{memory_line}
use Rattle.raw_state_text.proofs.Sections.{same_text, failed_numbered, more_numbered, all_numbered}
use Rattle.raw_report.proofs.machine.put_show.Given.{Over}
use Rattle.raw_report.proofs.machine.put_show.Goals as goal
use Rattle.raw_report.proofs.machine.put_show.Goals.{After-memory_line-line}

-- the line of the next word
line : (g : Over) (c : After-memory_line-line g) → c.memory_line-line.result ≡ memory_line c.args.m.now.set c.args.m.now.state c.args.show.tile (c.args.show.address + 4 * c.loop-k.k)
line g c =
    let tile = c.args.show.tile in
    let address = c.args.show.address + 4 * c.loop-k.k in
    c.memory_line-line.ensures
    ∙ ap (λ (set : ProgramSet). memory_word_line set.topo tile address c.word_at.result) (c.set.view_is ∙ c.set-set.ensures.value)
    ∙ ap (memory_word_line c.args.m.now.set.topo tile address) (c.word_at.ensures ∙ ap (λ memory. word_at memory address) c.memory_of-memory.ensures)

pub returns-in_err-put_line : goal.returns-in_err-put_line
returns-in_err-put_line g c =
    failed_numbered _ c.args.show.words _ c.loop-k.invariant c.loop-k-test.true
    (same_text _ _ _ _ _ (line g (goal.at.returns-in_err-put_line g c).After-memory_line-line) c.in_err-put_line.ensures) c.from_residual.ensures.0

pub loop-k-preserved : goal.loop-k-preserved
loop-k-preserved g c =
    more_numbered _ c.args.show.words _ c.loop-k.invariant c.loop-k-test.true (same_text _ _ _ _ _ (line g (goal.at.loop-k-preserved g c).After-memory_line-line) c.in_ok-put_line.ensures)

pub returns : goal.returns
returns g c = all_numbered _ c.args.show.words _ c.loop-k.invariant c.loop-k-test.false
