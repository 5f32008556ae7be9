use Rattle.std.proofs.Common.{ap, ap₂, ◌∙◌}
use Rattle.raw_model.specs.Program.{ProgramSet}
use Rattle.raw_report.specs.Lines.{stall_text}
use Rattle.raw_state_text.proofs.Sections.{same_text}
use Rattle.raw_report.proofs.machine.put_stall.Goals as goal

pub returns : goal.returns
returns g c =
    let m = c.args.m.now in
    let t = c.args.t in
    same_text _ _ _ _ _
    (c.stall_line-line.ensures
    ∙ ap (λ (set : ProgramSet). stall_text set.topo t c.misses.result c.stalls.result) (c.behind-m.view_is ∙ c.set.ensures.value)
    ∙ ap₂ (stall_text m.set.topo t) c.misses.ensures c.stalls.ensures)
    c.put_line.ensures
