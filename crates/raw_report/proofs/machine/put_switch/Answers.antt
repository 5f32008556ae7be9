use Rattle.std.proofs.Common.{◌≡◌, ◌+◌, sym, ap, ◌∙◌}
use Rattle.raw_grid.specs.Topology.{tile_count}
use Rattle.raw_model.specs.StateTexts.{mark_of}
use Rattle.raw_report.specs.Lines.{switch_line}
use Rattle.raw_state_text.proofs.Sections.{same_text}
use Rattle.raw_report.proofs.AtRest.{switch_is}
use Rattle.raw_report.proofs.machine.put_switch.Goals as goal

pub returns : goal.returns
returns g c =
    let m = c.args.m.now in
    let l = c.switch.result.now in
    let t = c.args.t in
    let number : c.tile_count.result + t ≡ tile_count m.set.topo + t = ap (λ n. n + t) c.tile_count.ensures.value in
    same_text _ _ _ _ _
    (c.switch_line-line.ensures
    ∙ ap (λ p. switch_line m.set.topo t (mark_of m.set m.state p) l) number
    ∙ sym (switch_is m.set m.state t l c.switch.ensures))
    c.put_line.ensures
