use Rattle.std.proofs.Common.{◌≡◌, ◌++◌, [], sym, ap, ap₂, ◌∙◌}
use Rattle.raw_model.specs.StateTexts.{mark_of, registers_line}
use Rattle.raw_report.specs.Lines.{tile_head}
use Rattle.raw_state_text.proofs.Sections.{same_text}
use Rattle.raw_report.proofs.AtRest.{tile_is, five}
use Rattle.raw_report.proofs.machine.put_tile.Goals as goal

pub returns : goal.returns
returns g c =
    let m = c.args.m.now in
    let l = c.tile-state.result.now in
    let head : c.as_bytes.result.now ≡ tile_head m.set.topo c.args.t (mark_of m.set m.state c.args.t) l = c.as_bytes.ensures ∙ c.tile_head-head.ensures in
    let first : c.as_bytes-2.result.now ≡ registers_line l.regs 0 = c.as_bytes-2.ensures ∙ c.registers_line-first.ensures in
    let second : c.as_bytes-3.result.now ≡ registers_line l.regs 8 = c.as_bytes-3.ensures ∙ c.registers_line-second.ensures in
    let third : c.as_bytes-4.result.now ≡ registers_line l.regs 16 = c.as_bytes-4.ensures ∙ c.registers_line-third.ensures in
    let last : c.as_bytes-5.result.now ≡ registers_line l.regs 24 = c.as_bytes-5.ensures ∙ c.registers_line-last.ensures in
    same_text _ _ _ _ _
    (ap₂ (λ x y. x ++ y) head (ap₂ (λ x y. x ++ y) first (ap₂ (λ x y. x ++ y) second (ap₂ (λ x y. x ++ y) third (ap (λ x. x ++ []) last))))
    ∙ five (tile_head m.set.topo c.args.t (mark_of m.set m.state c.args.t) l) (registers_line l.regs 0) (registers_line l.regs 8) (registers_line l.regs 16) (registers_line l.regs 24)
    ∙ sym (tile_is m.set m.state c.args.t l c.tile-state.ensures))
    c.put_each.ensures.written
