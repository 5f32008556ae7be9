use Rattle.std.proofs.Common.{◌≡◌, ◌++◌, [], ap, ap₂, ◌∙◌}
use Rattle.raw_model.specs.StateTexts.{registers_line}
use Rattle.raw_state_text.proofs.Sections.{same_text}
use Rattle.raw_debug.proofs.Pieces.{four}
use Rattle.raw_debug.proofs.answers.put_tile_registers.Goals as goal

pub returns : goal.returns
returns g c =
    let l = c.args.state.now in
    let first : c.as_bytes.result.now ≡ registers_line l.regs 0 = c.as_bytes.ensures ∙ c.registers_line-first.ensures in
    let second : c.as_bytes-2.result.now ≡ registers_line l.regs 8 = c.as_bytes-2.ensures ∙ c.registers_line-second.ensures in
    let third : c.as_bytes-3.result.now ≡ registers_line l.regs 16 = c.as_bytes-3.ensures ∙ c.registers_line-third.ensures in
    let last : c.as_bytes-4.result.now ≡ registers_line l.regs 24 = c.as_bytes-4.ensures ∙ c.registers_line-last.ensures in
    same_text _ _ _ _ _
    (ap₂ (λ x y. x ++ y) first (ap₂ (λ x y. x ++ y) second (ap₂ (λ x y. x ++ y) third (ap (λ x. x ++ []) last)))
    ∙ four (registers_line l.regs 0) (registers_line l.regs 8) (registers_line l.regs 16) (registers_line l.regs 24))
    c.put_each.ensures.written
