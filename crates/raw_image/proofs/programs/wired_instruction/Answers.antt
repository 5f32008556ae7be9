use Rattle.std.proofs.Common.{sym, ◌∙◌}
use Rattle.raw_image.proofs.Decoding.{decode_is, wired_none, wired_some, wired_bad}
use Rattle.raw_image.proofs.programs.wired_instruction.Goals as goal

pub returns-in_err-ins : goal.returns-in_err-ins
returns-in_err-ins c = λ topo p wired.
    let shown = decode_is c.args.word c.decode.result c.decode.ensures.found c.decode.ensures.only in
    let none = wired_none topo p c.args.word (sym shown ∙ c.in_err-ins.was) in
    cc (none, c.from_residual.ensures)

pub returns-then-has_wires : goal.returns-then-has_wires
returns-then-has_wires c = λ topo p wired.
    let shown = decode_is c.args.word c.decode.result c.decode.ensures.found c.decode.ensures.only in
    sym (wired_some topo p c.args.word c.in_ok-ins.ins (sym shown ∙ c.in_ok-ins.was) (sym (c.has_wires.ensures topo p wired) ∙ c.if-has_wires.true))

pub returns-else-has_wires : goal.returns-else-has_wires
returns-else-has_wires c = λ topo p wired.
    let shown = decode_is c.args.word c.decode.result c.decode.ensures.found c.decode.ensures.only in
    sym (wired_bad topo p c.args.word c.in_ok-ins.ins (sym shown ∙ c.in_ok-ins.was) (sym (c.has_wires.ensures topo p wired) ∙ c.if-has_wires.false))
