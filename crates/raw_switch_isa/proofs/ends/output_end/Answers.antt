use Rattle.std.proofs.Common.{◌≡◌, true, ap, sym, ◌∙◌, ◌&&◌, arith}
use Rattle.std.specs.Prelude.{◌==◌, is_some}
use Rattle.raw_switch_isa.specs.Ends.{is_filled}
use Rattle.raw_switch_isa.proofs.EndWords.{one_end}
use Rattle.raw_switch_isa.proofs.ends.output_end.Goals as goal

pub returns-then-is_some : goal.returns-then-is_some
returns-then-is_some c = λ end.
    let filled : is_filled c.args.ins.now c.args.output ≡ true = ap is_some (sym c.route_source.ensures.source) ∙ sym c.is_some.ensures ∙ c.if-is_some.true in
    one_end c.args.output end (omega arith) ∙ ap (λ b. b && c.args.output == end) (sym filled)
