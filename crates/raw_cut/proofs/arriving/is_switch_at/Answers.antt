use Rattle.std.proofs.Common.{ℕ, List, sym, ap, ◌∙◌}
use Rattle.raw_model.specs.Local.{SwitchLocal}
use Rattle.raw_stream.specs.Streams.{valued}
use Rattle.raw_cut.proofs.arriving.is_switch_at.Goals as goal

pub returns : goal.returns
returns c = λ e.
    let ns : List ℕ = c.args.numbers.now in
    let count : ℕ = c.args.switch.now.count in
    sym c.switch.view_is
    ∙ (λ i. record {
      regs = (c.are_same.ensures e ∙ c.all_valued-regs.ensures) i;
      pc = c.if-switch-cut.false i;
      count = (ap (λ (l : SwitchLocal). l.count) c.switch.view_is) i;
      mark = (c.is_same_mark.ensures c.if-not-is_same_mark.false) i;
    })
    ∙ ap (λ (k : SwitchLocal). record { regs = valued ns k.regs; pc = k.pc; count = count; mark = k.mark }) c.cut.view_is
