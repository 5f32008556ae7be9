use Rattle.std.proofs.Common.{ℕ, List, sym, ap, ◌∙◌}
use Rattle.raw_model.specs.Local.{TileLocal}
use Rattle.raw_stream.specs.Streams.{valued}
use Rattle.raw_cut.proofs.arriving.is_state_at.Goals as goal

pub returns : goal.returns
returns c = λ e.
    let ns : List ℕ = c.args.numbers.now in
    let count : ℕ = c.args.state.now.count in
    let memory : List ℕ = c.args.state.now.memory in
    sym c.state.view_is
    ∙ (λ i. record {
      regs = (c.are_same.ensures e ∙ c.all_valued-regs.ensures) i;
      pc = c.if-state-cut.false i;
      count = (ap (λ (t : TileLocal). t.count) c.state.view_is) i;
      mark = (c.is_same_mark.ensures c.if-not-is_same_mark.false) i;
      memory = (ap (λ (t : TileLocal). t.memory) c.state.view_is) i;
    })
    ∙ ap (λ (k : TileLocal). record { regs = valued ns k.regs; pc = k.pc; count = count; mark = k.mark; memory = memory }) c.cut.view_is
