use Rattle.std.proofs.Common.{◌≡◌, ℕ, List, sym, ap, ◌∙◌}
use Rattle.raw_model.specs.Local.{TileLocal}
use Rattle.raw_stream.specs.Streams.{valued}
use Rattle.raw_cut.proofs.arriving.is_tile_at.Goals as goal

pub returns : goal.returns
returns c = λ e.
    let ns : List ℕ = c.args.numbers.now in
    let cut : TileLocal = c.args.cut.now in
    let own : List ℕ = c.tile.inside.memory.items in
    let memory : own ≡ valued ns cut.memory =
    sym c.deref-2.ensures.value ∙ c.are_same.ensures e ∙ c.deref-3.ensures.value ∙ c.in_ok-memory.ensures ∙ ap (valued ns) c.deref.ensures.value ∙ ap (λ (k : TileLocal). valued ns k.memory) c.cut.view_is in
    sym c.tile.view_is
    ∙ ap (λ (st : TileLocal). record st { memory = own }) (c.is_state_at.ensures c.if-not-is_state_at.false)
    ∙ (λ i. record {
      regs = valued ns cut.regs;
      pc = cut.pc;
      count = (ap (λ (t : TileLocal). t.count) c.tile.view_is) i;
      mark = cut.mark;
      memory = memory i;
    })
