use Rattle.std.proofs.Common.{◌≡◌, ◌+◌, sym, ap, ◌∙◌, arith}
use Rattle.raw_model.specs.Local.{PortLocal}
use Rattle.raw_processor.specs.Port.{Port}
use Rattle.raw_cut.proofs.arriving.is_source_at.Goals as goal

pub returns : goal.returns
returns c = λ e.
    let done : c.source.inside.done ≡ c.args.given + c.cut.inside.done = omega (arith, c.if-source-cut.false, c.if-source-cut-2.false) in
    let got : c.source.inside.got.items ≡ c.cut.inside.got.items = sym c.deref.ensures.value ∙ c.are_same.ensures e ∙ c.deref-2.ensures.value in
    ap (λ (p : Port). p.local) (sym c.source.view_is)
    ∙ (λ i. record { done = done i; got = got i })
    ∙ ap (λ (k : PortLocal). record { done = c.args.given + k.done; got = k.got }) c.cut.view_is
