use Rattle.std.proofs.Common.{◌≡◌, ℕ, ◌+◌, ◌++◌, List, length, sym, ap, ◌∙◌, arith}
use Rattle.raw_model.specs.Local.{PortLocal}
use Rattle.raw_processor.specs.Port.{Port}
use Rattle.raw_stream.specs.Streams.{valued}
use Rattle.raw_cut.proofs.arriving.is_sink_at.Goals as goal

pub returns : goal.returns
returns c = λ e.
    let ns : List ℕ = c.args.numbers.now in
    let due : List ℕ = c.args.due.items in
    let long = c.args.due.ok.0 in
    let done : c.sink.inside.done ≡ length due + c.cut.inside.done = omega (arith, long, c.len-count.ensures, c.if-sink-cut.false, c.if-sink-cut-2.false) in
    let own : c.deref-2.result.now ≡ valued ns c.cut.inside.got.items = c.deref-2.ensures.value ∙ c.in_ok-own.ensures ∙ ap (valued ns) c.deref.ensures.value in
    let got : c.sink.inside.got.items ≡ due ++ valued ns c.cut.inside.got.items =
    sym c.deref-3.ensures.value ∙ c.are_same.ensures e ∙ c.deref-4.ensures.value ∙ c.in_ok-extend_from_slice.ensures.items ∙ ap (λ (xs : List ℕ). due ++ xs) own in
    ap (λ (p : Port). p.local) (sym c.sink.view_is)
    ∙ (λ i. record { done = done i; got = got i })
    ∙ ap (λ (k : PortLocal). record { done = length due + k.done; got = due ++ valued ns k.got }) c.cut.view_is
