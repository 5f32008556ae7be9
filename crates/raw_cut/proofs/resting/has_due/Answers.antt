use Rattle.std.proofs.Common.{◌≡◌, ℕ, ◌≤◌, ◌++◌, List, length, map, sym, ap, ◌∙◌, subst}
use Rattle.raw_model.specs.Local.{Sink, PortLocal}
use Rattle.raw_processor.specs.Port.{Port}
use Rattle.raw_stream.specs.Streams.{due_to}
use Rattle.raw_prove.specs.Units.{local_of}
use Rattle.raw_cut.proofs.resting.has_due.Goals as goal

sink_same : (k l : PortLocal) → Sink k ≡ Sink l → k ≡ l
sink_same k l e = cc e

pub returns-in_ok-due-in-Sink : goal.returns-in_ok-due-in-Sink
returns-in_ok-due-in-Sink c = λ e l same.
    let k : PortLocal = c.in-Sink.sink.local in
    let due : List ℕ = due_to c.args.stream.now c.args.port (map (λ row. row.items) c.args.values.now) in
    let got : c.deref.result.now ≡ k.got = c.deref.ensures.value ∙ ap (λ (p : Port). p.local.got) c.sink.view_is in
    let is : k ≡ l = sink_same k l (sym (ap local_of c.in-Sink.is) ∙ same) in
    subst (λ (x : PortLocal). (last : List ℕ) × (due ≡ x.got ++ last) × (length last ≤ c.args.lack)) is
    (subst (λ (xs : List ℕ). (last : List ℕ) × (xs ≡ k.got ++ last) × (length last ≤ c.args.lack)) (c.deref-in-Sink.ensures.value ∙ c.in_ok-due-in-Sink.ensures)
    (subst (λ (xs : List ℕ). (last : List ℕ) × (c.deref-in-Sink.result.now ≡ xs ++ last) × (length last ≤ c.args.lack)) got (c.lacks_few.ensures e)))
