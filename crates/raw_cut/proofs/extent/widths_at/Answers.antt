use Rattle.std.proofs.Common.{rules, ◌≡◌, ℕ, ◌+◌, ◌<◌, ◌≤◌, Some, sym, ap, ap₂, ◌∙◌, subst, ⊎_elim, arith}
use Rattle.std.specs.Prelude.{slice_get, sum_by}
use Rattle.std.proofs.lemmas.Bool.{cases_lt}
use Rattle.std.proofs.lemmas.Option.{same_Some}
use Rattle.raw_grid.specs.declared.parts.PortPlace.{PortPlace}
use Rattle.raw_stream.specs.Streams.{Stream}
use Rattle.raw_stream.specs.Unrolled.{takes, width}
use Rattle.raw_stream.proofs.Sums.{sum_more}
use Rattle.raw_cut.proofs.extent.widths_at.Goals as goal

pub loop-port-preserved : goal.loop-port-preserved
loop-port-preserved c =
    let s : Stream = c.args.stream.now in
    let p : ℕ = c.loop-port.port in
    let nodes : c.deref.result.now ≡ s.nodes = search rules in
    let given : c.width_at-width.result ≡ width s p = c.width_at-width.ensures.value ∙ ap (sum_by (takes p)) nodes in
    record {
      sum = ap₂ (λ (a b : ℕ). a + b) c.loop-port.invariant.sum given ∙ sym (sum_more (width s) p);
      few = omega (arith, c.loop-port.invariant.few, c.if-width-total.false);
      sinks = λ q place below e sink.
          ⊎_elim (λ (earlier : q < p). c.loop-port.invariant.sinks q place earlier e sink)
          (λ (past : p ≤ q).
          let is : q ≡ p = omega (arith, below, past) in
          let found : c.place_of.result ≡ place = same_Some c.place_of.result place (sym c.place_of.ensures ∙ subst (λ (k : ℕ). slice_get c.args.topo.now.places k ≡ Some place) is e) in
          let none : c.width_at-width.result ≡ 0 = c.may_give.ensures c.if-not-may_give.false (ap (λ (x : PortPlace). x.kind) found ∙ sink) in
          ap (width s) is ∙ sym given ∙ none)
          (cases_lt q p);
    }
