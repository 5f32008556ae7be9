use Rattle.std.proofs.Common.{◌≡◌, ◌+◌, ◌*◌, Some, refl, sym, ap, ap₂, ◌∙◌}
use Rattle.std.specs.Prelude.{slice_get}
use Rattle.raw_grid.specs.Topology.{tile_count}
use Rattle.raw_model.specs.Local.{Source, Sink}
use Rattle.raw_model.specs.StateTexts.{mark_of}
use Rattle.raw_processor.specs.Port.{Port}
use Rattle.raw_serial.specs.Parts.{port_local}
use Rattle.raw_report.specs.Lines.{source_line, sink_head}
use Rattle.raw_report.specs.Report.{word_lines}
use Rattle.raw_state_text.proofs.Sections.{nothing_yet, one_more, failed, last_part, same_text}
use Rattle.raw_report.proofs.AtRest.{source_is, sink_is}
use Rattle.raw_report.proofs.ports.put_port.Goals as goal

pub returns-in-Source : goal.returns-in-Source
returns-in-Source g c =
    let m = c.args.m.now in
    let l = c.port-port.result.now.local in
    let place = c.args.place in
    let p = 2 * tile_count m.set.topo + c.args.i in
    let local : slice_get m.state.locals p ≡ Some (Source l) = c.port-port.ensures place c.requires ∙ ap (λ k. Some (port_local k l)) c.in-Source.is in
    let mark_is = ap (mark_of m.set m.state) c.port_number-p.ensures.value in
    let done_is : c.port.inside.done ≡ l.done = ap (λ (port : Port). port.local.done) c.port.view_is in
    same_text _ _ _ _ _ (c.source_line.ensures ∙ ap₂ (source_line place) mark_is done_is ∙ sym (source_is m.set m.state p place l local)) c.put_line.ensures

pub returns-in_err-put_line-in-Sink : goal.returns-in_err-put_line-in-Sink
returns-in_err-put_line-in-Sink g c =
    let m = c.args.m.now in
    let l = c.port-port.result.now.local in
    let place = c.args.place in
    let p = 2 * tile_count m.set.topo + c.args.i in
    let local : slice_get m.state.locals p ≡ Some (Sink l) = c.port-port.ensures place c.requires ∙ ap (λ k. Some (port_local k l)) c.in-Sink.is in
    let mark_is = ap (mark_of m.set m.state) c.port_number-p.ensures.value in
    let done_is : c.port.inside.done ≡ l.done = ap (λ (port : Port). port.local.done) c.port.view_is in
    let head : c.sink_head.result ≡ sink_head place (mark_of m.set m.state p) l.done = c.sink_head.ensures ∙ ap₂ (sink_head place) mark_is done_is in
    failed _ _ _ _ _ _ _ (nothing_yet _ _) (sink_is m.set m.state p place l local) _
    c.from_residual.result c.from_residual.ensures.0 (same_text _ _ _ _ _ head c.in_err-put_line-in-Sink.ensures)

pub returns-in_ok-put_line-in-Sink : goal.returns-in_ok-put_line-in-Sink
returns-in_ok-put_line-in-Sink g c =
    let m = c.args.m.now in
    let l = c.port-port.result.now.local in
    let place = c.args.place in
    let p = 2 * tile_count m.set.topo + c.args.i in
    let local : slice_get m.state.locals p ≡ Some (Sink l) = c.port-port.ensures place c.requires ∙ ap (λ k. Some (port_local k l)) c.in-Sink.is in
    let mark_is = ap (mark_of m.set m.state) c.port_number-p.ensures.value in
    let done_is : c.port.inside.done ≡ l.done = ap (λ (port : Port). port.local.done) c.port.view_is in
    let head : c.sink_head.result ≡ sink_head place (mark_of m.set m.state p) l.done = c.sink_head.ensures ∙ ap₂ (sink_head place) mark_is done_is in
    let got_is : c.deref.result.now ≡ l.got = c.deref.ensures.value ∙ ap (λ (port : Port). port.local.got) c.port.view_is in
    let begun = one_more _ _ _ _ _ _ _ (nothing_yet _ _) (sink_is m.set m.state p place l local) _ (same_text _ _ _ _ _ head c.in_ok-put_line-in-Sink.ensures) in
    last_part _ _ _ _ _ _ _ begun refl (same_text _ _ _ _ _ (ap word_lines got_is) c.put_words.ensures)
