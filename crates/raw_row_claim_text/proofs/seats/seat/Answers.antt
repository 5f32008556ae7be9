use Rattle.std.proofs.Common.{◌≡◌, ◌∙◌, map, ap, subst}
use Rattle.raw_grid.specs.Topology.{Topology}
use Rattle.raw_model.specs.Program.{ProgramSet, IsSet}
use Rattle.raw_stream.specs.Streams.{Stream}
use Rattle.raw_row_terms.specs.Seated.{reseated, reseated_out, seated}
use Rattle.raw_row_claim_text.specs.Seats.{IsSeatedAs}
use Rattle.raw_row_claim_text.proofs.Seating.{seated_so, made_so}
use Rattle.raw_row_claim_text.proofs.Claims.{claim_so}
use Rattle.raw_row_claim_text.proofs.seats.seat.Goals as goal
use Rattle.raw_row_claim_text.proofs.seats.seat.Goals.{After-drop-seats-2}

-- the stream that is made, by its parts
abbrev new_stream : After-drop-seats-2 → Stream
new_stream c = record {
  cols = c.stream.inside.cols;
  rows = c.stream.inside.rows;
  count = c.stream.inside.count;
  sources = c.in_ok-places_of.field-0.items;
  sinks = c.in_ok-places_of-2.field-0.items;
  nodes = c.in_ok-reseated_nodes.field-0.items;
  outs = c.in_ok-reseated_outs.field-0.items;
}

is_seated : (c : After-drop-seats-2) → IsSeatedAs c.args.set.now.topo c.args.stream.now (new_stream c) c.in_ok-order.order.items
is_seated c =
    let set : ProgramSet = c.args.set.now in
    let s : Stream = c.args.stream.now in
    let topo : c.set.inside.topo ≡ set.topo = cc (ap (λ (g : ProgramSet). g.topo) c.set.view_is) in
    let sources : c.stream.inside.sources.items ≡ s.sources = cc (ap (λ (x : Stream). x.sources) c.stream.view_is) in
    let sinks : c.stream.inside.sinks.items ≡ s.sinks = cc (ap (λ (x : Stream). x.sinks) c.stream.view_is) in
    let nodes : c.stream.inside.nodes.items ≡ s.nodes = cc (ap (λ (x : Stream). x.nodes) c.stream.view_is) in
    let outs : c.stream.inside.outs.items ≡ s.outs = cc (ap (λ (x : Stream). x.outs) c.stream.view_is) in
    let cols : c.stream.inside.cols ≡ s.cols = cc (ap (λ (x : Stream). x.cols) c.stream.view_is) in
    let rows : c.stream.inside.rows ≡ s.rows = cc (ap (λ (x : Stream). x.rows) c.stream.view_is) in
    let count : c.stream.inside.count ≡ s.count = cc (ap (λ (x : Stream). x.count) c.stream.view_is) in
    let seats = c.in_ok-seats.seats.items in
    let order = c.in_ok-order.order.items in
    seated_so set s c.set.inside.topo c.deref.result.now c.deref-2.result.now seats order (new_stream c) topo (c.deref.ensures.value ∙ sources) (c.deref-2.ensures.value ∙ sinks) c.requires.stream
    c.in_ok-seats.ensures c.in_ok-order.ensures
    (made_so set.topo seats order s cols rows count (c.in_ok-places_of.ensures ∙ ap (λ (t : Topology). t.places) topo) (c.in_ok-places_of-2.ensures ∙ ap (λ (t : Topology). t.places) topo)
    (c.in_ok-reseated_nodes.ensures ∙ ap (λ ns. map (reseated ns) c.deref-3.result.now) c.deref-4.ensures.value ∙ ap (map (reseated seats)) (c.deref-3.ensures.value ∙ nodes))
    (c.in_ok-reseated_outs.ensures ∙ ap (λ ns. map (reseated_out ns) c.deref-5.result.now) c.deref-6.ensures.value ∙ ap (map (reseated_out order)) (c.deref-5.ensures.value ∙ outs)))

pub returns-clause-seated : goal.returns-clause-seated
returns-clause-seated c = is_seated c

pub returns-clause-claim : goal.returns-clause-claim
returns-clause-claim c =
    claim_so c.law_seated.ensures c.args.set.now c.args.stream.now (new_stream c) c.in_ok-order.order.items (subst IsSet c.set.view_is c.set.invariant) c.requires.stream (is_seated c)
