use Rattle.std.proofs.Common.{◌<◌, sym, subst}
use Rattle.std.specs.Prelude.{slice_index}
use Rattle.raw_grid.specs.declared.parts.PortPlace.{PortPlace}
use Rattle.raw_flow.specs.Ports.{sink_place}
use Rattle.raw_flow.proofs.Homes.{sink_edge}
use Rattle.raw_flow.proofs.giving.sink_tile.Goals as goal

pub tile_at-requires-clause-column : goal.tile_at-requires-clause-column
tile_at-requires-clause-column c =
    let flow = c.args.flow.now in
    let ports = c.args.ports.now in
    subst (λ (place : PortPlace). place.x < flow.cols) (sym c.sink_of.ensures)
    (sink_edge flow ports c.requires.ports (slice_index ports.goes c.args.i) sink_place (c.requires.ports.goes c.args.i c.requires.out)).column

pub tile_at-requires-clause-row : goal.tile_at-requires-clause-row
tile_at-requires-clause-row c =
    let flow = c.args.flow.now in
    let ports = c.args.ports.now in
    subst (λ (place : PortPlace). place.y < flow.rows) (sym c.sink_of.ensures)
    (sink_edge flow ports c.requires.ports (slice_index ports.goes c.args.i) sink_place (c.requires.ports.goes c.args.i c.requires.out)).row
