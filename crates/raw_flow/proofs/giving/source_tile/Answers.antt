use Rattle.std.proofs.Common.{◌<◌, sym, subst}
use Rattle.std.specs.Prelude.{slice_index}
use Rattle.raw_grid.specs.declared.parts.PortPlace.{PortPlace}
use Rattle.raw_flow.specs.Ports.{source_place}
use Rattle.raw_flow.proofs.Homes.{source_edge}
use Rattle.raw_flow.proofs.giving.source_tile.Goals as goal

pub tile_at-requires-clause-column : goal.tile_at-requires-clause-column
tile_at-requires-clause-column c =
    let flow = c.args.flow.now in
    let ports = c.args.ports.now in
    subst (λ (place : PortPlace). place.x < flow.cols) (sym c.source_of.ensures)
    (source_edge flow ports c.requires.ports (slice_index ports.comes c.args.k) source_place (c.requires.ports.comes c.args.k c.requires.input)).column

pub tile_at-requires-clause-row : goal.tile_at-requires-clause-row
tile_at-requires-clause-row c =
    let flow = c.args.flow.now in
    let ports = c.args.ports.now in
    subst (λ (place : PortPlace). place.y < flow.rows) (sym c.source_of.ensures)
    (source_edge flow ports c.requires.ports (slice_index ports.comes c.args.k) source_place (c.requires.ports.comes c.args.k c.requires.input)).row
