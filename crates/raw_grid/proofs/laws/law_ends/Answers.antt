use Rattle.raw_grid.proofs.EndLaws.{to_tile_one, to_tile_two, from_tile_one, from_tile_two, neighbours_linked, source_joined, sink_joined}
use Rattle.raw_grid.proofs.NoWire.{tile_input, tile_output, port_input, port_output, no_source, no_sink}
use Rattle.raw_grid.proofs.laws.law_ends.Goals as goal

pub returns : goal.returns
returns c = record {
  to_tile_one = to_tile_one;
  to_tile_two = to_tile_two;
  from_tile_one = from_tile_one;
  from_tile_two = from_tile_two;
  tile_input = tile_input;
  tile_output = tile_output;
  link = neighbours_linked;
  source = source_joined;
  sink = sink_joined;
  port_input = λ t k place i w h is. port_input t k place is i w h;
  port_output = λ t k place i w h is. port_output t k place is i w h;
  no_source = λ t net side x y h column row edge. no_source t net side x y column row edge h;
  no_sink = λ t net side x y h column row edge. no_sink t net side x y column row edge h;
}
