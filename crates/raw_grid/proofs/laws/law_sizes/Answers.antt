use Rattle.raw_grid.proofs.Edges.{ports_at_edges}
use Rattle.raw_grid.proofs.Growth.{tiles_few, procs_few}
use Rattle.raw_grid.proofs.laws.law_sizes.Goals as goal

pub returns : goal.returns
returns c = record {
  tiles = λ t h. tiles_few t.cols t.rows h.size;
  ports = ports_at_edges;
  procs = procs_few;
}
