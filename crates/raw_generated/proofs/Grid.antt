-- The grid with its two ports.
use Rattle.std.proofs.Common.{◌≢◌, [], ◌∷◌, ap, arith}
use Rattle.std.specs.List.{AllPairs}
use Rattle.std.proofs.lemmas.List.Elements.{All-nil, All-cons}
use Rattle.std.proofs.lemmas.List.Kept.{AllPairs-cons}
use Rattle.raw_grid.specs.declared.parts.PortPlace.{PortPlace}
use Rattle.raw_grid.specs.Topology.{IsAtEdge, IsTopology}
use Rattle.raw_generated.specs.Generated.{source_place, sink_place, grid}

source_at_edge : IsAtEdge grid source_place
source_at_edge = record { column = omega arith; row = omega arith; edge = search }

sink_at_edge : IsAtEdge grid sink_place
sink_at_edge = record { column = omega arith; row = omega arith; edge = search }

differ : source_place ≢ sink_place
differ e = omega (arith, ap (λ (p : PortPlace). p.y) e)

abbrev Differ : PortPlace → PortPlace → Type 0
Differ a b = a ≢ b

none_pairs : AllPairs Differ []
none_pairs i j d h k = absurd (omega arith)

pub grid_lawful : IsTopology grid
grid_lawful = record {
  size = record { some_cols = omega arith; most_cols = omega arith; some_rows = omega arith; most_rows = omega arith };
  at_edges = All-cons (IsAtEdge grid) source_place (sink_place ∷ []) source_at_edge (All-cons (IsAtEdge grid) sink_place [] sink_at_edge (All-nil (IsAtEdge grid)));
  distinct =
      AllPairs-cons Differ source_place (sink_place ∷ []) (All-cons (Differ source_place) sink_place [] differ (All-nil (Differ source_place)))
      (AllPairs-cons Differ sink_place [] (All-nil (Differ sink_place)) none_pairs);
}
