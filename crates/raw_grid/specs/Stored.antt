-- How a topology is kept in memory.
use Rattle.std.specs.Prelude.{◌≡◌, ℕ, ◌+◌, ◌≤◌, List, length}
use Rattle.raw_grid.specs.declared.limits.TheConstants.{MAX_PORTS}
use Rattle.raw_grid.specs.Topology.{Topology, IsTopology}
use Rattle.raw_grid.specs.Wires.{Wire, wires_of}

-- a topology with the capacity of its list of ports, the list of its wires, and the capacity of that:
-- there is room for each port that can still be added, and for its wire
pub record IsStored (t : Topology) (port_capacity : ℕ) (wires : List Wire) (wire_capacity : ℕ) : Type 0 where
  pub valid : IsTopology t
  pub room : port_capacity ≡ MAX_PORTS
  pub wires_are : wires ≡ wires_of t
  pub wire_room : length wires + MAX_PORTS ≤ wire_capacity + length t.places
