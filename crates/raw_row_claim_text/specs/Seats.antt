-- The ports of a set at places, and a stream with the numbers of these ports.
use Rattle.std.specs.Prelude.{◌≡◌, ℕ, ◌<◌, List, length, slice_get, slice_index}
use Rattle.raw_grid.specs.declared.parts.PortPlace.{PortPlace}
use Rattle.raw_grid.specs.Topology.{Topology}
use Rattle.raw_stream.specs.Streams.{Stream}
use Rattle.raw_row_terms.specs.Seated.{AreSeats, seated}

-- these ports stand at the first of these places, so many of them, one by one
pub record AreSeatsUpTo (topo : Topology) (places : List PortPlace) (n : ℕ) (seats : List ℕ) : Type 0 where
  pub each : length seats ≡ n
  pub there : (q : ℕ) → q < n → slice_get topo.places (slice_index seats q) ≡ slice_get places q

-- a stream as it is with the ports of a set: its sources and sinks have the numbers of those at their places, and these are the
-- numbers of its sinks, in their order
pub record IsSeatedAs (topo : Topology) (s there : Stream) (order : List ℕ) : Type 0 where
  pub seats : List ℕ
  pub sources : AreSeats topo s.sources seats
  pub sinks : AreSeats topo s.sinks order
  pub is : there ≡ seated topo seats order s
