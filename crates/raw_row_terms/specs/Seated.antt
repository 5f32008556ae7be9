-- A stream with the ports of a set: its sources and sinks have the numbers of the ports at their places.
use Rattle.std.specs.Prelude.{◌≡◌, ℕ, ◌<◌, List, length, map, slice_get, slice_index}
use Rattle.std.specs.List.{All}
use Rattle.raw_grid.specs.declared.parts.PortPlace.{PortPlace}
use Rattle.raw_grid.specs.Topology.{Topology}
use Rattle.raw_stream.specs.declared.out.StreamOut.{StreamOut}
use Rattle.raw_stream.specs.declared.row_node.RowNode.{RowNode}
use Rattle.raw_stream.specs.declared.row_node.RowNode.TheVariants.{Input, Const, Apply, Pre}
use Rattle.raw_stream.specs.Streams.{Stream, AreNamed, rows_of}
use Rattle.raw_stream.specs.Unrolled.{all_due}
use Rattle.raw_row_terms.specs.RowClaims.{due_in, AreSinksOf}

-- these ports stand at these places, one by one, and no two are one
pub record AreSeats (topo : Topology) (places : List PortPlace) (seats : List ℕ) : Type 0 where
  pub each : length seats ≡ length places
  pub within : All (λ p. p < length topo.places) seats
  pub there : (q : ℕ) → q < length places → slice_get topo.places (slice_index seats q) ≡ slice_get places q
  pub apart : (q r : ℕ) → q < length places → r < length places → slice_index seats q ≡ slice_index seats r → q ≡ r

abbrev pub reseated : List ℕ → RowNode → RowNode
reseated seats (Input q) = Input (slice_index seats q)
reseated seats (Const word) = Const word
reseated seats (Apply op a b) = Apply op a b
reseated seats (Pre a word) = Pre a word

abbrev pub reseated_out : List ℕ → StreamOut → StreamOut
reseated_out seats out = record { port = slice_index seats out.port; node = out.node }

abbrev pub seated : Topology → List ℕ → List ℕ → Stream → Stream
seated topo sources sinks s =
    record s { sources = topo.places; sinks = topo.places; nodes = map (reseated sources) s.nodes; outs = map (reseated_out sinks) s.outs }

-- its rows have the same values, and its sinks, in the order of the stream, are due the same
pub record IsSeated (topo : Topology) (sources sinks : List ℕ) (s : Stream) : Type 0 where
  pub named : AreNamed (seated topo sources sinks s)
  pub ports : AreSinksOf (seated topo sources sinks s) sinks
  pub rows : (carried : List ℕ) (words : List (List ℕ)) → rows_of (seated topo sources sinks s) carried words ≡ rows_of s carried words
  pub due : (values : List (List ℕ)) → due_in (seated topo sources sinks s) sinks values ≡ all_due s values

abbrev pub EachIsSeated : Type 0
EachIsSeated =
    (topo : Topology) (sources sinks : List ℕ) (s : Stream) → AreNamed s → AreSeats topo s.sources sources → AreSeats topo s.sinks sinks
    → IsSeated topo sources sinks s
