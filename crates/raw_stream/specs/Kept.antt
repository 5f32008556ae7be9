-- What each stream keeps.
use Rattle.std.specs.Prelude.{◌≢◌, ◌≡◌, ℕ, Bool, ◌||◌, ◌==◌, ◌*◌, ◌<◌, ◌≤◌, nat_lt, List, length, sum_by, All, AllPairs, if◌then◌else◌}
use Rattle.std.specs.List.{list_any, range_with_len}
use Rattle.raw_grid.specs.declared.parts.PortKind.{PortKind}
use Rattle.raw_grid.specs.declared.parts.PortKind.TheVariants.{Source, Sink}
use Rattle.raw_grid.specs.declared.parts.PortPlace.{PortPlace}
use Rattle.raw_grid.specs.Topology.{Topology, IsSize, IsAtEdge, without_ports}
use Rattle.raw_model.specs.declared.limits.TheConstants.{MAX_ALL_WORDS, MAX_CAPACITY, MAX_ALL_CAPACITIES}
use Rattle.raw_flow.specs.declared.limits.TheConstants.{MAX_NODES}
use Rattle.raw_stream.specs.declared.limits.TheConstants.{MAX_ROWS}
use Rattle.raw_stream.specs.declared.out.StreamOut.{StreamOut}
use Rattle.raw_stream.specs.Streams.{Stream, AreNamed, due_at}
use Rattle.raw_stream.specs.Unrolled.{word_count}

-- ports of this kind stand at edges of the grid, each at one of its own
pub record ArePlaced (topo : Topology) (kind : PortKind) (places : List PortPlace) : Type 0 where
  pub kinds : All (λ (place : PortPlace). place.kind ≡ kind) places
  pub at_edges : All (IsAtEdge topo) places
  pub distinct : AllPairs (λ (a : PortPlace) b. a ≢ b) places

-- how many values an out gives to sink q
abbrev pub gives : ℕ → StreamOut → ℕ
gives q out = if out.port == q then 1 else 0

-- how many values sink q gets of all rows, and how many all sinks get
abbrev pub due_count : Stream → ℕ → ℕ
due_count s q = s.count * length (due_at s q)

abbrev pub all_due_count : Stream → ℕ
all_due_count s = sum_by (due_count s) (range_with_len 0 (length s.sinks))

-- one sink gets more than it may have room for
abbrev pub has_full_sink : Stream → Bool
has_full_sink s = list_any (λ q. nat_lt MAX_CAPACITY (due_count s q)) (range_with_len 0 (length s.sinks))

-- there are too many nodes, too many words of all sources, or too many for one sink or for all
abbrev pub is_large : Stream → Bool
is_large s =
    nat_lt MAX_NODES (length s.nodes) || (nat_lt MAX_ALL_WORDS (word_count s) || (has_full_sink s || nat_lt MAX_ALL_CAPACITIES (all_due_count s)))

-- The nodes and outs name what there is, and all numbers are within the limits of streams and of sets.
pub record IsStream (s : Stream) : Type 0 where
  pub size : IsSize s.cols s.rows
  pub some_rows : 1 ≤ s.count
  pub most_rows : s.count ≤ MAX_ROWS
  pub sources : ArePlaced (without_ports s.cols s.rows) Source s.sources
  pub sinks : ArePlaced (without_ports s.cols s.rows) Sink s.sinks
  pub named : AreNamed s
  pub some_out : 1 ≤ length s.outs
  pub few_nodes : length s.nodes ≤ MAX_NODES
  pub few_words : word_count s ≤ MAX_ALL_WORDS
  pub few_due : (q : ℕ) → q < length s.sinks → due_count s q ≤ MAX_CAPACITY
  pub few_due_in_all : all_due_count s ≤ MAX_ALL_CAPACITIES
