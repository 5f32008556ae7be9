-- Sets for a stream: those with its grid, its ports and its words, whatever their programs are.
use Rattle.std.specs.Prelude.{◌≡◌, ℕ, ◌*◌, ◌≤◌, List, [], ◌++◌, length, map, take, drop, sum_by, All}
use Rattle.std.specs.List.{range_with_len}
use Rattle.raw_grid.specs.Topology.{Topology}
use Rattle.raw_model.specs.declared.limits.TheConstants.{DEFAULT_DEPTH, MAX_ALL_WORDS, MAX_ALL_CAPACITIES}
use Rattle.raw_model.specs.Program.{ProgramSet, TileProgram, PortProgram, IsPortProgram, AreOfKinds}
use Rattle.raw_model.specs.Bounds.{all_words}
use Rattle.raw_model.specs.Fed.{fed}
use Rattle.raw_stream.specs.Streams.{Stream}
use Rattle.raw_stream.specs.Unrolled.{width, first, word_count}
use Rattle.raw_stream.specs.Kept.{due_count}

-- the sources come first, by their numbers, and then the sinks, by theirs
abbrev pub stream_topo : Stream → Topology
stream_topo s = record { cols = s.cols; rows = s.rows; places = s.sources ++ s.sinks }

-- the set with the grid of a stream that has these ports, this limit and these programs
abbrev pub set_with : Stream → List PortProgram → ℕ → List TileProgram → ProgramSet
set_with s ports limit tiles = record {
  topo = stream_topo s;
  limit = limit;
  depth = DEFAULT_DEPTH;
  ports = ports;
  tiles = tiles;
  shows = [];
}

-- a set is one with the grid of a stream and these ports, whatever its programs are
abbrev pub IsSetWith : Stream → List PortProgram → ProgramSet → Type 0
IsSetWith s ports set = set ≡ set_with s ports set.limit set.tiles

-- ports keep all that those of a set with the grid of a stream keep
pub record ArePortsFor (s : Stream) (ports : List PortProgram) : Type 0 where
  pub each : length ports ≡ length (s.sources ++ s.sinks)
  pub programs : All IsPortProgram ports
  pub kinds : AreOfKinds (s.sources ++ s.sinks) ports
  pub words : sum_by (λ (port : PortProgram). length port.words) ports ≤ MAX_ALL_WORDS
  pub room : sum_by (λ (port : PortProgram). port.capacity) ports ≤ MAX_ALL_CAPACITIES

-- a source has the words that all rows take of it, where these are the words of all sources, one source behind the other
abbrev pub source_words : Stream → List ℕ → ℕ → List ℕ
source_words s words q = take (s.count * width s q) (drop (first s q) words)

abbrev pub source_program : Stream → List ℕ → ℕ → PortProgram
source_program s words q = record { words = source_words s words q; capacity = 0 }

-- a sink has room for what it is due of all rows
abbrev pub sink_program : Stream → ℕ → PortProgram
sink_program s q = record { words = []; capacity = due_count s q }

abbrev pub stream_port_programs : Stream → List ℕ → List PortProgram
stream_port_programs s words = map (source_program s words) (range_with_len 0 (length s.sources)) ++ map (sink_program s) (range_with_len 0 (length s.sinks))

-- the set for a stream with these words that has this limit and these programs
abbrev pub stream_set : Stream → List ℕ → ℕ → List TileProgram → ProgramSet
stream_set s words limit tiles = set_with s (stream_port_programs s words) limit tiles

-- a set is one for a stream whose sources have these words
abbrev pub IsSetForStream : Stream → List ℕ → ProgramSet → Type 0
IsSetForStream s words set = IsSetWith s (stream_port_programs s words) set

-- the words of its sources are those of the stream
pub record HasItsWords (s : Stream) (words : List ℕ) (set : ProgramSet) : Type 0 where
  pub own : fed set words ≡ set
  pub each : length words ≡ all_words set

abbrev pub EachHasItsWords : Type 0
EachHasItsWords = (s : Stream) (words : List ℕ) (set : ProgramSet) → length words ≡ word_count s → IsSetForStream s words set → HasItsWords s words set
