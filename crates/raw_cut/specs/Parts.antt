-- The parts of a check: ports with numbers of terms as their words, and what rows leave.
use Rattle.std.specs.Prelude.{◌≡◌, ℕ, ◌+◌, ◌≤◌, List, ◌++◌, length, map, slice_get, Option, Some, None, sum_by}
use Rattle.std.specs.List.{All, range_with_len}
use Rattle.raw_grid.specs.declared.parts.PortKind.{PortKind}
use Rattle.raw_grid.specs.declared.parts.PortKind.TheVariants as kind
use Rattle.raw_grid.specs.declared.parts.PortPlace.{PortPlace}
use Rattle.raw_grid.specs.Topology.{Topology}
use Rattle.raw_model.specs.declared.limits.TheConstants.{MAX_STEPS, MAX_ALL_WORDS, MAX_ALL_CAPACITIES}
use Rattle.raw_model.specs.Program.{ProgramSet, PortProgram, IsPortProgram, AreOfKinds}
use Rattle.raw_model.specs.Local.{Local, Tile, Switch, Source, Sink}
use Rattle.raw_stream.specs.declared.row_node.RowNode.{RowNode}
use Rattle.raw_stream.specs.declared.row_node.RowNode.TheVariants.{Pre}
use Rattle.raw_stream.specs.Streams.{Stream}
use Rattle.raw_row_terms.specs.RowTerms.{RowTerms}
use Rattle.raw_term.specs.TermMachine.{TermState}
use Rattle.raw_rows.specs.Kernels.{Cut, room_for}
use Rattle.raw_rows.specs.Given.{given_by}

-- how many places more than it needs a port has: only a sink has some
abbrev pub spare_for : ℕ → PortKind → ℕ
spare_for spare kind.Source = 0
spare_for spare kind.Sink = spare

abbrev pub spare_of : ℕ → Option PortPlace → ℕ
spare_of spare None = 0
spare_of spare (Some place) = spare_for spare place.kind

abbrev pub spare_at : Topology → ℕ → ℕ → ℕ
spare_at topo spare q = spare_of spare (slice_get topo.places q)

-- a port with the words that it gives of these rows, room for what it gets of them, and some places more
abbrev pub port_with : Topology → Stream → List (List ℕ) → ℕ → ℕ → PortProgram
port_with topo s rows spare q = record { words = given_by s q rows; capacity = room_for s q rows + spare_at topo spare q }

abbrev pub ports_with : Topology → Stream → ℕ → List (List ℕ) → ℕ → List PortProgram
ports_with topo s many rows spare = map (port_with topo s rows spare) (range_with_len 0 many)

-- these ports may stand in the place of those of the set, with this limit
pub record AreFit (set : ProgramSet) (limit : ℕ) (ports : List PortProgram) : Type 0 where
  pub some_steps : 1 ≤ limit
  pub few_steps : limit ≤ MAX_STEPS
  pub each : length ports ≡ length set.ports
  pub programs : All IsPortProgram ports
  pub kinds : AreOfKinds set.topo.places ports
  pub words : sum_by (λ (port : PortProgram). length port.words) ports ≤ MAX_ALL_WORDS
  pub capacities : sum_by (λ (port : PortProgram). port.capacity) ports ≤ MAX_ALL_CAPACITIES

-- a set with another limit and other ports
abbrev pub with_ports : ProgramSet → ℕ → List PortProgram → ProgramSet
with_ports set limit ports = record set { limit = limit; ports = ports }

-- whether a node takes what is carried, as a number
abbrev pub carried_by : RowNode → ℕ
carried_by (Pre a word) = 1
carried_by _ = 0

-- rows before others
abbrev pub behind : List (List ℕ) → RowTerms → RowTerms
behind values r = record { nodes = r.nodes; carried = r.carried; values = values ++ r.values }

-- a local state whose processor has counted nothing
abbrev pub uncounted : Local → Local
uncounted (Tile l) = Tile (record l { count = 0 })
uncounted (Switch l) = Switch (record l { count = 0 })
uncounted (Source l) = Source l
uncounted (Sink l) = Sink l

-- the cut at which a state stands
abbrev pub standing : ℕ → TermState → Cut
standing window s = record { window = window; at = record { nodes = s.nodes; state = record { locals = map uncounted s.state.locals; wires = s.state.wires } } }
