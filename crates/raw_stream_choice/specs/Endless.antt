-- What may be written for a stream whose rows have no end.
use Rattle.std.specs.Prelude.{ℕ, ◌*◌, ◌/◌, ◌<◌, ◌≤◌, List, [], ◌++◌, length, map, min, All}
use Rattle.raw_grid.specs.declared.parts.PortKind.{PortKind}
use Rattle.raw_grid.specs.declared.parts.PortKind.TheVariants.{Source, Sink}
use Rattle.raw_grid.specs.declared.parts.PortPlace.{PortPlace}
use Rattle.raw_model.specs.declared.limits.TheConstants.{MAX_CAPACITY, MAX_ALL_CAPACITIES}
use Rattle.raw_model.specs.Program.{ProgramSet, PortProgram, IsSet}
use Rattle.raw_stream.specs.Streams.{Stream}
use Rattle.raw_cut.specs.declared.extent.Extent.{Extent}
use Rattle.raw_cut.specs.Live.{IsMetFrom}
use Rattle.raw_stream_choice.specs.StreamSets.{IsSetWith}
use Rattle.raw_stream_choice.specs.PortNumbers.{numbered}

-- the greatest room that each of so many sinks may have in a set
abbrev pub room_among : ℕ → ℕ
room_among sinks = min MAX_CAPACITY (MAX_ALL_CAPACITIES / sinks)

-- only a sink has room
abbrev pub room_at : ℕ → PortKind → ℕ
room_at room Source = 0
room_at room Sink = room

-- the ports of a set that is to be fed: no source has words, and each sink has as much room as it may have
abbrev pub endless_port : ℕ → PortPlace → PortProgram
endless_port room place = record { words = []; capacity = room_at room place.kind }

abbrev pub endless_ports : Stream → List PortProgram
endless_ports s = map (endless_port (room_among (length s.sinks))) (s.sources ++ s.sinks)

-- the numbers of rows for which a set is proved go up to more than twice a number that is no less than the least of them, nor than the number of
-- words that a port may lack
pub record IsLong (extent : Extent) : Type 0 where
  pub delay : ℕ
  pub least : extent.least ≤ delay
  pub lacks : All (λ lack. lack ≤ delay) extent.lacks.items
  pub most : 2 * delay < extent.most

-- A set meets a stream whose ports have the numbers of its own, for all numbers of rows from one on up to more than twice as many: fed with so many
-- rows of any words, some list of its steps comes to rest, and each that does leaves in each sink what it is due of them, in order, but for the last
-- words, no more than the least of these numbers. So each sink gets more than half of what it is due of the most rows.
pub record MeetsNumbersOfRows (s : Stream) (set : ProgramSet) : Type 0 where
  pub least : ℕ
  pub most : ℕ
  pub lacks : List ℕ
  pub many : 2 * least < most
  pub few : All (λ lack. lack ≤ least) lacks
  pub met : IsMetFrom set (numbered s) least most lacks

-- a set that has the grid and the ports of a stream, to be fed with rows, whatever its programs are, and that meets it
pub record IsEndlessChoice (s : Stream) (set : ProgramSet) : Type 0 where
  pub valid : IsSet set
  pub same : IsSetWith s (endless_ports s) set
  pub meets : MeetsNumbersOfRows s set
