-- Two sets of which the second gives its sources more words: what a list of steps that the first may take does in both.
use Rattle.std.specs.Prelude.{◌≡◌, ℕ, Some, List, [], ◌∷◌, ◌++◌, length, slice_get, set, get_or, option_map}
use Rattle.raw_grid.specs.declared.parts.PortKind.TheVariants.{Source}
use Rattle.raw_network.specs.Laws.{IsPrefix}
use Rattle.raw_model.specs.Program.{ProgramSet, PortProgram}
use Rattle.raw_model.specs.Start.{MachineState}
use Rattle.raw_model.specs.Rest.{IsLawfulFrom, end_from, event, passed_on}
use Rattle.raw_model.specs.Cache.{touches_of}

-- a port is given the same words, and perhaps more behind them
pub record HasMoreWords (few more : PortProgram) : Type 0 where
  pub capacity : few.capacity ≡ more.capacity
  pub words : IsPrefix few.words more.words

-- two sets are equal but for the words of their ports, of which the second has the same and perhaps more
pub record AreAlikeButMoreWords (few more : ProgramSet) : Type 0 where
  pub rest : record few { ports = more.ports } ≡ more
  pub many : length few.ports ≡ length more.ports
  pub each : (i : ℕ) (f m : PortProgram) → slice_get few.ports i ≡ Some f → slice_get more.ports i ≡ Some m → HasMoreWords f m

-- port number i is a source
abbrev pub IsSourceOf : ProgramSet → ℕ → Type 0
IsSourceOf set i = option_map (λ place. place.kind) (slice_get set.topo.places i) ≡ Some Source

-- a port with one word more behind its words
abbrev pub port_with_word : PortProgram → ℕ → PortProgram
port_with_word port word = record port { words = port.words ++ word ∷ [] }

-- the set in which port number i has one word more
abbrev pub with_word : ProgramSet → ℕ → ℕ → ProgramSet
with_word programs i word =
    record programs { ports = set programs.ports i (port_with_word (get_or programs.ports i (record { words = []; capacity = 0 })) word) }

-- a list of steps that is lawful with fewer words is lawful with more, and does the same
pub record RunsOn (few more : ProgramSet) (s : MachineState) (steps : List ℕ) : Type 0 where
  pub lawful : IsLawfulFrom more s steps
  pub same_end : end_from more s steps ≡ end_from few s steps
  pub same_events : (i : ℕ) → event more s steps i ≡ event few s steps i
  pub same_passed : (wire : ℕ) → passed_on more s steps wire ≡ passed_on few s steps wire
  pub same_touches : (tile : ℕ) → touches_of more s steps tile ≡ touches_of few s steps tile
