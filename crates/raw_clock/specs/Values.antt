-- How many values are sent on each wire.
use Rattle.std.specs.Prelude.{◌≡◌, ℕ, ◌+◌, ◌<◌, ◌≤◌, List, length, slice_index}
use Rattle.raw_network.specs.Network.{Sent}
use Rattle.raw_network.specs.Runs.{sent_on}
use Rattle.raw_grid.specs.Wires.{wires_of}
use Rattle.raw_model.specs.Program.{ProgramSet}
use Rattle.raw_model.specs.Start.{start}
use Rattle.raw_model.specs.Rest.{passed_on}
use Rattle.raw_clock.specs.Clock.{first_clock, steps_of}

-- these are how many values the turns have sent on each wire
pub record HaveSent (set : ProgramSet) (turns passed : List ℕ) : Type 0 where
  pub each : length passed ≡ length (wires_of set.topo)
  pub sent : (w : ℕ) → w < length (wires_of set.topo) →
      slice_index passed w ≡ length (passed_on set (start set) (steps_of set (first_clock set) turns) w)

-- each of these values was counted on its wire, and nothing else
pub record AreCounted (sent : List Sent) (before after : List ℕ) : Type 0 where
  pub each : length after ≡ length before
  pub more : (w : ℕ) → w < length before → slice_index after w ≡ slice_index before w + length (sent_on w sent)

-- no count is more than so many higher
abbrev pub AreFewMore : ℕ → List ℕ → List ℕ → Type 0
AreFewMore few before after = (w : ℕ) → slice_index after w ≤ slice_index before w + few

-- a number for each wire of the set, each of them below a limit
pub record NumbersStand (set : ProgramSet) (limit : ℕ) (passed : List ℕ) : Type 0 where
  pub each : length passed ≡ length (wires_of set.topo)
  pub room : (w : ℕ) → slice_index passed w < limit
