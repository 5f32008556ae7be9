-- What is counted of the cycles of a set, where the turns that processors have are counted once they have others.
use Rattle.std.specs.Prelude.{◌≡◌, ℕ, ◌^◌, ◌<◌, ◌≤◌, length, slice_get, slice_index, Some}
use Rattle.raw_grid.specs.Topology.{proc_count}
use Rattle.raw_model.specs.Program.{ProgramSet}
use Rattle.raw_serial.specs.declared.turn.Turn.{Turn}
use Rattle.raw_clock.specs.declared.account.Account.{Account}
use Rattle.raw_clock.specs.Clock.{clock, turn_in}
use Rattle.raw_clock.specs.Tally.{IsTallyBy}

-- an account of the first n cycles: each processor has had its turn from some cycle on, and the cycles before that are counted
pub record IsAccount (set : ProgramSet) (n : ℕ) (a : Account) : Type 0 where
  pub each : length a.turns.items ≡ proc_count set.topo
  pub each_since : length a.since.items ≡ proc_count set.topo
  pub before : (p : ℕ) → slice_index a.since.items p ≤ n
  pub steady : (p k : ℕ) (turn : Turn) → slice_get a.turns.items p ≡ Some turn → slice_index a.since.items p ≤ k → k < n →
      turn_in set (clock set k) p ≡ turn
  pub counted : IsTallyBy set (λ p. slice_index a.since.items p) a.tally

-- an account of so few cycles that a further one may be noted
pub record AccountStands (set : ProgramSet) (n : ℕ) (a : Account) : Type 0 where
  pub few : n < 2 ^ 62
  pub account : IsAccount set n a
