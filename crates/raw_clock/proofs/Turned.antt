-- A processor that was given its turn in a cycle, and the turns that are noted.
use Rattle.std.proofs.Common.{◌≡◌, ◌≢◌, ℕ, ◌<◌, Bool, List, Some}
use Rattle.std.specs.Prelude.{slice_get}
use Rattle.raw_grid.specs.Topology.{tile_count}
use Rattle.raw_serial.specs.declared.turn.Turn.{Turn}
use Rattle.raw_serial.specs.declared.turn.Turn.TheVariants.{Fired, Stalled}
use Rattle.raw_serial.specs.Running.{Running, IsTurnOf, turn_of}
use Rattle.raw_clock.specs.declared.account.Account.{Account}
use Rattle.raw_clock.specs.Clock.{goes}
use Rattle.raw_clock.specs.Engine.{AreSent, Took}
use Rattle.raw_clock.specs.Values.{AreFewMore}
use Rattle.raw_clock.specs.Account.{IsAccount}

-- a turn that was given is one that goes on, or nothing was done
pub took_by : (m n : Running) (p : ℕ) (turn : Turn) (before after : List ℕ) → IsTurnOf m n p turn
    → AreSent turn m p before after → Took (goes turn) m n p before after
took_by m n p Fired before after is sent = (Fired, is, sent)
took_by m n p Stalled before after is sent = (Stalled, is, sent)
took_by m n p _ before after is sent = (is.after, sent)

-- In a cycle that began with the machine m0, processor p was given its turn by the machine m, where that goes on, and the turn
-- is noted; those of later tiles stay.
pub record IsTurned (m0 m : Running) (cycles p : ℕ) (turns : List Turn) (before : List ℕ) (b : Bool) (n : Running) (a : Account) (after : List ℕ) : Type 0 where
  pub goes_on : b ≡ goes (turn_of m0 p)
  pub took : Took b m n p before after
  pub later : (q : ℕ) → p < q → q < tile_count m0.set.topo → turn_of n q ≡ turn_of m q
  pub account : IsAccount m0.set cycles a
  pub turn : slice_get a.turns.items p ≡ Some (turn_of m0 p)
  pub others : (q : ℕ) → q ≢ p → slice_get a.turns.items q ≡ slice_get turns q
  pub few : AreFewMore 10 before after
