-- What is claimed of the clock of a set.
use Rattle.std.specs.Prelude.{◌≡◌, ℕ, suc, ◌+◌, ◌<◌, ◌≤◌, Some, List, ◌++◌, sum_by, if◌then◌else◌}
use Rattle.raw_network.specs.Network.{count_of}
use Rattle.raw_network.specs.Runs.{end_of}
use Rattle.raw_grid.specs.declared.parts.ProcKind.{ProcKind}
use Rattle.raw_grid.specs.declared.parts.ProcKind.TheVariants.{Tile, Switch, Source, Sink}
use Rattle.raw_grid.specs.Topology.{tile_count, proc_count, kind_at}
use Rattle.raw_model.specs.Program.{ProgramSet}
use Rattle.raw_model.specs.Machine.{machine_of}
use Rattle.raw_model.specs.Start.{start}
use Rattle.raw_model.specs.Rest.{IsLawful, end}
use Rattle.raw_model.specs.Cache.{touches_of}
use Rattle.raw_model.specs.Waits.{inputs_at, outputs_at}
use Rattle.raw_lockstep.specs.Lockstep.{IsSchedule, first_rounds, IsReordered, DoesTheSame}
use Rattle.raw_lockstep.specs.Stalls.{touched_by, paid_by}
use Rattle.raw_clock.specs.Clock.{clocked, machine_at, first_clock, steps_of, clock_steps, clock, turn_in, is_fired, is_stalled, is_stop, is_starved, is_blocked, fired, IsOver, spent, waited}

-- The clock after k cycles, and one cycle more. The steps are lawful and lead to its state, and tiles have touched
-- what they touch in them. In the next cycle those step whose turn is a step, and those pay whose turn is a stall
-- turn.
pub record IsClockAt (set : ProgramSet) (k : ℕ) : Type 0 where
  pub lawful : IsLawful set (clock_steps set k)
  pub there : end set (clock_steps set k) ≡ machine_at (clock set k)
  pub touched : (p : ℕ) → touched_by (clock set k) p ≡ touches_of set (start set) (clock_steps set k) p
  pub cycle : clock_steps set (suc k) ≡ clock_steps set k ++ fired set (clock set k)
  pub paid : (p : ℕ) → p < proc_count set.topo →
      paid_by (clock set (suc k)) p ≡ paid_by (clock set k) p + (if is_stalled (turn_in set (clock set k) p) then 1 else 0)

-- the steps of a cycle may be taken in any order
abbrev pub CycleInAnyOrder : ProgramSet → ℕ → Type 0
CycleInAnyOrder set k =
    (other : List ℕ) → IsReordered (fired set (clock set k)) other →
    DoesTheSame (machine_of set) (machine_at (clock set k)) (fired set (clock set k)) other

-- a schedule of turns: rounds of steps and of stall turns
abbrev pub IsTurnSchedule : ProgramSet → List (List ℕ) → Type 0
IsTurnSchedule set rounds = IsSchedule (clocked set) (first_clock set) rounds

-- the clock after the first k rounds of a schedule of turns, and the steps among them
abbrev pub steps_by : ProgramSet → ℕ → List (List ℕ) → List ℕ
steps_by set k rounds = steps_of set (first_clock set) (first_rounds k rounds)

-- no schedule of turns is over in fewer than n rounds
abbrev pub NoneIsSooner : ProgramSet → ℕ → Type 0
NoneIsSooner set n =
    (rounds : List (List ℕ)) (k : ℕ) → IsTurnSchedule set rounds →
    IsOver set (end_of (clocked set) (first_clock set) (first_rounds k rounds)) → n ≤ k

-- The numbers in the line that a processor of this kind has in the text of the clock, summed up: a tile has all five; only a
-- tile pays stall turns, a source waits for no value, and a sink for no room.
abbrev pub line_sum : ProcKind → ProgramSet → ℕ → ℕ → ℕ
line_sum Tile set n p =
    spent set n p is_fired + spent set n p is_stalled + spent set n p (is_starved set p) + spent set n p (is_blocked set p)
    + spent set n p is_stop
line_sum Switch set n p =
    spent set n p is_fired + spent set n p (is_starved set p) + spent set n p (is_blocked set p) + spent set n p is_stop
line_sum Source set n p = spent set n p is_fired + spent set n p (is_blocked set p) + spent set n p is_stop
line_sum Sink set n p = spent set n p is_fired + spent set n p (is_starved set p) + spent set n p is_stop

-- Each of the first n cycles is spent once by processor p, as a step exactly where it takes one. Where it waits, it
-- does so for one of its inputs or one of its outputs. Only a tile pays stall turns, and the numbers of its line
-- add up to n.
pub record IsSpent (set : ProgramSet) (n p : ℕ) : Type 0 where
  pub once : spent set n p is_fired + spent set n p is_stalled + spent set n p is_stop
      + spent set n p (is_starved set p) + spent set n p (is_blocked set p) ≡ n
  pub steps : spent set n p is_fired ≡ count_of p (clock_steps set n)
  pub inputs : sum_by (λ w. waited set n p w) (inputs_at set.topo p) ≡ spent set n p (is_starved set p)
  pub outputs : sum_by (λ w. waited set n p w) (outputs_at set.topo p) ≡ spent set n p (is_blocked set p)
  pub stalled : tile_count set.topo ≤ p → spent set n p is_stalled ≡ 0
  pub line : (kind : ProcKind) → kind_at set.topo p ≡ Some kind → line_sum kind set n p ≡ n
