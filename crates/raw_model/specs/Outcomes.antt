-- How a state came to rest: who waits for whom, the cycle that is reported, the chain of waits, the outcome.
use Rattle.std.specs.Prelude.{◌≡◌, ℕ, Bool, true, false, not, ◌<◌, Option, Some, None, List, length, slice_index_or}
use Rattle.std.specs.List.{position, All}
use Rattle.raw_grid.specs.Topology.{proc_count}
use Rattle.raw_cycle.specs.Chains.{chain_from, last_of, chain_after}
use Rattle.raw_cycle.specs.Cycles.{the_cycle as cycle_of_waits, NoCycle, IsTheCycle}
use Rattle.raw_model.specs.declared.marks.Mark.{Mark}
use Rattle.raw_model.specs.declared.marks.Mark.TheVariants as mark
use Rattle.raw_model.specs.declared.ending.Ending.{Ending}
use Rattle.raw_model.specs.declared.ending.Ending.TheVariants as ending
use Rattle.raw_model.specs.Program.{ProgramSet}
use Rattle.raw_model.specs.Local.{Local, Tile, Switch}
use Rattle.raw_model.specs.Start.{MachineState}
use Rattle.raw_model.specs.Rest.{stopped, is_trapped, is_at_limit}
use Rattle.raw_model.specs.Waits.{waits_for}

-- the cycle of waits that begins with the least processor on any cycle: that one, and the others in the order
-- of the waits
abbrev pub the_cycle : ProgramSet → MachineState → Option (ℕ × List ℕ)
the_cycle set s = cycle_of_waits (waits_for set s) (proc_count set.topo)

-- processor p and those after it, each the one that the one before it waits for, up to and with the first that
-- waits for none
abbrev pub chain : ProgramSet → MachineState → ℕ → List ℕ
chain set s p = chain_from (waits_for set s) (proc_count set.topo) p

-- the last processor of that chain
abbrev pub chain_end : ProgramSet → MachineState → ℕ → ℕ
chain_end set s p = last_of p (chain_after (waits_for set s) (proc_count set.topo) p)

-- the mark is that of a halted processor
abbrev pub is_halted_mark : Mark → Bool
is_halted_mark mark.Halted = true
is_halted_mark _ = false

-- a tile or a switch that is not halted
abbrev pub is_unhalted : Local → Bool
is_unhalted (Tile l) = not (is_halted_mark l.mark)
is_unhalted (Switch l) = not (is_halted_mark l.mark)
is_unhalted _ = false

-- how a state came to rest: each tile and switch is halted; a cycle of waits, by its least processor and the
-- others in order; the least processor that is trapped, at the limit, or not halted
pub data Outcome : Type 0 where
  Done : Outcome
  Deadlock : ℕ → List ℕ → Outcome
  Trapped : ℕ → Outcome
  Limit : ℕ → Outcome
  Stuck : ℕ → Outcome

-- which of the five it is, whatever processors it names
abbrev pub ending_of : Outcome → Ending
ending_of Done = ending.Done
ending_of (Deadlock p ps) = ending.Deadlock
ending_of (Trapped p) = ending.Trapped
ending_of (Limit p) = ending.Limit
ending_of (Stuck p) = ending.Stuck

-- the first of these that is there: a cycle, a trapped processor, one at the limit, one that is not halted
abbrev pub first_of : Option (ℕ × List ℕ) → Option ℕ → Option ℕ → Option ℕ → Outcome
first_of (Some cycle) trapped limited unhalted = Deadlock cycle.0 cycle.1
first_of None (Some p) limited unhalted = Trapped p
first_of None None (Some p) unhalted = Limit p
first_of None None None (Some p) = Stuck p
first_of None None None None = Done

-- how a quiet state came to rest
unfoldable pub outcome : ProgramSet → MachineState → Outcome
outcome set s =
    first_of (the_cycle set s) (position is_trapped s.locals) (position (is_at_limit set) s.locals) (position is_unhalted s.locals)

-- p is a processor of the state, its local state passes, and that of no processor before it does
pub record IsFirst (test : Local → Bool) (s : MachineState) (p : ℕ) : Type 0 where
  pub there : p < length s.locals
  pub passes : (d : Local) → test (slice_index_or s.locals p d) ≡ true
  pub none_before : (q : ℕ) (d : Local) → q < p → test (slice_index_or s.locals q d) ≡ false

-- no processor has a local state that passes
abbrev pub NoneIs : (Local → Bool) → MachineState → Type 0
NoneIs test s = All (λ l. test l ≡ false) s.locals

-- what each outcome says of the state
abbrev pub IsOutcome : ProgramSet → MachineState → Outcome → Type 0
IsOutcome set s Done = NoCycle (waits_for set s) × NoneIs is_trapped s × NoneIs (is_at_limit set) s × NoneIs is_unhalted s
IsOutcome set s (Deadlock p ps) = IsTheCycle (waits_for set s) p ps
IsOutcome set s (Trapped p) = NoCycle (waits_for set s) × IsFirst is_trapped s p
IsOutcome set s (Limit p) = NoCycle (waits_for set s) × NoneIs is_trapped s × IsFirst (is_at_limit set) s p
IsOutcome set s (Stuck p) = NoCycle (waits_for set s) × NoneIs is_trapped s × NoneIs (is_at_limit set) s × IsFirst is_unhalted s p

-- where a quiet state has no cycle of waits, each chain of waits ends in a processor that is stopped
abbrev pub ChainsEndStopped : ProgramSet → MachineState → Type 0
ChainsEndStopped set s = NoCycle (waits_for set s) → (p : ℕ) → p < proc_count set.topo → stopped set s (chain_end set s p) ≡ true
