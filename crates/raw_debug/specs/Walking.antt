-- The serial order of a machine's steps, and where in it a step of a processor stands.
use Rattle.std.specs.Prelude.{◌≡◌, ℕ, zero, suc, ◌+◌, ◌<◌, ◌≤◌, Bool, true, false, ◌==◌, nat_le, Option, Some, None, List, [], ◌∷◌, ◌++◌, take, length, slice_index, IfSome, if◌then◌else◌}
use Rattle.std.specs.List.{All, range_with_len}
use Rattle.raw_network.specs.Network.{count_of}
use Rattle.raw_grid.specs.declared.parts.ProcId.{ProcId}
use Rattle.raw_grid.specs.Topology.{proc_count}
use Rattle.raw_model.specs.Program.{ProgramSet}
use Rattle.raw_model.specs.Start.{MachineState, start}
use Rattle.raw_model.specs.Rest.{enabled, step, end, passed_on, stopped, IsQuiet}
use Rattle.raw_model.specs.Serial.{sweep_over, sweeps, serial}
use Rattle.raw_debug.specs.declared.walk.Walk.{Walk}

-- the steps of a list up to and with the k-th entry p; none for k = 0, and all where there are fewer than k
abbrev pub up_to : ℕ → ℕ → List ℕ → List ℕ
up_to p k [] = []
up_to p zero (q ∷ steps) = []
up_to p (suc k) (q ∷ steps) = q ∷ up_to p (if q == p then k else suc k) steps

-- the state right after the k-th step of processor p in the serial order, and the start for k = 0
unfoldable pub state_at : ProgramSet → ℕ → ℕ → MachineState
state_at set p k = end set (up_to p k (serial set))

-- A moment is a number of steps of the serial order: the state right after so many,
unfoldable pub state_after : ProgramSet → ℕ → MachineState
state_after set moment = end set (take moment (serial set))

-- how many of them are those of processor p,
abbrev pub count_at : ProgramSet → ℕ → ℕ → ℕ
count_at set p moment = count_of p (take moment (serial set))

-- and the moment right after the k-th step of processor p, where it takes so many; the start for k = 0
unfoldable pub moment_of : ProgramSet → ℕ → ℕ → Option ℕ
moment_of set p k = if nat_le k (count_of p (serial set)) then Some (length (up_to p k (serial set))) else None

-- the values that were sent on wire w up to a moment
unfoldable pub sent_by : ProgramSet → ℕ → ℕ → List ℕ
sent_by set moment w = passed_on set (start set) (take moment (serial set)) w

-- the steps of so many whole sweeps from the start, and then of the turns of the processors below `next`
abbrev pub front : ProgramSet → ℕ → ℕ → List ℕ
front set whole next = sweeps set whole (start set) ++ sweep_over set (end set (sweeps set whole (start set))) (range_with_len 0 next)

-- the state comes of these steps, with which the serial order begins, and the next turn is that of processor `next`
pub record IsAt (set : ProgramSet) (s : MachineState) (next : ℕ) (done : List ℕ) : Type 0 where
  pub whole : ℕ
  pub steps : done ≡ front set whole next
  pub there : end set done ≡ s
  pub within : next ≤ proc_count set.topo

-- no processor is enabled but, maybe, the one before processor `next`
pub record NoneElse (set : ProgramSet) (s : MachineState) (next : ℕ) : Type 0 where
  pub some : 0 < next
  pub others : (q : ℕ) → q < proc_count set.topo → (q + 1 ≡ next → ⊥) → enabled set s q ≡ false

-- the processors from one number up to another are stopped
abbrev pub AllStopped : ProgramSet → MachineState → ℕ → ℕ → Type 0
AllStopped set s low high = (p : ℕ) → low ≤ p → p < high → stopped set s p ≡ true

-- of each processor, it and those behind it are stopped up to the number that stands for it
abbrev pub PassesStopped : ProgramSet → MachineState → List ℕ → Type 0
PassesStopped set s ends = (p : ℕ) → p < length ends → AllStopped set s p (slice_index ends p)

-- the state of the machine of a walk comes of these steps; what it passes over is stopped; where the walk goes on alone, only the processor whose turn was
-- last may be enabled
pub record AtDone (walk : Walk) (done : List ℕ) : Type 0 where
  pub place : IsAt walk.machine.set walk.machine.state walk.next done
  pub passing : PassesStopped walk.machine.set walk.machine.state walk.passing.ends
  pub alone : walk.alone ≡ true → NoneElse walk.machine.set walk.machine.state walk.next

-- the machine of a walk has taken these steps
pub record HasDone (walk : Walk) (done : List ℕ) : Type 0 where
  pub at : AtDone walk done
  pub many : walk.moment ≡ length done

-- the machine of a walk stands somewhere in the serial order
abbrev pub IsUnderWay : Walk → Type 0
IsUnderWay walk = (done : List ℕ) × HasDone walk done

-- it is a machine of this set, and does
pub record IsOn (of : ProgramSet) (walk : Walk) : Type 0 where
  pub set : walk.machine.set ≡ of
  pub under_way : IsUnderWay walk

-- each of them is and does
abbrev pub AreOn : ProgramSet → List Walk → Type 0
AreOn set walks = All (IsOn set) walks

-- the machine of a walk and its copies stand somewhere in the serial order of its set
pub record StandsWith (walk : Walk) (kept : List Walk) : Type 0 where
  pub under_way : IsUnderWay walk
  pub copies : AreOn walk.machine.set kept

-- a moment of the serial order of a set
pub record Instant : Type 0 where
  pub set : ProgramSet
  pub moment : ℕ

-- that at which the machine of a walk stands
abbrev pub instant_of : Walk → Instant
instant_of walk = record { set = walk.machine.set; moment = walk.moment }

-- where a walk led: to a moment, or nowhere
abbrev pub led : Bool → ℕ → Option ℕ
led true moment = Some moment
led false moment = None

-- one became the other by what led there, if it leads anywhere
pub record HasLed (old new : Instant) (to : Option ℕ) (done : Bool) : Type 0 where
  pub set : new.set ≡ old.set
  pub there : to ≡ led done new.moment

-- one became the other by a look, which found what is looked for
pub record HasLooked (old new : Instant) (wanted found : Option ℕ) : Type 0 where
  pub set : new.set ≡ old.set
  pub there : wanted ≡ found

-- none of the processors from one number up to another is enabled
abbrev pub NoneEnabled : ProgramSet → MachineState → ℕ → ℕ → Type 0
NoneEnabled set s low high = (p : ℕ) → low ≤ p → p < high → enabled set s p ≡ false

-- a machine at the start of its serial order
pub record IsFresh (of : ProgramSet) (walk : Walk) : Type 0 where
  pub set : walk.machine.set ≡ of
  pub state : walk.machine.state ≡ start of
  pub next : walk.next ≡ 0
  pub moment : walk.moment ≡ 0
  pub passing : PassesStopped of walk.machine.state walk.passing.ends
  pub alone : walk.alone ≡ false

-- the first processor from the next one on that is enabled is p; it took its step, and its turn is over
pub record HasStepped (old new : Walk) (p : ℕ) : Type 0 where
  pub from : old.next ≤ p
  pub there : p < proc_count old.machine.set.topo
  pub before : NoneEnabled old.machine.set old.machine.state old.next p
  pub ready : enabled old.machine.set old.machine.state p ≡ true
  pub stepped : new.machine.state ≡ step old.machine.set old.machine.state p
  pub next : new.next ≡ p + 1
  pub passing : new.passing ≡ old.passing

-- no processor from the next one on is enabled, and the turn is that of processor 0
pub record HasPassed (old new : Walk) : Type 0 where
  pub none : NoneEnabled old.machine.set old.machine.state old.next (proc_count old.machine.set.topo)
  pub stays : new.machine.state ≡ old.machine.state
  pub next : new.next ≡ 0
  pub passing : new.passing ≡ old.passing

-- one step more of the serial order was taken, by processor p
pub record HasGone (old new : Walk) (p : ℕ) (done : List ℕ) : Type 0 where
  pub at : AtDone new (done ++ p ∷ [])
  pub ready : enabled old.machine.set old.machine.state p ≡ true
  pub stepped : new.machine.state ≡ step old.machine.set old.machine.state p

-- a walk went on in the serial order, and not past a moment that lies before it
pub record HasGoneOn (old new : Walk) (moment : ℕ) : Type 0 where
  pub set : new.machine.set ≡ old.machine.set
  pub under_way : IsUnderWay new
  pub later : old.moment < new.moment
  pub upto : old.moment < moment → new.moment ≤ moment
  pub within : new.moment ≤ length (serial old.machine.set)

-- the next step of the serial order was taken, by the processor that is told, or there is none
pub record HasTakenNext (old new : Walk) (stepped : Option ProcId) : Type 0 where
  pub set : new.machine.set ≡ old.machine.set
  pub gone : IfSome stepped (λ p. (done : List ℕ) → AtDone old done → HasGone old new p.0 done)
  pub rests : stepped ≡ None → (done : List ℕ) → AtDone old done → AtDone new done × IsQuiet new.machine.set new.machine.state
  pub counted : IfSome stepped (λ _. new.moment ≡ old.moment + 1)
  pub stays : stepped ≡ None → new.moment ≡ old.moment

-- it stays where it stands
pub record HasStayed (old new : Walk) : Type 0 where
  pub set : new.machine.set ≡ old.machine.set
  pub under_way : IsUnderWay new
  pub state : new.machine.state ≡ old.machine.state
  pub moment : new.moment ≡ old.moment

-- there it has come to the end of the serial order
pub record HasEnded (old new : Walk) : Type 0 where
  pub set : new.machine.set ≡ old.machine.set
  pub under_way : IsUnderWay new
  pub moment : new.moment ≡ old.moment
  pub end : new.moment ≡ length (serial old.machine.set)
