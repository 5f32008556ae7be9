-- What is told of a step.
use Rattle.std.specs.Prelude.{◌≡◌, ℕ, ◌==◌, Option, Some, None, List, nat_lt, slice_index, if◌then◌else◌}
use Rattle.raw_network.specs.Network.{Sent, Event, event_from, event_of}
use Rattle.raw_grid.specs.Topology.{tile_count}
use Rattle.raw_model.specs.Program.{ProgramSet}
use Rattle.raw_model.specs.Local.{Local}
use Rattle.raw_model.specs.Machine.{machine_of}
use Rattle.raw_model.specs.Cache.{stream_of}
use Rattle.raw_processor.specs.declared.processor.Processor.{Processor}
use Rattle.raw_processor.specs.Processor.{local_of, misses_of}
use Rattle.raw_serial.specs.declared.telling.Event.{Event as Noted}
use Rattle.raw_serial.specs.declared.turn.Turn.{Turn}
use Rattle.raw_serial.specs.declared.turn.Turn.TheVariants.{Fired}
use Rattle.raw_serial.specs.Running.{Running}

-- what a step did: the wires that it took from, in order, a wire once for each value; the values that it sent, in order; the
-- address that it touched; and the stall turns that its tile owes for that, where it missed
pub record Told : Type 0 where
  pub from : List ℕ
  pub sent : List Sent
  pub touched : Option ℕ
  pub missed : Option ℕ

-- a miss, by how often a processor missed before its step and behind it, with the number of its stream
abbrev pub missed_by : List ℕ → ℕ → ℕ → Option ℕ
missed_by stream before after = if before == after then None else Some (slice_index stream before)

-- the same of processor p, where it is a tile; no other one misses
abbrev pub missed_at : ProgramSet → ℕ → ℕ → ℕ → Option ℕ
missed_at set p before after = if nat_lt p (tile_count set.topo) then missed_by (stream_of set p) before after else None

-- what is told of an event, with its miss
abbrev pub told_as : Event Local → Option ℕ → Told
told_as e missed = record { from = e.from; sent = e.sent; touched = e.touched; missed = missed }

-- what is told of the next step of processor p with this local state
abbrev pub told_from : ProgramSet → ℕ → Option Local → List (List ℕ) → Option ℕ → Told
told_from set p l wires missed = told_as (event_from (machine_of set) wires p l) missed

-- who listens was told of a turn of processor p, if that is a step
abbrev pub WasTold : {T : Type 0} → (T → Told → Type 0) → ProgramSet → ℕ → Turn → Processor → Processor → List (List ℕ) → T → Type 0
WasTold has set p turn old new wires teller =
    turn ≡ Fired → has teller (told_from set p (Some (local_of old)) wires (missed_by (stream_of set p) (misses_of old) (misses_of new)))

-- what is told of the step of processor p that leads from one machine to the other: its event, and its miss
abbrev pub told_of : Running → Running → ℕ → Told
told_of old new p =
    told_as (event_of (machine_of old.set) old.state p) (missed_at old.set p (slice_index old.missed p) (slice_index new.missed p))

-- what is noted
abbrev pub told_in : Noted → Told
told_in e = record { from = e.taken.items; sent = e.sent.items; touched = e.touched; missed = e.missed }
