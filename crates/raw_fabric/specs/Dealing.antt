-- The processors of a machine, dealt to passes.
use Rattle.std.specs.Prelude.{◌≡◌, ◌≢◌, ℕ, ◌+◌, ◌*◌, ◌%◌, ◌<◌, ◌≤◌, Some, List, [], ◌∷◌, length, slice_get, vec_capacity}
use Rattle.atomic_table.specs.Seated.{TableId}
use Rattle.atomic_table.specs.declared.shared.Seat.{Seat}
use Rattle.raw_grid.specs.declared.limits.TheConstants.{MAX_PROCS}
use Rattle.raw_model.specs.Start.{IsFit}
use Rattle.raw_processor.specs.declared.processor.Processor.{Processor}
use Rattle.raw_processor.specs.Processor.{local_of, cache_of, misses_of, owed_of, IsKept, HasFewMisses}
use Rattle.raw_fabric_rule.specs.Views.{About, View}
use Rattle.raw_fabric_rule.specs.ByEnds.{procs, local}
use Rattle.raw_fabric_rule.specs.Opening.{share, first_part, first_view}
use Rattle.raw_fabric.specs.declared.pass.Pass.{Pass}
use Rattle.raw_fabric.specs.declared.rooms.Room.{Room}
use Rattle.raw_fabric.specs.Opened.{ArePasses}
use Rattle.raw_fabric.specs.Holding.{cache_before, missed_before, owed_before}

-- x is processor p as it was at the opening
pub record IsBefore (about : About) (p : ℕ) (x : Processor) : Type 0 where
  pub local_is : local_of x ≡ local about.opened p
  pub kept : IsKept about.set p x
  pub fits : IsFit about.set p (local_of x)
  pub few : HasFewMisses x
  pub cache_is : cache_of x ≡ cache_before about p
  pub missed_is : misses_of x ≡ missed_before about p
  pub owed_is : owed_of x ≡ owed_before about p

-- these are all processors as they were at the opening
pub record HaveBefore (about : About) (processors : List Processor) : Type 0 where
  pub many : length processors ≡ procs about.set
  pub few : length processors ≤ MAX_PROCS
  pub each : (p : ℕ) (x : Processor) → slice_get processors p ≡ Some x → IsBefore about p x

-- the view of each pass has the part of its worker, as it is at the opening
abbrev pub HaveFirstParts : About → List Pass → Type 0
HaveFirstParts about passes = (k : ℕ) (pass : Pass) → slice_get passes k ≡ Some pass → pass.seat.me.0.parts ≡ first_part about k ∷ []

-- processors k, k + n, k + 2 n and so on of these
pub record AreTaken (n k : ℕ) (processors own : List Processor) : Type 0 where
  pub many : length own ≡ share (length processors) n k
  pub each : (j : ℕ) (x : Processor) → slice_get own j ≡ Some x → slice_get processors (k + j * n) ≡ Some x

-- the memory of the pass of worker k of n is empty, and has room for its processors of so many
pub record IsEmptyRoom (n k all : ℕ) (room : Room) : Type 0 where
  pub worker : k < n
  pub no_processors : room.processors.items ≡ []
  pub processors_room : share all n k ≤ vec_capacity room.processors

-- the pass of worker k is made with this memory, and its log has room for so many steps
pub record IsMadePass (n k log_steps : ℕ) (room : Room) (pass : Pass) : Type 0 where
  pub workers_are : pass.workers ≡ n
  pub statuses_are : pass.statuses ≡ room.statuses
  pub log_is : pass.log ≡ record { worker = k; steps = room.steps }
  pub room_is : pass.room ≡ log_steps

-- the first seat of a table, which knows of all processors, before they are dealt to n workers
pub record IsFirstSeat {S : Type 0} (about : About) (id : TableId) (seat : Seat S View) (n : ℕ) : Type 0 where
  pub workers_are : about.workers ≡ n
  pub words : 0 < id.words
  pub table : seat.table_id ≡ id
  pub view : seat.me ≡ (first_view about, [])

-- those that are not taken stay in their places
pub record AreLeft (n k : ℕ) (old new : List Processor) : Type 0 where
  pub long : length new ≡ length old
  pub others : (p : ℕ) → p % n ≢ k → slice_get new p ≡ slice_get old p

-- each pass has its processors of these, and an empty log with room for so many steps
pub record AreDealt (n log_steps : ℕ) (processors : List Processor) (passes : List Pass) : Type 0 where
  pub taken : (k : ℕ) (pass : Pass) → slice_get passes k ≡ Some pass → AreTaken n k processors pass.processors.items
  pub no_log : (k : ℕ) (pass : Pass) → slice_get passes k ≡ Some pass → pass.log.steps.items ≡ []
  pub rooms_are : (k : ℕ) (pass : Pass) → slice_get passes k ≡ Some pass → pass.room ≡ log_steps

-- The processors are dealt: these are the passes of the fabric, each with its part as it is at the opening.
pub record HaveDealt (about : About) (id : TableId) (n log_steps : ℕ) (old new : List Processor) (passes : List Pass) : Type 0 where
  pub passes_are : ArePasses about id passes
  pub parts : HaveFirstParts about passes
  pub dealt : AreDealt n log_steps old passes
  pub long : length new ≡ length old
