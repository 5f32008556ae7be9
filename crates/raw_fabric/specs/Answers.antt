-- What a call for one processor of a pass comes to.
use Rattle.std.specs.Prelude.{◌≡◌, ◌≢◌, ℕ, ◌-◌, ◌/◌, ◌<◌, Bool, true, false, if◌then◌else◌, Option, Some, List, [], ◌∷◌, ◌++◌, length, slice_get}
use Rattle.atomic_table.specs.Seated.{TableId}
use Rattle.atomic_table.specs.declared.shared.Seat.{Seat}
use Rattle.raw_model.specs.Machine.{is_stopped}
use Rattle.raw_model.specs.Cache.{stream_of}
use Rattle.raw_processor.specs.declared.processor.Processor.{Processor}
use Rattle.raw_processor.specs.declared.processor.Processor.TheVariants as a
use Rattle.raw_processor.specs.Processor.{local_of, misses_of, owed_of}
use Rattle.raw_processor.specs.Touching.{owed_after}
use Rattle.raw_fabric_rule.specs.Views.{About, View}
use Rattle.raw_fabric_rule.specs.Seats.{IsSameSeat}
use Rattle.raw_fabric_step.specs.declared.post.Post.{Post}
use Rattle.raw_fabric_step.specs.Units.{first_log, mine, Placed, IsReady}
use Rattle.raw_fabric_step.specs.Turns.{TurnStands}
use Rattle.raw_fabric_step.specs.Fired.{HasStepped, HasWaited}
use Rattle.raw_fabric.specs.Holding.{IsUnitOf}
use Rattle.raw_fabric.specs.declared.pass.Pass.{Pass}
use Rattle.raw_fabric.specs.declared.answer.FabricTurn.{FabricTurn}
use Rattle.raw_fabric.specs.declared.answer.FabricTurn.TheVariants.{Fired, Stalled, Stopped, LogFull, Waits}

-- What stands before the turn of a processor of a pass that is not stopped: x is the processor.
pub record UnitStands {S : Type 0} (about : About) (id : TableId) (seat : Seat S View) (post : Post) (status : ℕ) (x : Processor) : Type 0 where
  pub stands : TurnStands about id seat post status
  pub unit : IsUnitOf about post.p x (mine seat.me.0 post.index)
  pub going : is_stopped about.set post.p (local_of x) ≡ false

-- What its turn leaves of the seat: the processor has this status word.
pub record UnitLeft {S : Type 0} (about : About) (post : Post) (status : ℕ) (old new : Seat S View) : Type 0 where
  pub same : IsSameSeat old new
  pub placed : Placed about new.me.0 post.p post.index
  pub ready : IsReady status (mine new.me.0 post.index)

-- the processor with one stall turn less
abbrev pub stalled : Processor → Processor
stalled (a.Tile tile) = a.Tile (record tile { owed = tile.owed - 1 })
stalled (a.Switch switch) = a.Switch switch
stalled (a.Source port) = a.Source port
stalled (a.Sink port) = a.Sink port

-- Processor p, which is unit i of the pass, did its row: v and x are the view and the processor before, w and y after. Where it
-- missed, it owes the stall turns of that miss.
pub record HasFiredAs (about : About) (p i : ℕ) (v w : View) (x y : Processor) : Type 0 where
  pub status : ℕ
  pub touched : Option ℕ
  pub stepped : HasStepped about p i status (local_of y) touched v w
  pub owed : owed_of y ≡ owed_after (stream_of about.set p) (misses_of x) (misses_of y)

-- what the turn of a processor comes to that is not stopped, with room in the log
abbrev pub IsUnitTurn : About → ℕ → ℕ → FabricTurn → View → View → Processor → Processor → Type 0
IsUnitTurn about p i Fired v w x y = (owed_of x ≡ 0) × HasFiredAs about p i v w x y
IsUnitTurn about p i Stalled v w x y = (0 < owed_of x) × (w ≡ v) × (y ≡ stalled x)
IsUnitTurn about p i (Waits wire seen) v w x y = (owed_of x ≡ 0) × HasWaited about p i (record { wire = wire.0; seen = seen }) v w × (y ≡ x)
IsUnitTurn about p i _ v w x y = ⊥

-- the processor is going, and its step has room in the log of the pass, which holds at most so many
pub record CanStep (about : About) (p room : ℕ) (v : View) (x : Processor) : Type 0 where
  pub going : is_stopped about.set p (local_of x) ≡ false
  pub short : length (first_log v.parts) < room

-- What a call for processor p comes to, which is unit i of the pass, whose log has room for so many steps: v and x are the view and
-- the processor before, w and y after.
abbrev pub IsAnswer : About → ℕ → ℕ → ℕ → FabricTurn → View → View → Processor → Processor → Type 0
IsAnswer about p i room Stopped v w x y = (is_stopped about.set p (local_of x) ≡ true) × (w ≡ v) × (y ≡ x)
IsAnswer about p i room LogFull v w x y = (is_stopped about.set p (local_of x) ≡ false) × (length (first_log v.parts) ≡ room) × (w ≡ v) × (y ≡ x)
IsAnswer about p i room Fired v w x y = CanStep about p room v x × IsUnitTurn about p i Fired v w x y
IsAnswer about p i room Stalled v w x y = CanStep about p room v x × IsUnitTurn about p i Stalled v w x y
IsAnswer about p i room (Waits wire seen) v w x y = CanStep about p room v x × IsUnitTurn about p i (Waits wire seen) v w x y

-- whether a step was taken
abbrev pub has_fired : FabricTurn → Bool
has_fired Fired = true
has_fired _ = false

-- the log after a call for processor p
abbrev pub log_after : FabricTurn → ℕ → List ℕ → List ℕ
log_after turn p log = if has_fired turn then log ++ p ∷ [] else log

-- What a call for processor p did to its pass: what it did to p, and each other processor is as it was, and the room of its log.
pub record IsTurnOf (about : About) (p : ℕ) (turn : FabricTurn) (old new : Pass) : Type 0 where
  pub answer : (x y : Processor) → slice_get old.processors.items (p / about.workers) ≡ Some x → slice_get new.processors.items (p / about.workers) ≡ Some y →
      IsAnswer about p (p / about.workers) old.room turn old.seat.me.0 new.seat.me.0 x y
  pub others : (j : ℕ) → j ≢ p / about.workers → slice_get new.processors.items j ≡ slice_get old.processors.items j
  pub room_same : new.room ≡ old.room
