-- Several turns of one processor of a pass in a row.
use Rattle.std.specs.Prelude.{◌≡◌, ◌≢◌, ℕ, ◌≤◌, vec_len, vec_capacity}
use Rattle.atomic_table.specs.Seated.{TableId}
use Rattle.atomic_table.specs.declared.shared.Seat.{Seat}
use Rattle.raw_processor.specs.declared.processor.Processor.{Processor}
use Rattle.raw_fabric_rule.specs.Views.{About, View}
use Rattle.raw_fabric_step.specs.declared.post.Post.{Post}
use Rattle.raw_fabric_step.specs.Units.{Sits, Placed, IsLooked, mine, first_log}
use Rattle.raw_fabric_step.specs.Turns.{TurnStands}
use Rattle.raw_steps.specs.declared.log.PassLog.{PassLog}
use Rattle.raw_steps.specs.Taking.{numbers}
use Rattle.raw_fabric.specs.declared.answer.FabricTurn.{FabricTurn}
use Rattle.raw_fabric.specs.declared.answer.FabricTurn.TheVariants.{Fired}
use Rattle.raw_fabric.specs.Holding.{IsUnitOf}
use Rattle.raw_fabric.specs.Owing.{IsOwingAfter}

-- what turns of processor p leave of the others: the pass still sits there, and each of them was at most looked for
pub record LeavesOthers (about : About) (p : ℕ) (v w : View) : Type 0 where
  pub sits : (k many : ℕ) → Sits about k many v → Sits about k many w
  pub others : (q j : ℕ) → q ≢ p → Placed about v q j → IsLooked about q (mine v j) (mine w j)

-- what stands before the turns of a processor of a pass, which may be stopped: x is the processor
pub record RowStands {S : Type 0} (about : About) (id : TableId) (seat : Seat S View) (post : Post) (status : ℕ) (x : Processor) : Type 0 where
  pub stands : TurnStands about id seat post status
  pub unit : IsUnitOf about post.p x (mine seat.me.0 post.index)

-- the log is the one that the view knows, and holds at most so many steps, for which it has room
pub record IsLogOf (v : View) (room : ℕ) (log : PassLog) : Type 0 where
  pub log_is : first_log v.parts ≡ numbers log.steps.items
  pub log_room : room ≤ vec_capacity log.steps
  pub log_short : vec_len log.steps ≤ room

-- what a turn that is no step leaves of the stall turns that are owed
abbrev pub IsOwingThen : FabricTurn → ℕ → ℕ → Type 0
IsOwingThen Fired old new = ⊥
IsOwingThen turn old new = IsOwingAfter turn old new

-- What turns came to, the last of which was this one: the log did not get shorter. Where it is as long as it was, the one
-- turn was no step, and so many stall turns were owed before it and are owed after it.
pub record AreTurns (turn : FabricTurn) (old new : PassLog) (before after : ℕ) : Type 0 where
  pub many : vec_len old.steps ≤ vec_len new.steps
  pub none : vec_len new.steps ≡ vec_len old.steps → IsOwingThen turn before after
