-- A fabric that is closed.
use Rattle.std.specs.Prelude.{◌≡◌, ◌≢◌, ℕ, ◌+◌, ◌*◌, ◌%◌, ◌<◌, ◌≤◌, Some, List, length, slice_get, slice_index}
use mathlib.Core.Option.{some}
use lib.ListN.{get_elem?}
use Rattle.atomic_table.specs.Seated.{TableId}
use Rattle.raw_model.specs.Serial.{IsJoined}
use Rattle.raw_processor.specs.declared.processor.Processor.{Processor}
use Rattle.raw_processor.specs.Processor.{local_of, misses_of, owed_of}
use Rattle.raw_serial.specs.Running.{Running}
use Rattle.raw_fabric_rule.specs.Views.{About, Hold, Part, View}
use Rattle.raw_fabric_rule.specs.ByEnds.{procs, local}
use Rattle.raw_fabric_rule.specs.Plays.{HasHold}
use Rattle.raw_steps.specs.declared.log.PassLog.{PassLog}
use Rattle.raw_steps.specs.Taking.{numbers}
use Rattle.raw_serial.specs.Leading.{HasTaken}
use Rattle.raw_steps.specs.Weaving.{steps_in, AreInOrder}
use Rattle.raw_fabric.specs.declared.pass.Pass.{Pass}
use Rattle.raw_fabric.specs.Holding.{IsUnitOf}
use Rattle.raw_fabric.specs.Opened.{machine_before, ArePasses}

-- The machine m is where a lawful list of steps leads to from the machine that was opened, which is joined from the logs.
pub record IsClosedTo (about : About) (m : Running) (logs : List PassLog) : Type 0 where
  pub history : List ℕ
  pub taken : HasTaken (machine_before about) m history
  pub joined : IsJoined history (steps_in logs)
  pub in_order : AreInOrder logs

-- processors k, k + n, k + 2 n and so on are put into their places, and the others are as they were
pub record ArePutBack (n k : ℕ) (own old new : List Processor) : Type 0 where
  pub long : length new ≡ length old
  pub each : (j : ℕ) (x : Processor) → slice_get own j ≡ Some x → slice_get new (k + j * n) ≡ Some x
  pub others : (p : ℕ) → p % n ≢ k → slice_get new p ≡ slice_get old p

-- the log and the processors of each pass are among these
pub record AreKept (n : ℕ) (passes : List Pass) (processors : List Processor) (logs : List PassLog) : Type 0 where
  pub logs_are : (k : ℕ) (pass : Pass) → slice_get passes k ≡ Some pass → slice_get logs k ≡ Some pass.log
  pub processors_are : (k j : ℕ) (pass : Pass) (x : Processor) → slice_get passes k ≡ Some pass → slice_get pass.processors.items j ≡ Some x →
      slice_get processors (k + j * n) ≡ Some x

-- a part of worker k with this log stands in the view
pub record HasLog (v : View) (k : ℕ) (log : List ℕ) : Type 0 where
  pub at : ℕ
  pub part : Part
  pub part_at : get_elem? v.parts at ≡ some part
  pub worker_is : part.worker ≡ k
  pub log_is : part.log ≡ log

-- a unit of processor p stands in the view, and x is that processor
pub record HasUnit (about : About) (v : View) (p : ℕ) (x : Processor) : Type 0 where
  pub unit : Hold
  pub has : HasHold v p unit
  pub is : IsUnitOf about p x unit

-- the passes of the workers k, k + 1 and so on are joined into the view
pub record AreGathered (about : About) (k : ℕ) (v : View) (processors : List Processor) (logs : List PassLog) : Type 0 where
  pub processors_all : length processors ≡ procs about.set
  pub logs_all : length logs ≡ about.workers
  pub logs_are : (w : ℕ) (log : PassLog) → slice_get logs w ≡ Some log → k ≤ w → (log.worker ≡ w) × HasLog v w (numbers log.steps.items)
  pub units_are : (p : ℕ) (x : Processor) → slice_get processors p ≡ Some x → k ≤ p % about.workers → HasUnit about v p x

-- What stands before the passes are gathered: these are the passes of the fabric, and there are places for all processors and logs.
pub record GatherStands (about : About) (id : TableId) (passes : List Pass) (processors : List Processor) (logs : List PassLog) : Type 0 where
  pub some : 0 < about.workers
  pub words : 0 < id.words
  pub passes_are : ArePasses about id passes
  pub processors_many : length processors ≡ procs about.set
  pub logs_many : length logs ≡ about.workers

-- each processor that a pass held is in the machine as the pass held it, and so is its log among the logs
pub record AreHeld (n : ℕ) (passes : List Pass) (m : Running) (logs : List PassLog) : Type 0 where
  pub logs_are : (k : ℕ) (pass : Pass) → slice_get passes k ≡ Some pass → slice_get logs k ≡ Some pass.log
  pub locals : (k j : ℕ) (pass : Pass) (x : Processor) → slice_get passes k ≡ Some pass → slice_get pass.processors.items j ≡ Some x →
      local m.state (k + j * n) ≡ local_of x
  pub missed : (k j : ℕ) (pass : Pass) (x : Processor) → slice_get passes k ≡ Some pass → slice_get pass.processors.items j ≡ Some x →
      slice_index m.missed (k + j * n) ≡ misses_of x
  pub owed : (k j : ℕ) (pass : Pass) (x : Processor) → slice_get passes k ≡ Some pass → slice_get pass.processors.items j ≡ Some x →
      slice_index m.owed (k + j * n) ≡ owed_of x
