-- What live input comes to: the words that were fed, and what was written.
use Rattle.std.specs.Prelude.{◌≡◌, ◌≢◌, ◌⊎◌, ℕ, ◌≤◌, List, Result, Ok, Err}
use Rattle.std.specs.Io.KnownBytes.{Appends}
use Rattle.raw_io.specs.Causes.{Rose}
use Rattle.raw_io.specs.Sights.{Sight, SourceSight}
use Rattle.raw_io.specs.Writing.{AppendsFront, AppendsProperFront}
use Rattle.raw_model.specs.Program.{ProgramSet}
use Rattle.raw_queue.specs.declared.item.Item.{Item}
use Rattle.raw_live_text.specs.declared.intake.Intake.{Intake}
use Rattle.raw_live_text.specs.declared.stop.Stop.{Stop}
use Rattle.raw_live_text.specs.declared.stop.Stop.TheVariants as stop
use Rattle.raw_live_text.specs.Feeding.{Reads}
use Rattle.raw_model.specs.declared.ending.Ending.{Ending}
use Rattle.raw_live.specs.declared.live.Halt.{Halt}
use Rattle.raw_live.specs.declared.live.Halt.TheVariants.{Stopped, Write, Memory}
use Rattle.raw_live.specs.Engine.{with_items, AreSets}
use Rattle.raw_live.specs.Due.{ending_at, live_text, due_text}

-- this text was written, or a front of it where the sink failed
pub record WritesOrFails (old new : Sight) (text : List ℕ) : Type 0 where
  pub front : AppendsFront old.bytes new.bytes text
  pub whole : Appends old.bytes new.bytes text ⊎ Rose old.faults new.faults

-- the sink failed, and a proper front of this text was written
pub record FailsIn (old new : Sight) (text : List ℕ) : Type 0 where
  pub failed : Rose old.faults new.faults
  pub front : AppendsProperFront old.bytes new.bytes text

-- all of this text was written, and how the grid of the set rests
pub record WritesToRest (old new : Sight) (text : List ℕ) (set : ProgramSet) (ending : Ending) : Type 0 where
  pub whole : Appends old.bytes new.bytes text
  pub ended : ending ≡ ending_at set

-- how the reading ended and what was written, by the answer: all that is due, all of its lines but the last, or a front
abbrev pub LivedAs : Sight → Sight → Result (Unit {0}) Stop → ProgramSet → List Item → Result Ending Halt → Type 0
LivedAs old new read first words (Ok ending) = (read ≡ Ok tt) × WritesToRest old new (due_text first words) (with_items first words) ending
LivedAs old new read first words (Err (Stopped why)) = (read ≡ Err why) × (why ≢ stop.Memory) × WritesOrFails old new (live_text first words)
LivedAs old new read first words (Err Write) = (read ≡ Ok tt) × FailsIn old new (due_text first words)
LivedAs old new read first words (Err Memory) = AppendsFront old.bytes new.bytes (live_text first words)

-- Some words were read and fed to the machine of a set, and what then comes out of it was written, or a front of that.
pub record Lives (source_old source_new : SourceSight) (old new : Sight) (intake : Intake) (rest : List ℕ) (most : ℕ) (first : ProgramSet) (result : Result Ending Halt) : Type 0 where
  pub words : List Item
  pub read : Result (Unit {0}) Stop
  pub reads : Reads source_old source_new intake rest most words read
  pub valid : AreSets first words
  pub lived : LivedAs old new read first words result
  pub count : old.faults ≤ new.faults
