-- What the three came to together; no public contract speaks of it.
use Rattle.std.specs.Prelude.{◌≡◌, ℕ, ◌≤◌, List, Option, Some, None, Result, Ok, Err}
use Rattle.std.specs.Io.KnownBytes.{Appends}
use Rattle.raw_io.specs.declared.Failed.{Failed}
use Rattle.raw_io.specs.Causes.{Rose}
use Rattle.raw_io.specs.Sights.{Sight, SourceSight}
use Rattle.raw_io.specs.Writing.{AppendsFront, AppendsProperFront}
use Rattle.raw_model.specs.Program.{ProgramSet}
use Rattle.raw_model.specs.Outcomes.{outcome, ending_of}
use Rattle.raw_serial.specs.Taken.{made_of}
use Rattle.std.specs.declared.alloc.AllocError.{AllocError}
use Rattle.raw_queue.specs.declared.item.Item.{Item}
use Rattle.raw_live_text.specs.declared.intake.Intake.{Intake}
use Rattle.raw_live_text.specs.declared.stop.Stop.{Stop}
use Rattle.raw_live_text.specs.declared.stop.Stop.TheVariants as stop
use Rattle.raw_live_text.specs.Feeding.{Reads}
use Rattle.raw_live.specs.declared.engine.Engine.{Engine}
use Rattle.raw_model.specs.declared.ending.Ending.{Ending}
use Rattle.raw_live.specs.declared.live.Halt.{Halt}
use Rattle.raw_live.specs.declared.live.Halt.TheVariants as halt
use Rattle.raw_live.specs.declared.writer.Finish.{Finish}
use Rattle.raw_live.specs.declared.writer.Finish.TheVariants.{Ended, HungUp}
use Rattle.raw_live.specs.Engine.{with_items, AreSets, AreAtRest}
use Rattle.raw_live.specs.Due.{live_text}
use Rattle.raw_live.specs.Ending.{rest_text}

-- what halts a reading
abbrev pub stopped_by : Stop → Halt
stopped_by stop.Memory = halt.Memory
stopped_by (stop.At line kind) = halt.Stopped (stop.At line kind)
stopped_by stop.Read = halt.Stopped stop.Read
stopped_by stop.TooLong = halt.Stopped stop.TooLong

-- why not all was done: want of memory first, then what the reader met, then the sink
abbrev pub halt_of : Result (Unit {0}) Stop → Result Finish AllocError → Result Finish Failed → Option Halt
halt_of read (Err memory) wrote = Some halt.Memory
halt_of read (Ok HungUp) wrote = Some halt.Memory
halt_of read (Ok Ended) (Ok HungUp) = Some halt.Memory
halt_of (Err why) (Ok Ended) (Ok Ended) = Some (stopped_by why)
halt_of (Err why) (Ok Ended) (Err failed) = Some (stopped_by why)
halt_of (Ok x) (Ok Ended) (Ok Ended) = None
halt_of (Ok x) (Ok Ended) (Err failed) = Some halt.Write

-- where the engine came to the end, its machine is at rest
abbrev pub RestsWhereEnded : Engine → Result Finish AllocError → Type 0
RestsWhereEnded engine (Ok Ended) = AreAtRest engine.set engine.parts
RestsWhereEnded engine _ = Unit {0}

-- where the engine came to the end, its set is this one
abbrev pub IsFedWhereEnded : Engine → ProgramSet → Result Finish AllocError → Type 0
IsFedWhereEnded engine set (Ok Ended) = engine.set ≡ set
IsFedWhereEnded engine set _ = Unit {0}

-- where the engine came to the end, the writer wrote this text, or the sink failed
abbrev pub WroteWhereEnded : Sight → Sight → List ℕ → Result Finish AllocError → Result Finish Failed → Type 0
WroteWhereEnded old new text (Ok Ended) (Ok Ended) = Appends old.bytes new.bytes text
WroteWhereEnded old new text (Ok Ended) (Err failed) = Rose old.faults new.faults
WroteWhereEnded old new text _ _ = Unit {0}

-- what the three read, fed and wrote
pub record Joined (source_old source_new : SourceSight) (old new : Sight) (intake : Intake) (rest : List ℕ) (most : ℕ) (first : ProgramSet) (engine : Engine)
    (read : Result (Unit {0}) Stop) (ran : Result Finish AllocError) (wrote : Result Finish Failed) : Type 0 where
  pub words : List Item
  pub reads : Reads source_old source_new intake rest most words read
  pub valid : AreSets first words
  pub rests : RestsWhereEnded engine ran
  pub fed : IsFedWhereEnded engine (with_items first words) ran
  pub front : AppendsFront old.bytes new.bytes (live_text first words)
  pub written : WroteWhereEnded old new (live_text first words) ran wrote
  pub count : old.faults ≤ new.faults

-- how the grid of the engine ended
abbrev pub ending_there : Engine → Ending
ending_there engine = ending_of (outcome engine.set (made_of engine.set engine.parts).state)

-- the last line was written, or a proper front of it
abbrev pub FinishedAs : Sight → Sight → Engine → Result Ending Halt → Type 0
FinishedAs old new engine (Ok ending) = (ending ≡ ending_there engine) × Appends old.bytes new.bytes (rest_text ending)
FinishedAs old new engine (Err why) = (why ≡ halt.Write) × Rose old.faults new.faults × AppendsProperFront old.bytes new.bytes (rest_text (ending_there engine))

-- nothing was written where it was halted before
abbrev pub Finished : Sight → Sight → Engine → Option Halt → Result Ending Halt → Type 0
Finished old new engine (Some why) result = (result ≡ Err why) × (new ≡ old)
Finished old new engine None result = FinishedAs old new engine result × (old.faults ≤ new.faults)
