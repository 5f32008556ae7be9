-- What the engine did, by how it ended.
use Rattle.std.specs.Prelude.{◌≡◌, ℕ, true, List, [], ◌∷◌, ◌++◌, length, map, replicate, Result, Ok, Err}
use Rattle.raw_model.specs.Program.{ProgramSet, IsSet}
use Rattle.raw_processor.specs.Processor.{local_of}
use Rattle.raw_serial.specs.Leading.{Leads}
use Rattle.raw_serial.specs.Taken.{made_of, IsWhole}
use Rattle.std.specs.declared.alloc.AllocError.{AllocError}
use Rattle.raw_queue.specs.declared.item.Item.{Item}
use Rattle.raw_queue.specs.declared.item.Item.TheVariants.{End}
use Rattle.raw_live_text.specs.Feeding.{BeginsItems}
use Rattle.raw_live.specs.declared.engine.Engine.{Engine}
use Rattle.raw_live.specs.declared.writer.Finish.{Finish}
use Rattle.raw_live.specs.declared.writer.Finish.TheVariants.{Ended, HungUp}
use Rattle.raw_live.specs.Items.{has_end}
use Rattle.raw_live.specs.Engine.{with_put, with_items, AreAtRest, AreNoMore, AreAll}
use Rattle.raw_live.specs.Due.{live_items}

-- a source was given a word, and lawful steps led to rest
pub record FedWith (old new : Engine) (port word : ℕ) : Type 0 where
  pub set : new.set ≡ with_put old.set port word
  pub sent : new.sent ≡ old.sent
  pub rest : AreAtRest new.set new.parts
  pub led : Leads new.set (made_of old.set old.parts).state (made_of new.set new.parts).state

-- nothing was handed on yet
pub record Starts (engine : Engine) : Type 0 where
  pub valid : IsSet engine.set
  pub whole : IsWhole engine.set engine.parts
  pub sent : engine.sent.items ≡ replicate (length engine.parts.processors.items) 0

-- the machine is at rest, and so many words of each processor were handed on
pub record HasSentSome (engine : Engine) : Type 0 where
  pub rest : AreAtRest engine.set engine.parts
  pub each : length engine.sent.items ≡ length engine.parts.processors.items
  pub sent : AreNoMore engine.sent.items (map local_of engine.parts.processors.items)

-- the machine is at rest, and all that its sinks have taken out was handed on
pub record Rests (engine : Engine) : Type 0 where
  pub valid : IsSet engine.set
  pub rest : AreAtRest engine.set engine.parts
  pub each : length engine.sent.items ≡ length engine.parts.processors.items
  pub sent : AreAll engine.sent.items (map local_of engine.parts.processors.items)

-- All that is due of the words that were taken was put: this set is the first one with these words, and what was put is all that comes out
-- of that one with them.
pub record IsAllPut (set : ProgramSet) (taken put : List Item) : Type 0 where
  pub first : ProgramSet
  pub fed : set ≡ with_items first taken
  pub put_all : put ≡ live_items first taken

-- what was taken and put: all that comes out of the words that were taken, or a front of it where memory was wanted or the queue was hung up
abbrev pub RunsAs : ProgramSet → Engine → List Item → List Item → Result Finish AllocError → Type 0
RunsAs first engine taken put (Ok Ended) =
    (has_end taken ≡ true) × (engine.set ≡ with_items first taken) × AreAtRest engine.set engine.parts × (put ≡ live_items first taken)
RunsAs first engine taken put (Ok HungUp) = BeginsItems put (live_items first taken)
RunsAs first engine taken put (Err e) = BeginsItems put (live_items first taken)

-- the end follows where it was taken
abbrev pub EndedAs : List Item → List Item → Result Finish AllocError → Result Finish AllocError → Type 0
EndedAs old new ran (Ok Ended) = (ran ≡ Ok Ended) × (new ≡ old ++ End ∷ [])
EndedAs old new ran (Ok HungUp) = (ran ≡ Ok HungUp) × (new ≡ old)
EndedAs old new ran (Err e) = new ≡ old

-- what the engine took and put, with the end behind it where the end was taken: all that comes out of the words, or a front of it
abbrev pub Runs : ProgramSet → Engine → List Item → List Item → Result Finish AllocError → Type 0
Runs first engine taken put (Ok Ended) =
    (has_end taken ≡ true) × (engine.set ≡ with_items first taken) × AreAtRest engine.set engine.parts × (put ≡ live_items first taken ++ End ∷ [])
Runs first engine taken put (Ok HungUp) = BeginsItems put (live_items first taken)
Runs first engine taken put (Err e) = BeginsItems put (live_items first taken)
