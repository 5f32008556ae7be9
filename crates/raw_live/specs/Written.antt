-- What the writer took and wrote.
use Rattle.std.specs.Prelude.{◌≡◌, ℕ, ◌≤◌, true, false, List, [], ◌∷◌, ◌++◌, Result, Ok, Err}
use Rattle.std.specs.declared.option.Option.{Option}
use Rattle.std.specs.Io.KnownBytes.{Appends}
use Rattle.raw_io.specs.declared.Failed.{Failed}
use Rattle.raw_io.specs.Causes.{Rose}
use Rattle.raw_io.specs.Sights.{Sight}
use Rattle.raw_io.specs.Writing.{AppendsProperFront}
use Rattle.raw_queue.specs.declared.item.Item.{Item}
use Rattle.raw_queue.specs.declared.item.Item.TheVariants.{Word}
use Rattle.raw_live.specs.declared.writer.Finish.{Finish}
use Rattle.raw_live.specs.declared.writer.Finish.TheVariants.{Ended, HungUp}
use Rattle.raw_live.specs.Items.{has_end, got_line, got_text}

-- all items but the last were words and were written; the last was a word too, a proper front of its line was written,
-- and the sink failed
pub record StoppedAt (old new : Sight) (taken : List Item) : Type 0 where
  pub before : List Item
  pub port : ℕ
  pub word : ℕ
  pub items : taken ≡ before ++ Word port word ∷ []
  pub endless : has_end before ≡ false
  pub between : Option (List ℕ)
  pub lines : Appends old.bytes between (got_text before)
  pub front : AppendsProperFront between new.bytes (got_line port word)
  pub fault : Rose old.faults new.faults

-- what was taken and written, by how it ended
abbrev pub WroteAs : Sight → Sight → List Item → Result Finish Failed → Type 0
WroteAs old new taken (Ok Ended) = (has_end taken ≡ true) × Appends old.bytes new.bytes (got_text taken)
WroteAs old new taken (Ok HungUp) = (has_end taken ≡ false) × Appends old.bytes new.bytes (got_text taken)
WroteAs old new taken (Err e) = StoppedAt old new taken × AppendsProperFront old.bytes new.bytes (got_text taken)

pub record Wrote (old new : Sight) (taken : List Item) (result : Result Finish Failed) : Type 0 where
  pub wrote : WroteAs old new taken result
  pub count : old.faults ≤ new.faults
