-- What is seen of the source, of out and of err before and after a call, and what it says of the call.
use Rattle.std.specs.Prelude.{◌≡◌, ◌⊎◌, ℕ, ◌+◌, ◌≤◌, ◌<◌, List, length, take}
use Rattle.std.specs.Io.KnownBytes.{Consumes, Appends, IsAtEnd}
use Rattle.raw_io.specs.Causes.{Rose}
use Rattle.raw_io.specs.Sights.{Sight, SourceSight}
use Rattle.raw_text.specs.declared.limits.TheConstants.{MAX_TEXT}

-- a source before and after a call
pub record SourceSeen : Type 0 where
  pub old : SourceSight
  pub new : SourceSight

-- a sink before and after a call
pub record SinkSeen : Type 0 where
  pub old : Sight
  pub new : Sight

-- the source, out and err before and after a call
pub record Seen : Type 0 where
  pub source : SourceSeen
  pub out : SinkSeen
  pub err : SinkSeen

-- what is seen of a source, by the meaning of its type
abbrev pub source_seen : {S : Type 0} → (S → SourceSight) → S → S → SourceSeen
source_seen sight old new = record { old = sight old; new = sight new }

-- what is seen of a sink, by the meaning of its type
abbrev pub sink_seen : {K : Type 0} → (K → Sight) → K → K → SinkSeen
sink_seen sight old new = record { old = sight old; new = sight new }

-- what is seen of the source, of out and of err, by the meanings of their types
abbrev pub seen : {S K E : Type 0} → (S → SourceSight) → S → S → (K → Sight) → K → K → (E → Sight) → E → E → Seen
seen source_sight source_old source_new out_sight out_old out_new err_sight err_old err_new = record {
  source = source_seen source_sight source_old source_new;
  out = sink_seen out_sight out_old out_new;
  err = sink_seen err_sight err_old err_new;
}

-- a call of the source failed
abbrev pub ReadFails : SourceSeen → Type 0
ReadFails source = Rose source.old.faults source.new.faults

-- a call of the sink failed
abbrev pub WriteFails : SinkSeen → Type 0
WriteFails sink = Rose sink.old.faults sink.new.faults

-- nothing was asked of the source
abbrev pub Unread : SourceSeen → Type 0
Unread source = source.new ≡ source.old

-- nothing was put on the sink
abbrev pub Untouched : SinkSeen → Type 0
Untouched sink = sink.new ≡ sink.old

-- the piece was put on the sink
abbrev pub Puts : SinkSeen → List ℕ → Type 0
Puts sink piece = Appends sink.old.bytes sink.new.bytes piece

-- the line was put, or a front of it where the sink failed
pub record Says (sink : SinkSeen) (line : List ℕ) : Type 0 where
  pub count : ℕ
  pub within : count ≤ length line
  pub put : Puts sink (take count line)
  pub whole : (count ≡ length line) ⊎ WriteFails sink
  pub counted : sink.old.faults ≤ sink.new.faults

-- at most so many bytes are read
abbrev pub limit : ℕ
limit = MAX_TEXT

-- the source gave more bytes than are read
abbrev pub GivesTooMany : SourceSeen → Type 0
GivesTooMany source = source.old.given + limit < source.new.given

-- the source gave one byte more than are read
abbrev pub GivesOneTooMany : SourceSeen → Type 0
GivesOneTooMany source = source.new.given ≡ source.old.given + limit + 1

-- the source gave no more bytes than are read
abbrev pub GivesFew : SourceSeen → Type 0
GivesFew source = source.new.given ≤ source.old.given + limit

-- the source was read to its end: these bytes
pub record ReadsWhole (source : SourceSeen) (input : List ℕ) : Type 0 where
  pub taken : Consumes source.old.left source.new.left input
  pub ended : IsAtEnd source.new.left
  pub counted : source.new.given ≡ source.old.given + length input
