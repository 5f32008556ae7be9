-- The queues at which reader, engine and writer meet, and their ends.
use Rattle.std.specs.Prelude.{◌≡◌, []}
use Rattle.raw_live.specs.declared.channel.Channel.{Channel}
use Rattle.raw_live.specs.declared.together.Ends.{Ends}

-- nothing was put or taken yet
pub record IsFresh (channel : Channel) : Type 0 where
  pub put : channel.put.items ≡ []
  pub take : channel.take.items ≡ []

-- the same of all ends
pub record AreFresh (ends : Ends) : Type 0 where
  pub read : ends.read.items ≡ []
  pub fed : ends.fed.items ≡ []
  pub got : ends.got.items ≡ []
  pub written : ends.written.items ≡ []

-- each end belongs to the queue to which it belonged
pub record BelongAs (old new : Ends) : Type 0 where
  pub read : new.read.queue ≡ old.read.queue
  pub fed : new.fed.queue ≡ old.fed.queue
  pub got : new.got.queue ≡ old.got.queue
  pub written : new.written.queue ≡ old.written.queue
