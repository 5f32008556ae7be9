use Rattle.raw_processor.proofs.Standing.{stands_at_first}
use Rattle.raw_processor.proofs.cache.Cache.new.Goals as goal

pub returns : goal.returns
returns c = stands_at_first
