use Rattle.raw_debug.proofs.Standing.{passes_none}
use Rattle.raw_debug.proofs.passing.Passing.new.Goals as goal

pub returns : goal.returns
returns c = passes_none 256
