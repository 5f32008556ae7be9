use Rattle.raw_owed.proofs.MissStreams.{each_only_delays}
use Rattle.raw_owed.proofs.laws.law_delays.Goals as goal

pub returns : goal.returns
returns c = each_only_delays c.law_miss_streams.ensures.runs c.law_miss_streams.ensures.rests
