use Rattle.raw_debug.proofs.Replaying.{replay, more_answers}
use Rattle.raw_debug.proofs.laws.law_replay.Goals as goal

pub returns : goal.returns
returns c = record { replay = replay; more = more_answers }
