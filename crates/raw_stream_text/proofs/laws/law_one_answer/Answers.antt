use Rattle.std.specs.Prelude.{length}
use Rattle.raw_answer.proofs.Places.{one_answer}
use Rattle.raw_stream_text.specs.Streams.{fed_by}
use Rattle.raw_stream_text.specs.Meaning.{said_in, fault_at, IsFed}
use Rattle.raw_stream_text.proofs.Ending.{faultless_fed}
use Rattle.raw_stream_text.proofs.laws.law_one_answer.Goals as goal

pub returns : goal.returns
returns c claimed from lines = one_answer (fault_at claimed lines) (length lines) from (fed_by (said_in lines)) (IsFed claimed) (faultless_fed claimed lines)
