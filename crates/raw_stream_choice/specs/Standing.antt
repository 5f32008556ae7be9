-- What stands before a set is proved against a stream.
use Rattle.std.specs.Prelude.{◌≡◌, ◌<◌, ◌^◌, length}
use Rattle.raw_model.specs.Program.{ProgramSet, IsSet}
use Rattle.raw_stream.specs.Streams.{Stream}
use Rattle.raw_stream.specs.Kept.{IsStream}
use Rattle.raw_stream_choice.specs.StreamSets.{stream_topo}
use Rattle.raw_stream_choice.specs.PortNumbers.{numbered}

-- a set on the grid of a stream, and the twin of the stream with the numbers of the ports of the set
pub record TwinStands (set : ProgramSet) (s twin : Stream) : Type 0 where
  pub valid : IsSet set
  pub stream : IsStream s
  pub few : length s.outs < 2 ^ 32
  pub grid : set.topo ≡ stream_topo s
  pub twin_is : twin ≡ numbered s
