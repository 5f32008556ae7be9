-- A set that is proved for numbers of rows meets a stream row by row.
use Rattle.std.proofs.Common.{arith}
use Rattle.raw_model.specs.Program.{ProgramSet}
use Rattle.raw_stream.specs.Streams.{Stream}
use Rattle.raw_cut.specs.declared.extent.Extent.{Extent}
use Rattle.raw_cut.specs.Live.{IsMetFrom}
use Rattle.raw_stream_choice.specs.PortNumbers.{numbered}
use Rattle.raw_stream_choice.specs.Endless.{IsLong, MeetsNumbersOfRows}

-- what is so from a number of rows on is so from a greater one on
pub met_rows : (s : Stream) (set : ProgramSet) (extent : Extent) → IsLong extent → IsMetFrom set (numbered s) extent.least extent.most extent.lacks.items → MeetsNumbersOfRows s set
met_rows s set extent long met = record {
  least = long.delay;
  most = extent.most;
  lacks = extent.lacks.items;
  many = long.most;
  few = long.lacks;
  met = λ rows low high are. met rows (let least = long.least in omega (arith, least, low)) high are;
}
