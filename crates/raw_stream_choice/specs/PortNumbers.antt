-- A stream whose ports have the numbers of those of a set for it.
use Rattle.std.specs.Prelude.{ℕ, ◌+◌, ◌++◌, length, map}
use Rattle.raw_stream.specs.declared.out.StreamOut.{StreamOut}
use Rattle.raw_stream.specs.Streams.{Stream}

-- an out to a sink that stands behind so many ports
abbrev pub out_behind : ℕ → StreamOut → StreamOut
out_behind ports out = record { port = ports + out.port; node = out.node }

-- the sinks stand behind the sources
unfoldable pub numbered : Stream → Stream
numbered s = record {
  cols = s.cols;
  rows = s.rows;
  count = s.count;
  sources = s.sources ++ s.sinks;
  sinks = s.sources ++ s.sinks;
  nodes = s.nodes;
  outs = map (out_behind (length s.sources)) s.outs;
}
