use Rattle.std.proofs.Common.{◌≡◌, ◌≤◌}
use Rattle.raw_model.specs.declared.limits.TheConstants.{MAX_ALL_WORDS}
use Rattle.raw_stream.specs.Unrolled.{first}
use Rattle.raw_stream.proofs.stream.StreamFlow.has_many_words.Given as goal

abbrev pub invariant-loop-port : goal.invariant-loop-port
invariant-loop-port l = record {
  sum : l.total ≡ first l.self l.port;
  few : l.total ≤ MAX_ALL_WORDS;
}
