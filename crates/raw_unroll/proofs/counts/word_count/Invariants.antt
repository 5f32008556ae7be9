use Rattle.std.proofs.Common.{◌≡◌, ◌≤◌}
use Rattle.raw_model.specs.declared.limits.TheConstants.{MAX_ALL_WORDS}
use Rattle.raw_stream.specs.Unrolled.{first}
use Rattle.raw_unroll.proofs.counts.word_count.Given as goal

abbrev pub invariant-loop-port : goal.invariant-loop-port
invariant-loop-port l = record {
  sum : l.total ≡ first l.stream l.port;
  few : l.total ≤ MAX_ALL_WORDS;
}
