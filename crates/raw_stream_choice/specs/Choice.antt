-- What may be written for a stream that is scheduled.
use Rattle.std.specs.Prelude.{◌≡◌, ℕ, ◌^◌, ◌<◌, ◌≤◌, List, length, All}
use Rattle.raw_model.specs.Program.{ProgramSet, IsSet}
use Rattle.raw_codegen.specs.Limits.{AreShort}
use Rattle.raw_flow.specs.declared.limits.TheConstants.{MAX_NODES}
use Rattle.raw_stream.specs.Streams.{Stream}
use Rattle.raw_stream.specs.Unrolled.{word_count, unrolled}
use Rattle.raw_stream.specs.Kept.{IsStream}
use Rattle.raw_unroll.specs.Compiled.{compiled_stream}
use Rattle.raw_term.specs.Claims.{Meets}
use Rattle.raw_clock.specs.Clock.{HasCycles}
use Rattle.raw_stream_choice.specs.StreamSets.{IsSetForStream}

-- the compiled set of a stream is made where neither the nodes of the flow that it is when it is unrolled nor the programs are too many
pub record IsCompilable (s : Stream) (words : List ℕ) : Type 0 where
  pub few : length (unrolled s).nodes ≤ MAX_NODES
  pub short : AreShort (compiled_stream s words).tiles

-- a set takes no more cycles than another
pub record TakesNoMore (set other : ProgramSet) : Type 0 where
  pub cycles : ℕ
  pub most : ℕ
  pub has : HasCycles set cycles
  pub other_has : HasCycles other most
  pub no_more : cycles ≤ most

-- a set that has the grid, the ports and the words of a stream, whatever its programs are, and that meets the flow that the stream is when it is
-- unrolled, for all words
pub record MeetsStream (s : Stream) (words : List ℕ) (set : ProgramSet) : Type 0 where
  pub valid : IsSet set
  pub same : IsSetForStream s words set
  pub meets : Meets set (unrolled s)

-- the compiled set is one, where it is made
abbrev pub EachCompiledMeets : Type 0
EachCompiledMeets =
    (s : Stream) (words : List ℕ) → IsStream s → length words ≡ word_count s → All (λ word. word < 2 ^ 32) words →
    IsCompilable s words → MeetsStream s words (compiled_stream s words)

-- such a set that takes no more cycles than the compiled set, where that is made
pub record IsStreamChoice (s : Stream) (words : List ℕ) (set : ProgramSet) : Type 0 where
  pub is : MeetsStream s words set
  pub no_more : IsCompilable s words → TakesNoMore set (compiled_stream s words)
