-- The compiled set of a stream: that of the flow that it is, with the ports of the stream.
use Rattle.std.specs.Prelude.{◌≡◌, ℕ, ◌*◌, ◌<◌, ◌≤◌, List, length, replicate}
use Rattle.std.specs.List.{flat_map, range_with_len}
use Rattle.raw_model.specs.Program.{ProgramSet, IsSet}
use Rattle.raw_model.specs.Start.{MachineState}
use Rattle.raw_model.specs.Rest.{IsRun, end}
use Rattle.raw_model.specs.Outcomes.{Done, outcome}
use Rattle.raw_codegen.specs.Limits.{AreShort}
use Rattle.raw_flow.specs.declared.limits.TheConstants.{MAX_NODES}
use Rattle.raw_flow.specs.Flows.{IsFlow, AreInputs, inputs_in}
use Rattle.raw_flow.specs.Ports.{FlowPorts, ArePorts}
use Rattle.raw_flow.specs.Compiled.{compiled_at}
use Rattle.raw_flow.specs.Right.{words_at_sink}
use Rattle.raw_stream.specs.Streams.{Stream, due_to}
use Rattle.raw_stream.specs.Unrolled.{width, word_count, all_rows, unrolled}
use Rattle.raw_stream.specs.Kept.{IsStream, due_count}

-- so many times each of these numbers, one after another
abbrev pub in_turn : (ℕ → ℕ) → ℕ → List ℕ
in_turn counts n = flat_map (λ q. replicate (counts q) q) (range_with_len 0 n)

-- The ports of a stream as those of the flow that it is: its inputs are those of the sources, one source behind the other, and so are its outs those of
-- the sinks.
abbrev pub stream_ports : Stream → FlowPorts
stream_ports s = record {
  sources = s.sources;
  sinks = s.sinks;
  comes = in_turn (λ q. s.count * width s q) (length s.sources);
  goes = in_turn (due_count s) (length s.sinks);
}

-- the flow that a stream is and its ports keep what flows and ports keep, and the flow has an input for each word of the sources
pub record IsPlaced (s : Stream) : Type 0 where
  pub flow : IsFlow (unrolled s)
  pub ports : ArePorts (unrolled s) (stream_ports s)
  pub inputs : inputs_in (unrolled s).nodes ≡ word_count s

-- so it is for every stream that fits unrolled
abbrev pub EachStreamIsPlaced : Type 0
EachStreamIsPlaced = (s : Stream) → IsStream s → length (unrolled s).nodes ≤ MAX_NODES → IsPlaced s

-- the compiled set of a stream whose sources have these words, one source behind the other
abbrev pub compiled_stream : Stream → List ℕ → ProgramSet
compiled_stream s words = compiled_at (unrolled s) (stream_ports s) words

-- a state in which all is done, and each sink has what it is due of all rows
pub record IsStreamRight (s : Stream) (words : List ℕ) (state : MachineState) : Type 0 where
  pub done : outcome (compiled_stream s words) state ≡ Done
  pub due : (q : ℕ) → q < length s.sinks → words_at_sink (unrolled s) (stream_ports s) q state ≡ due_to s q (all_rows s words)

-- every lawful list of steps of the compiled set that comes to rest ends in such a state
abbrev pub EachStreamRunIsRight : Stream → List ℕ → Type 0
EachStreamRunIsRight s words = (steps : List ℕ) → IsRun (compiled_stream s words) steps → IsStreamRight s words (end (compiled_stream s words) steps)

-- so it is for every stream that fits unrolled, with the words of its sources
abbrev pub EachStreamIsRight : Type 0
EachStreamIsRight =
    (s : Stream) (words : List ℕ) → IsStream s → length (unrolled s).nodes ≤ MAX_NODES → AreInputs (unrolled s) words →
    IsSet (compiled_stream s words) → EachStreamRunIsRight s words

-- where its programs are within the limits, the compiled set keeps all that sets keep
abbrev pub EachStreamIsSet : Type 0
EachStreamIsSet =
    (s : Stream) (words : List ℕ) → IsStream s → length (unrolled s).nodes ≤ MAX_NODES → AreInputs (unrolled s) words →
    AreShort (compiled_stream s words).tiles → IsSet (compiled_stream s words)
