-- What the bytes of the text of a flow mean, plain or of rows, and their least fault.
use Rattle.std.specs.Prelude.{◌≡◌, ◌⊎◌, ℕ, ◌+◌, ◌≤◌, Bool, true, false, List, length, None}
use Rattle.raw_answer.specs.OneAnswer.{HasOneAnswer}
use Rattle.raw_answer.specs.Texts.{TextMeans, TextFault}
use Rattle.raw_answer.specs.Made.{Makes, MeansTooMuch}
use Rattle.raw_set_text.specs.declared.kind.SetKind.{SetKind}
use Rattle.raw_set_text.specs.declared.kind.SetKind.TheVariants.{NotAscii, LineTooLong, OverLimit}
use Rattle.raw_set_text.specs.declared.kind.SetRefusal.{SetRefusal}
use Rattle.raw_flow.specs.declared.limits.TheConstants.{MAX_NODES}
use Rattle.raw_flow_text.specs.Flows.{FedFlow}
use Rattle.raw_flow_text.specs.Causes.{IsCauseOf}
use Rattle.raw_flow_text.specs.Meaning as flow
use Rattle.raw_stream.specs.Unrolled.{unrolled}
use Rattle.raw_stream_text.specs.Streams.{FedStream}
use Rattle.raw_stream_text.specs.Meaning.{is_stream}
use Rattle.raw_stream_text.specs.Meaning as stream
use Rattle.raw_either_flow.specs.Placed.{PlacedFlow, IsPlacedFlow, plain_flow, stream_flow}

-- the flow that a stream is, when it is unrolled, fits
abbrev pub Fits : FedStream → Type 0
Fits fed = length (unrolled fed.stream).nodes ≤ MAX_NODES

-- the lines mean this flow: those of a stream one that it is and that fits, and others a plain one
abbrev pub MeansOf : Bool → List (List (List ℕ)) → PlacedFlow → Type 0
MeansOf false lines placed = (fed : FedFlow) × flow.IsMeaning None lines fed × (placed ≡ plain_flow fed)
MeansOf true lines placed = Makes (stream.IsMeaning None lines) Fits stream_flow placed

-- the least fault of the lines: those of a stream may mean one that does not fit, which is told behind the last line
abbrev pub FaultOf : Bool → List (List (List ℕ)) → ℕ → SetKind → Type 0
FaultOf false lines line kind = flow.IsFault None 0 lines line kind
FaultOf true lines line kind = stream.IsFault None 0 lines line kind ⊎ MeansTooMuch (stream.IsMeaning None lines) Fits (length lines + 1) OverLimit line kind

-- why lines are not read: their fault, or want of memory
abbrev pub CauseOf : Bool → List (List (List ℕ)) → SetRefusal → Type 0
CauseOf rows lines refusal = IsCauseOf (FaultOf rows lines) refusal

-- what lines mean, and their least fault, by whether they are those of a stream
abbrev pub IsMeaning : List (List (List ℕ)) → PlacedFlow → Type 0
IsMeaning lines placed = MeansOf (is_stream lines) lines placed

abbrev pub IsFault : List (List (List ℕ)) → ℕ → SetKind → Type 0
IsFault lines line kind = FaultOf (is_stream lines) lines line kind

-- the bytes mean this flow: no line is faulty as a line of text, and the lines mean it
abbrev pub EitherMeaning : List ℕ → PlacedFlow → Type 0
EitherMeaning bytes placed = TextMeans IsMeaning bytes placed

-- the least fault of the bytes is this one, at this line, which is counted from 1
abbrev pub EitherFault : List ℕ → ℕ → SetKind → Type 0
EitherFault bytes line kind = TextFault NotAscii LineTooLong IsFault bytes line kind

-- the bytes mean exactly one flow with its ports and words, which keeps all that such flows keep, or have exactly one least fault, and not both
abbrev pub IsOneText : List ℕ → Type 0
IsOneText bytes = HasOneAnswer (EitherMeaning bytes) (EitherFault bytes) IsPlacedFlow
