-- What the bytes of a flow text mean, and their least fault.
use Rattle.std.specs.Prelude.{ℕ, List, None}
use Rattle.raw_answer.specs.OneAnswer.{HasOneAnswer}
use Rattle.raw_answer.specs.Texts.{TextMeans, TextFault}
use Rattle.raw_set_text.specs.declared.kind.SetKind.{SetKind}
use Rattle.raw_set_text.specs.declared.kind.SetKind.TheVariants.{NotAscii, LineTooLong}
use Rattle.raw_flow_text.specs.Flows.{FedFlow, IsFed}
use Rattle.raw_flow_text.specs.Meaning.{IsMeaning, IsFault}

-- the bytes mean this flow with these words: no line is faulty as a line of text, and the lines mean them
abbrev pub FlowMeaning : List ℕ → FedFlow → Type 0
FlowMeaning bytes fed = TextMeans (IsMeaning None) bytes fed

-- the least fault of the bytes is this one, at this line, which is counted from 1
abbrev pub FlowFault : List ℕ → ℕ → SetKind → Type 0
FlowFault bytes line kind = TextFault NotAscii LineTooLong (IsFault None 0) bytes line kind

-- the bytes mean exactly one flow with its words, which keeps all that such flows keep, or have exactly one least fault, and not both
abbrev pub IsOneText : List ℕ → Type 0
IsOneText bytes = HasOneAnswer (FlowMeaning bytes) (FlowFault bytes) IsFed
