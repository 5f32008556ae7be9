-- What the bytes of the text of a stream mean, and their least fault.
use Rattle.std.specs.Prelude.{ℕ, List, None}
use Rattle.raw_answer.specs.OneAnswer.{HasOneAnswer}
use Rattle.raw_answer.specs.Texts.{TextMeans, TextFault}
use Rattle.raw_set_text.specs.declared.kind.SetKind.{SetKind}
use Rattle.raw_set_text.specs.declared.kind.SetKind.TheVariants.{NotAscii, LineTooLong}
use Rattle.raw_stream_text.specs.Streams.{FedStream}
use Rattle.raw_stream_text.specs.Meaning.{IsMeaning, IsFault, IsFed}

-- the bytes mean this stream with these words: no line is faulty as a line of text, and the lines mean them
abbrev pub StreamMeaning : List ℕ → FedStream → Type 0
StreamMeaning bytes fed = TextMeans (IsMeaning None) bytes fed

-- the least fault of the bytes is this one, at this line, which is counted from 1
abbrev pub StreamFault : List ℕ → ℕ → SetKind → Type 0
StreamFault bytes line kind = TextFault NotAscii LineTooLong (IsFault None 0) bytes line kind

-- the bytes mean exactly one stream with its words, which keeps all that streams keep, or have exactly one least fault, and not both
abbrev pub IsOneText : List ℕ → Type 0
IsOneText bytes = HasOneAnswer (StreamMeaning bytes) (StreamFault bytes) (IsFed None)
