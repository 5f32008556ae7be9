-- What the bytes of a claim of rows mean, and their least fault.
use Rattle.std.specs.Prelude.{ℕ, List}
use Rattle.raw_answer.specs.OneAnswer.{HasOneAnswer}
use Rattle.raw_answer.specs.Texts.{TextMeans, TextFault}
use Rattle.raw_model.specs.Program.{ProgramSet}
use Rattle.raw_set_text.specs.declared.kind.SetKind.{SetKind}
use Rattle.raw_set_text.specs.declared.kind.SetKind.TheVariants.{NotAscii, LineTooLong}
use Rattle.raw_stream_text.specs.Streams.{FedStream}
use Rattle.raw_row_claim_text.specs.Meaning.{Says, IsSaid, IsFault}

-- the bytes mean this set and this stream: no line is faulty as a line of text, and the lines mean them
abbrev pub RowMeaning : List ℕ → ProgramSet → FedStream → Type 0
RowMeaning bytes set fed = TextMeans Says bytes (set, fed)

-- the least fault of the bytes is this one, at this line, which is counted from 1
abbrev pub RowFault : List ℕ → ℕ → SetKind → Type 0
RowFault bytes line kind = TextFault NotAscii LineTooLong IsFault bytes line kind

-- the bytes mean exactly one set with exactly one stream, which keep all that they are to keep, or have exactly one least fault, and not both
abbrev pub IsOneText : List ℕ → Type 0
IsOneText bytes = HasOneAnswer (TextMeans Says bytes) (RowFault bytes) IsSaid
