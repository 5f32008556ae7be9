-- What the bytes of a text mean as a set, and their least fault.
use Rattle.std.specs.Prelude.{ℕ, List, map}
use Rattle.raw_text.specs.Lines.{lines_of, tokens_of}
use Rattle.raw_answer.specs.OneAnswer.{HasOneAnswer}
use Rattle.raw_answer.specs.Texts.{TextMeans, TextFault}
use Rattle.raw_model.specs.Program.{ProgramSet, IsSet}
use Rattle.raw_set_text.specs.declared.kind.SetKind.{SetKind}
use Rattle.raw_set_text.specs.declared.kind.SetKind.TheVariants.{NotAscii, LineTooLong}
use Rattle.raw_set_text.specs.Meaning.{IsMeaning, IsFault}

-- the lines of a text, each as its tokens
abbrev pub token_lines : List ℕ → List (List (List ℕ))
token_lines bytes = map tokens_of (lines_of bytes)

-- the bytes mean this set: no line is faulty as a line of text, and the lines mean the set
abbrev pub Meaning : List ℕ → ProgramSet → Type 0
Meaning bytes set = TextMeans IsMeaning bytes set

-- the least fault of the bytes is this one, at this line, which is counted from 1
abbrev pub Fault : List ℕ → ℕ → SetKind → Type 0
Fault bytes line kind = TextFault NotAscii LineTooLong IsFault bytes line kind

-- the bytes mean exactly one set, which keeps all that sets keep, or have exactly one least fault, and not both
abbrev pub IsOneText : List ℕ → Type 0
IsOneText bytes = HasOneAnswer (Meaning bytes) (Fault bytes) IsSet
