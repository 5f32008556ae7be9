-- The texts of words, of traps and of how a grid came to rest, of which reports and answers are made.
use Rattle.std.specs.Prelude.{ℕ, List, ◌++◌, codes}
use Rattle.std.specs.List.{flat_map}
use Rattle.std.specs.Int.{w32, to_be_bytes}
use Rattle.hex.specs.Hex.{encode_lower}
use Rattle.raw_model.specs.declared.marks.Cause.{Cause}
use Rattle.raw_model.specs.declared.marks.Cause.TheVariants.{Misaligned, PastMemory, Pc}
use Rattle.raw_model.specs.declared.ending.Ending.{Ending}
use Rattle.raw_model.specs.declared.ending.Ending.TheVariants.{Done, Deadlock, Stuck, Trapped, Limit}

-- a word as eight lower case hexadecimal digits
unfoldable pub word_text : ℕ → List ℕ
word_text word = encode_lower (to_be_bytes w32 word)

-- each word with a blank before it
abbrev pub words_text : List ℕ → List ℕ
words_text words = flat_map (λ word. codes " " ++ word_text word) words

-- why a processor was trapped
abbrev pub cause_text : Cause → List ℕ
cause_text Misaligned = codes "misaligned"
cause_text PastMemory = codes "past-memory"
cause_text Pc = codes "pc"

-- how a grid came to rest, in one word
abbrev pub ending_word : Ending → List ℕ
ending_word Done = codes "done"
ending_word Deadlock = codes "deadlock"
ending_word Stuck = codes "stuck"
ending_word Trapped = codes "trapped"
ending_word Limit = codes "limit"
