-- What is said of a claim: the line of a verdict, or the lines of a refutation.
use Rattle.std.specs.Prelude.{ℕ, Option, Some, None, List, [], ◌++◌, codes, decimal}
use Rattle.raw_outcome.specs.declared.ends.Outcome.{Outcome}
use Rattle.raw_outcome.specs.Told.{word_of}
use Rattle.raw_model.specs.Texts.{word_text}
use Rattle.raw_term.specs.declared.verdict.Verdict.{Verdict}
use Rattle.raw_term.specs.declared.verdict.Verdict.TheVariants.{Proved, Hangs, TooMany, Rests, Inputs, Words, Differs}
use Rattle.raw_refute.specs.declared.fault.Fault.{Fault}
use Rattle.raw_refute.specs.declared.fault.Fault.TheVariants as fault
use Rattle.raw_refute.specs.declared.said.Answer.{Answer}
use Rattle.raw_refute.specs.declared.said.Answer.TheVariants as answer

-- a line that ends with a number
unfoldable pub number_line : List ℕ → ℕ → List ℕ
number_line front n = front ++ decimal n ++ codes "\n"

-- a line that ends with two numbers, of which the one stands for the other
unfoldable pub counts_line : List ℕ → ℕ → ℕ → List ℕ
counts_line front k n = front ++ decimal k ++ codes " for " ++ decimal n ++ codes "\n"

-- the line of a step that wants a word of an input
unfoldable pub hangs_line : ℕ → ℕ → List ℕ
hangs_line step p = codes "unproved at " ++ decimal step ++ codes ": " ++ decimal p ++ codes " hangs on an input\n"

-- the line of a run that comes to rest with this outcome
unfoldable pub rests_line : Outcome → List ℕ
rests_line how = codes "unproved: outcome " ++ word_of how ++ codes "\n"

-- the line of a claim of so many outs that is proved, and of the cycles of the set, where they are told
unfoldable pub proved_line : ℕ → ℕ → List ℕ
proved_line outs cycles = codes "proved " ++ decimal outs ++ codes " cycles " ++ decimal cycles ++ codes "\n"

abbrev pub proved_text : ℕ → Option ℕ → List ℕ
proved_text outs (Some cycles) = proved_line outs cycles
proved_text outs None = number_line (codes "proved ") outs

-- the line of a verdict; that of a claim that is proved tells the cycles of the set, where they are known for all words
abbrev pub verdict_text : Option ℕ → Verdict → List ℕ
verdict_text cycles (Proved outs) = proved_text outs cycles
verdict_text cycles (Hangs step p) = hangs_line step p.0
verdict_text cycles TooMany = codes "unproved: too many terms\n"
verdict_text cycles (Rests how) = rests_line how
verdict_text cycles (Inputs inputs words) = counts_line (codes "unproved: inputs ") inputs words
verdict_text cycles (Words received outs) = counts_line (codes "unproved: words ") received outs
verdict_text cycles (Differs out) = number_line (codes "unproved: out ") out

-- the line of how a run differs from a claim
unfoldable pub fault_text : Fault → List ℕ
fault_text (fault.Ends how) = codes "refuted: outcome " ++ word_of how ++ codes "\n"
fault_text (fault.Words received outs) = counts_line (codes "refuted: words ") received outs
fault_text (fault.Out out word claim) = number_line (codes "refuted: out ") out

-- the lines of the word that was received for an out, and of the one that is claimed
unfoldable pub words_text : Fault → List ℕ
words_text (fault.Out out word claim) = codes "word " ++ word_text word ++ codes "\nclaim " ++ word_text claim ++ codes "\n"
words_text _ = []

-- What is said of a claim of a set of so many cycles, where they are told; what is proved by rows tells none. `words` are the lines of the words
-- with which the set is left.
abbrev pub answer_text : Option ℕ → List ℕ → Answer → List ℕ
answer_text cycles words (answer.Proved outs) = proved_text outs cycles
answer_text cycles words (answer.ProvedByRows outs) = proved_text outs None
answer_text cycles words (answer.Refuted inputs fault) = fault_text fault ++ words ++ words_text fault
answer_text cycles words (answer.Unproved verdict) = verdict_text None verdict
