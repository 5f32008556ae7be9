-- The line that sums up a run of the generated set.
use Rattle.std.specs.Prelude.{ℕ, ◌%◌, ◌^◌, List, ◌++◌, length, codes, sum, sum_by}
use Rattle.std.specs.Fmt.{decimal}
use Rattle.std.specs.List.{flat_map}
use Rattle.raw_model.specs.Local.{steps_of}
use Rattle.raw_model.specs.Start.{MachineState}
use Rattle.raw_model.specs.Outcomes.{Outcome, outcome}
use Rattle.raw_model.specs.Rest.{end}
use Rattle.raw_model.specs.Texts.{word_text}
use Rattle.raw_model.specs.StateTexts.{outcome_word}
use Rattle.raw_model.specs.Parts.{got_by}
use Rattle.raw_generated.specs.Generated.{generated}

-- all words that came out
unfoldable pub words_out : MachineState → List ℕ
words_out s = flat_map got_by s.locals

-- the steps of all processors together
unfoldable pub all_steps : MachineState → ℕ
all_steps s = sum_by steps_of s.locals

-- the line 'work N OUTCOME words K sum S steps M', with this outcome, these words and this number of steps
unfoldable pub summary_line : ℕ → Outcome → List ℕ → ℕ → List ℕ
summary_line n how words steps =
    codes "work " ++ decimal n ++ codes " " ++ outcome_word how ++ codes " words " ++ decimal (length words) ++ codes " sum 0x" ++ word_text (sum words % 2 ^ 32) ++ codes " steps " ++ decimal steps ++ codes "\n"

-- the line of the generated set of n words in a state
unfoldable pub summary_of : ℕ → MachineState → List ℕ
summary_of n s = summary_line n (outcome (generated n) s) (words_out s) (all_steps s)

-- the line of a list of steps of the generated set of n words
unfoldable pub summary : ℕ → List ℕ → List ℕ
summary n steps = summary_of n (end (generated n) steps)
