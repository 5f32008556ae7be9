-- What an answer says of how a state came to rest.
use Rattle.std.specs.Prelude.{ℕ, Option, None, List, Bool, not, ◌&&◌, ◌==◌}
use Rattle.raw_cycle.specs.Cycles.{others_of}
use Rattle.raw_model.specs.Outcomes.{Outcome, is_unhalted, is_halted_mark}
use Rattle.raw_model.specs.Outcomes.Outcome.{Done, Deadlock, Trapped, Limit, Stuck}
use Rattle.raw_model.specs.Program.{ProgramSet}
use Rattle.raw_model.specs.Local.{Local}
use Rattle.raw_model.specs.Rest.{is_trap, is_trapped, is_at_limit}
use Rattle.raw_model.specs.Machine.{is_ended}
use Rattle.raw_model.specs.StateTexts.{outcome_word}
use Rattle.raw_model.specs.declared.marks.Mark.{Mark}
use Rattle.raw_outcome.specs.declared.ends.Outcome.{Outcome as Answer}
use Rattle.raw_outcome.specs.declared.ends.Outcome.TheVariants as answer
use Rattle.raw_outcome.specs.declared.ends.Test.{Test}
use Rattle.raw_outcome.specs.declared.ends.Test.TheVariants as test

-- the outcome that an answer tells, where each processor waits for this one: of a cycle the others follow from the
-- least one, each the processor that the one before it waits for
abbrev pub told : (ℕ → Option ℕ) → Answer → Outcome
told next answer.Done = Done
told next (answer.Deadlock least length) = Deadlock least.0 (others_of next least.0 length)
told next (answer.Trapped p) = Trapped p.0
told next (answer.Limit p) = Limit p.0
told next (answer.Stuck p) = Stuck p.0

-- its one word, which does not ask who waits for whom
abbrev pub word_of : Answer → List ℕ
word_of o = outcome_word (told (λ p. None) o)

-- whether a tile or a switch with this mark and count passes, under this limit
abbrev pub mark_passes : ℕ → Test → Mark → ℕ → Bool
mark_passes limit test.Trapped mark count = is_trap mark
mark_passes limit test.Limit mark count = not (is_ended mark) && (count == limit)
mark_passes limit test.Unhalted mark count = not (is_halted_mark mark)

-- the local states that a test is for
abbrev pub passes : ProgramSet → Test → Local → Bool
passes set test.Trapped = is_trapped
passes set test.Limit = is_at_limit set
passes set test.Unhalted = is_unhalted
