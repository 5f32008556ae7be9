-- A machine that ran until it rests shows what the set comes to.
use Rattle.std.proofs.Common.{◌≡◌, ℕ, Bool, true, false, List, Option, None, Some, refl, sym, ap, ap₂, ◌∙◌, subst}
use Rattle.std.specs.Prelude.{MatchOption}
use Rattle.std.specs.Global.{Vec}
use Rattle.raw_model.specs.Program.{ProgramSet, IsSet}
use Rattle.raw_model.specs.Start.{MachineState, start}
use Rattle.raw_model.specs.Rest.{IsRun, end}
use Rattle.raw_model.specs.Serial.{serial}
use Rattle.raw_model.specs.Laws.{ComesToRest}
use Rattle.raw_model.specs.Outcomes.{Outcome, outcome}
use Rattle.raw_model.specs.StateTexts.{outcome_word}
use Rattle.raw_model.proofs.Orders.{same_rest}
use Rattle.raw_model.proofs.Sweeping.{serial_rests}
use Rattle.raw_model.specs.Waits.{waits_for}
use Rattle.raw_serial.specs.Running.{Running}
use Rattle.raw_serial.specs.Fresh.{IsFresh}
use Rattle.raw_clock.specs.declared.running.Cycles.{Cycles}
use Rattle.raw_clock.specs.Clock.{machine_at, clock, clock_steps, HasCycles}
use Rattle.raw_clock.specs.Counted.{IsCounted}
use Rattle.raw_clock.proofs.Clocking.{law_clock_at}
use Rattle.raw_steady.specs.Count.{cycle_count}
use Rattle.raw_report.specs.Report.{report}
use Rattle.raw_outcome.specs.declared.ends.Outcome.{Outcome as Answer}
use Rattle.raw_outcome.specs.declared.ends.Outcome.TheVariants as answer
use Rattle.raw_outcome.specs.Told.{told, word_of}
use Rattle.raw_depth.specs.Verdicts.{rest_of, is_done, waits_for_values}
use Rattle.raw_depths.specs.declared.running.Rested.{Rested}
use Rattle.raw_depths.specs.Text.{program_steps, report_of_set, cycle_lines}
use Rattle.raw_depths.specs.Found.{is_done_answer, IsRestedOf}

module _ (set : ProgramSet) (valid : IsSet set) (s : MachineState) (taken : List ℕ) (run : IsRun set taken) (there : end set taken ≡ s) where
  rests : (h : List ℕ) → IsRun set h → ComesToRest set (start set) h
  rests h run = record { lawful = run.lawful; quiet = run.quiet }

  -- it is the state in which the set rests
  pub rest_is : s ≡ rest_of set
  unfolding rest_of
  rest_is =
      sym there ∙ same_rest set valid (start set) (serial set) taken (rests (serial set) (serial_rests set valid)) (rests taken run)

-- the word of an answer does not ask who waits for whom
word_told : (next : ℕ → Option ℕ) (o : Answer) → word_of o ≡ outcome_word (told next o)
word_told next answer.Done = refl
word_told next _ = refl

done_told : (next : ℕ → Option ℕ) (o : Answer) → is_done_answer o ≡ is_done (told next o)
done_told next answer.Done = refl
done_told next _ = refl

pub word_is : (next : ℕ → Option ℕ) (o : Answer) (how : Outcome) → told next o ≡ how → word_of o ≡ outcome_word how
word_is next o how is = word_told next o ∙ ap outcome_word is

pub done_is : (next : ℕ → Option ℕ) (o : Answer) (how : Outcome) → told next o ≡ how → is_done_answer o ≡ is_done how
done_is next o how is = done_told next o ∙ ap is_done is

-- what waits are is the same of what is the same
waits_same : (w : Option (Vec ℕ)) (a b : Bool) (xs ys : List ℕ) → a ≡ b → xs ≡ ys
    → MatchOption w (a ≡ false) (λ lines. (a ≡ true) × (lines.items ≡ xs))
    → MatchOption w (b ≡ false) (λ lines. (b ≡ true) × (lines.items ≡ ys))
waits_same None a b xs ys e f off = sym e ∙ off
waits_same (Some lines) a b xs ys e f on = (sym e ∙ on.0, on.1 ∙ f)

module _ (set : ProgramSet) (old new : Running) (ran : Cycles) (fresh : IsFresh set old) (same : new.set ≡ old.set) (valid : IsSet new.set)
    (counted : IsCounted new ran) (run : IsRun new.set (clock_steps new.set ran.cycles)) where
  set_is : new.set ≡ set
  set_is = same ∙ fresh.set

  valid_there : IsSet set
  valid_there = subst IsSet set_is valid

  state_there : new.state ≡ rest_of set
  state_there =
      rest_is set valid_there new.state (clock_steps set ran.cycles) (subst (λ x. IsRun x (clock_steps x ran.cycles)) set_is run)
      ((law_clock_at set valid_there ran.cycles).there ∙ ap (λ x. machine_at (clock x ran.cycles)) (sym set_is) ∙ sym counted.state)

  run_there : IsRun new.set (serial set)
  run_there = subst (λ x. IsRun x (serial set)) (sym set_is) (serial_rests set valid_there)

  report_is : (text : List ℕ) → ((steps : List ℕ) → IsRun new.set steps → text ≡ report new.set steps) → text ≡ report_of_set set
  unfolding report_of_set
  report_is text each = each (serial set) run_there ∙ ap (λ x. report x (serial set)) set_is

  there : {X : Type 0} (F : ProgramSet → MachineState → X) → F new.set new.state ≡ F set (rest_of set)
  there F = ap₂ F set_is state_there

  pub rested : (r : Rested) → told (waits_for new.set new.state) r.rest.outcome ≡ outcome new.set new.state
      → r.rest.steps ≡ program_steps new.state
      → r.rest.cycles ≡ ran.cycles
      → ((set : ProgramSet) (n : ℕ) → IsSet set → HasCycles set n → n ≡ cycle_count set)
      → ((steps : List ℕ) → IsRun new.set steps → r.report.items ≡ report new.set steps)
      → MatchOption r.waits (waits_for_values new.set new.state ≡ false)
      (λ lines. (waits_for_values new.set new.state ≡ true) × (lines.items ≡ cycle_lines new.set new.state))
      → IsRestedOf set r
  rested r how steps cycles only reports waits =
      let next = waits_for new.set new.state in
      record {
        word = word_is next r.rest.outcome (outcome new.set new.state) how ∙ there (λ x s. outcome_word (outcome x s));
        done = done_is next r.rest.outcome (outcome new.set new.state) how ∙ there (λ x s. is_done (outcome x s));
        steps = steps ∙ there (λ x s. program_steps s);
        cycles = cycles ∙ only new.set ran.cycles valid counted.cycles ∙ ap cycle_count set_is;
        report = report_is r.report.items reports;
        waits = waits_same r.waits (waits_for_values new.set new.state) (waits_for_values set (rest_of set))
            (cycle_lines new.set new.state) (cycle_lines set (rest_of set)) (there waits_for_values) (there cycle_lines) waits;
      }
