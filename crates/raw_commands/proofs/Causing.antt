-- The cause of each status.
use Rattle.std.proofs.Common.{◌≡◌, ◌⊎◌, [], Option, Some, None, Ok, Err, refl, sym, ◌∙◌, ap, subst, inl, inr, arith}
use Rattle.raw_io.specs.Sights.{SourceSight}
use Rattle.raw_command_line.specs.declared.arguments.Command.{Command}
use Rattle.raw_command_line.specs.declared.arguments.Command.TheVariants.{Alone, Reads}
use Rattle.raw_shell.specs.declared.failure.Failure.TheVariants.{Use, Refused, ReadFault, WriteFault, Memory, TooLong}
use Rattle.raw_inputs.specs.declared.flaw.InputFlaw.TheVariants as flaw
use Rattle.raw_shell.specs.Answers.{status_of, Said}
use Rattle.raw_owed.specs.Answers.{Answer, err_line}
use Rattle.raw_inputs.specs.Flaws.{flaw_line}
use Rattle.raw_shell.specs.Seen.{Unread, Untouched, Says, GivesOneTooMany, GivesFew}
use Rattle.raw_commands.specs.Ended.{FailsToRead, Answered, Performed, Ended, RefusesUse}
use Rattle.raw_shell.specs.Call.{IsEndingStatus}
use Rattle.raw_commands.specs.Call.{Call}
use Rattle.raw_commands.specs.Causes.{RefusedWords, RefusedInput, WentPast, FailedWrite, WasDone, Causes}
use Rattle.raw_commands.proofs.Statuses.{apart, not_done}

-- which answers have a status
is_fault : (answer : Answer) → status_of answer ≡ 7 → answer ≡ Err ReadFault
is_fault (Ok ending) h = absurd (apart ending 7 refl h)
is_fault (Err ReadFault) h = refl
is_fault (Err _) h = absurd (cc h)

pub is_write_fault : (answer : Answer) → status_of answer ≡ 8 → answer ≡ Err WriteFault
is_write_fault (Ok ending) h = absurd (apart ending 8 refl h)
is_write_fault (Err WriteFault) h = refl
is_write_fault (Err _) h = absurd (cc h)

is_memory : (answer : Answer) → status_of answer ≡ 9 → answer ≡ Err Memory
is_memory (Ok ending) h = absurd (apart ending 9 refl h)
is_memory (Err Memory) h = refl
is_memory (Err _) h = absurd (cc h)

is_too_long : (answer : Answer) → status_of answer ≡ 10 → answer ≡ Err TooLong
is_too_long (Ok ending) h = absurd (apart ending 10 refl h)
is_too_long (Err TooLong) h = refl
is_too_long (Err _) h = absurd (cc h)

module _ (call : Call) where
  performed_fault : (command : Command) → Performed command call.seen.source call.seen.out (Err ReadFault) → FailsToRead call.seen.source × Untouched call.seen.out
  performed_fault (Reads command) (inl s) = (s.cause, s.untouched)
  performed_fault (Reads command) (inr r) = absurd r.obeyed
  performed_fault (Alone command) p = absurd p.obeyed

  at_fault : (words : Option Command) → Answered words call.seen.source call.seen.out (Err ReadFault) → FailsToRead call.seen.source × Untouched call.seen.out
  at_fault None a = absurd (cc a.is_use)
  at_fault (Some command) a = performed_fault command a

  -- a command that was obeyed, with the input that was read
  at_write : (words : Option Command) → call.words ≡ words → Answered words call.seen.source call.seen.out (Err WriteFault) → Says call.seen.err (err_line WriteFault) → FailedWrite call
  at_write None is a said = absurd (cc a.is_use)
  at_write (Some (Reads command)) is (inl s) said = absurd s.cause
  at_write (Some (Reads command)) is (inr r) said =
      record { command = Reads command; words_are = is; input = r.input; read = r.read; put = r.obeyed; said = said }
  at_write (Some (Alone command)) is p said =
      record { command = Alone command; words_are = is; input = []; read = (refl, p.unread); put = p.obeyed; said = said }

  -- a source that was not asked gave nothing
  unread_few : Unread call.seen.source → GivesFew call.seen.source
  unread_few unread = omega (arith, ap (λ (s : SourceSight). s.given) unread)

  performed_memory : (command : Command) → Performed command call.seen.source call.seen.out (Err Memory) → GivesFew call.seen.source × Untouched call.seen.out
  performed_memory (Reads command) (inl s) = (s.cause, s.untouched)
  performed_memory (Reads command) (inr r) = (omega (arith, r.short, r.read.counted), r.obeyed)
  performed_memory (Alone command) p = (unread_few p.unread, p.obeyed)

  at_memory : (words : Option Command) → Answered words call.seen.source call.seen.out (Err Memory) → GivesFew call.seen.source × Untouched call.seen.out
  at_memory None a = absurd (cc a.is_use)
  at_memory (Some command) a = performed_memory command a

  performed_long : (command : Command) → Performed command call.seen.source call.seen.out (Err TooLong) → GivesOneTooMany call.seen.source × Untouched call.seen.out
  performed_long (Reads command) (inl s) = (s.cause, s.untouched)
  performed_long (Reads command) (inr r) = absurd r.obeyed
  performed_long (Alone command) p = absurd p.obeyed

  at_long : (words : Option Command) → Answered words call.seen.source call.seen.out (Err TooLong) → GivesOneTooMany call.seen.source × Untouched call.seen.out
  at_long None a = absurd (cc a.is_use)
  at_long (Some command) a = performed_long command a

  at_done : (words : Option Command) → call.words ≡ words → (answer : Answer) → call.status ≡ status_of answer → Answered words call.seen.source call.seen.out answer
      → Said flaw_line call.seen.err answer → IsEndingStatus (status_of answer) → WasDone call
  at_done words is (Err failure) ends a said h = absurd (not_done failure h)
  at_done None is (Ok ending) ends a said h = absurd (cc a.is_use)
  at_done (Some (Reads command)) is (Ok ending) ends (inl s) said h = absurd s.cause
  at_done (Some (Reads command)) is (Ok ending) ends (inr r) said h =
      record { command = Reads command; words_are = is; input = r.input; read = r.read; ending = ending; status_is = ends; put = r.obeyed; silent = said }
  at_done (Some (Alone command)) is (Ok ending) ends p said h =
      record { command = Alone command; words_are = is; input = []; read = (refl, p.unread); ending = ending; status_is = ends; put = p.obeyed; silent = said }

  refused_words : (answer : Answer) → RefusesUse call.seen.source call.seen.out answer → Said flaw_line call.seen.err answer → call.status ≡ status_of answer → RefusedWords call
  refused_words answer r said ends = record {
    two = ends ∙ ap status_of r.is_use;
    unread = r.unread;
    untouched = r.untouched;
    said = subst (λ a. Said flaw_line call.seen.err a) r.is_use said;
  }

  refused_input : (command : Command) (answer : Answer) → status_of answer ≡ 2 → Performed command call.seen.source call.seen.out answer → Said flaw_line call.seen.err answer
      → RefusedInput command call ⊎ WentPast command call
  refused_input command (Ok ending) h p said = absurd (apart ending 2 refl h)
  refused_input (Reads command) (Err (Refused (flaw.At refusal))) h (inl s) said = absurd s.cause
  refused_input (Reads command) (Err (Refused (flaw.At refusal))) h (inr r) said =
      inl (record { input = r.input; read = r.read; refusal = refusal; refused = r.obeyed.refused; untouched = r.obeyed.untouched; said = said })
  refused_input (Alone command) (Err (Refused (flaw.At refusal))) h p said = absurd p.obeyed.refused
  refused_input (Reads command) (Err (Refused (flaw.PastEnd line))) h (inl s) said = absurd s.cause
  refused_input (Reads command) (Err (Refused (flaw.PastEnd line))) h (inr r) said =
      inr (record { input = r.input; read = r.read; line = line; output = r.obeyed.output; past = r.obeyed.past; put = r.obeyed.put; said = said })
  refused_input (Alone command) (Err (Refused (flaw.PastEnd line))) h p said = absurd p.obeyed.past
  refused_input (Reads command) (Err Use) h (inl s) said = absurd s.cause
  refused_input (Reads command) (Err Use) h (inr r) said = absurd r.obeyed
  refused_input (Alone command) (Err Use) h p said = absurd p.obeyed
  refused_input command (Err _) h p said = absurd (cc h)

  pub causes_of : Ended call → Causes call
  causes_of e =
      let held : (answer : Answer) → e.answer ≡ answer → Answered call.words call.seen.source call.seen.out answer =
      λ answer is. subst (λ a. Answered call.words call.seen.source call.seen.out a) is e.answered in
      let says : (answer : Answer) → e.answer ≡ answer → Said flaw_line call.seen.err answer = λ answer is. subst (λ a. Said flaw_line call.seen.err a) is e.said in
      record {
        no_command = λ none.
            refused_words e.answer (subst (λ w. Answered w call.seen.source call.seen.out e.answer) none e.answered) e.said e.status_is;
        two = λ command is h. refused_input command e.answer (sym e.status_is ∙ h)
            (subst (λ w. Answered w call.seen.source call.seen.out e.answer) is e.answered) e.said;
        seven = λ h. let is : e.answer ≡ Err ReadFault = is_fault e.answer (sym e.status_is ∙ h) in
            let p : FailsToRead call.seen.source × Untouched call.seen.out = at_fault call.words (held (Err ReadFault) is) in
            record { failed = p.0.failed; few = p.0.few; untouched = p.1; said = says (Err ReadFault) is };
        eight = λ h. let is : e.answer ≡ Err WriteFault = is_write_fault e.answer (sym e.status_is ∙ h) in
            at_write call.words refl (held (Err WriteFault) is) (says (Err WriteFault) is);
        nine = λ h. let is : e.answer ≡ Err Memory = is_memory e.answer (sym e.status_is ∙ h) in
            let p : GivesFew call.seen.source × Untouched call.seen.out = at_memory call.words (held (Err Memory) is) in
            record { few = p.0; untouched = p.1; said = says (Err Memory) is };
        ten = λ h. let is : e.answer ≡ Err TooLong = is_too_long e.answer (sym e.status_is ∙ h) in
            let p : GivesOneTooMany call.seen.source × Untouched call.seen.out = at_long call.words (held (Err TooLong) is) in
            record { many = p.0; untouched = p.1; said = says (Err TooLong) is };
        done = λ h. at_done call.words refl e.answer e.status_is e.answered e.said (subst IsEndingStatus e.status_is h);
      }
