-- What the one relation says to a reader: all that is promised of a call.
use Rattle.std.proofs.Common.{◌≡◌, ◌⊎◌, ℕ, ◌+◌, ◌≤◌, ◌<◌, List, [], ◌++◌, length, Option, Some, None, Ok, Err, refl, sym, ◌∙◌, ap, subst, inl, inr, arith, length-append}
use Rattle.std.proofs.lemmas.List.{append-nil}
use Rattle.std.specs.Io.KnownBytes.{Consumes, Appends, IsAtEnd}
use Rattle.raw_model.specs.Program.{ProgramSet}
use Rattle.raw_set_text.specs.Listing.{listing}
use Rattle.raw_image.specs.Image.{image}
use Rattle.raw_debug.specs.Script.{script_text}
use Rattle.raw_names.specs.Names.{names_text}
use Rattle.raw_inputs.specs.declared.form.InputForm.{InputForm}
use Rattle.raw_inputs.specs.declared.form.InputForm.TheVariants.{Text, Image, Plan, Flow, Script}
use Rattle.raw_command_line.specs.declared.arguments.AloneCommand.{AloneCommand}
use Rattle.raw_command_line.specs.declared.arguments.AloneCommand.TheVariants.{Fixed, Work}
use Rattle.raw_command_line.specs.declared.arguments.RunOutput.{RunOutput}
use Rattle.raw_command_line.specs.declared.arguments.RunOutput.TheVariants.{State, History}
use Rattle.raw_command_line.specs.declared.arguments.StateOutput.TheVariants.{Report, Picture}
use Rattle.raw_command_line.specs.declared.arguments.FlowSet.TheVariants.{Compiled, Scheduled, Endless}
use Rattle.raw_command_line.specs.declared.arguments.ReadingCommand.{ReadingCommand}
use Rattle.raw_command_line.specs.declared.arguments.ReadingCommand.TheVariants.{Run, Cycles, Path, Trace, Depths, Steady, Names, Lines, Asm, List as ListCommand, Plan as PlanCommand, Flow as FlowCommand, Check, Debug, Prove, ProveLive}
use Rattle.raw_command_line.specs.declared.arguments.Command.{Command}
use Rattle.raw_command_line.specs.declared.arguments.Command.TheVariants.{Alone, Reads}
use Rattle.raw_shell.specs.declared.ending.CommandEnding.{CommandEnding}
use Rattle.raw_inputs.specs.declared.flaw.Refusal.{Refusal}
use Rattle.raw_shell.specs.declared.failure.Failure.TheVariants.{Refused, ReadFault, WriteFault, Memory, TooLong}
use Rattle.raw_inputs.specs.declared.flaw.InputFlaw.TheVariants as flaw
use Rattle.raw_shell.specs.Answers.{status_of, ending_status, Said}
use Rattle.raw_owed.specs.Answers.{Answer, err_line}
use Rattle.raw_inputs.specs.Flaws.{flaw_line}
use Rattle.raw_inputs.specs.Inputs.{labels_before, whole, lines_behind, IsOneInput}
use Rattle.raw_owed.specs.Owed.{Owes, GoesPast, Refuses, IsRefused, IsRunOutput, IsCyclesOutput, IsPathOutput, IsTraceOutput, IsDepthsOutput, IsSteadyOutput, IsCheckOutput, IsDebugOutput, IsPastOutput, IsSetOutput, IsLinesOutput, IsWorkOutput, IsTextOutput}
use Rattle.raw_owed.specs.ClaimOutputs.{IsProveOutput}
use Rattle.raw_owed.specs.LiveOutputs.{IsLiveOutput}
use Rattle.raw_owed.specs.Schedules.{IsScheduleOutput, IsEndlessOutput, IsOneFlow}
use Rattle.raw_shell.specs.Seen.{limit, ReadFails, WriteFails, GivesTooMany, ReadsWhole, Says}
use Rattle.raw_commands.specs.Ended.{Answered, Performed, Ended}
use Rattle.raw_owed.specs.Obeyed.{PutsWhole, PutsPast}
use Rattle.raw_shell.specs.Call.{IsEndingStatus}
use Rattle.raw_commands.specs.Call.{Call}
use Rattle.raw_commands.specs.Served.{CallStands, Written, StandsAlone, WrittenAlone, Finished, WantsMemory, Complete, CompleteAlone, TooLongExactly, TooLongAlways, FaultExactly, StopsPast, PastExactly}
use Rattle.raw_owed.specs.Owed.{Accepts}
use Rattle.raw_commands.specs.Promises.{RunWritten, Headline, Promises}
use Rattle.raw_commands.proofs.Statuses.{not_done}
use Rattle.raw_commands.proofs.Causing.{causes_of}
use Rattle.raw_commands.proofs.Refusing.{same_some, not_none, valid_not, one_script, one_past, valid_not_past, due_not}

some_same : (xs ys : List ℕ) → Some xs ≡ Some ys → xs ≡ ys
some_same xs ys e = cc e

-- what was read of a source that tells its bytes
read_is : (old new : Option (List ℕ)) (input told : List ℕ) → old ≡ Some told → Consumes old new input → IsAtEnd new → input ≡ told
read_is None new input told e t n = absurd (cc e)
read_is (Some xs) None input told e t n = absurd t
read_is (Some xs) (Some ys) input told e t n = sym (append-nil input) ∙ ap (λ rest. input ++ rest) (sym n) ∙ sym t ∙ some_same xs told e

left_is : (old new : Option (List ℕ)) (input told : List ℕ) → old ≡ Some told → Consumes old new input → IsAtEnd new → new ≡ Some []
left_is None new input told e t n = absurd (cc e)
left_is (Some xs) None input told e t n = absurd t
left_is (Some xs) (Some ys) input told e t n = ap Some n

-- a front is no longer than all
front_fits : (old new : Option (List ℕ)) (front told : List ℕ) → old ≡ Some told → Consumes old new front → length front ≤ length told
front_fits None new front told e t = absurd (cc e)
front_fits (Some xs) None front told e t = absurd t
front_fits (Some xs) (Some ys) front told e t =
    let whole : told ≡ front ++ ys = sym (some_same xs told e) ∙ t in
    rw whole (omega (arith, length-append front ys))

-- what a sink that tells its bytes holds
held_is : (old new : Option (List ℕ)) (before piece : List ℕ) → old ≡ Some before → Appends old new piece → new ≡ Some (before ++ piece)
held_is None new before piece e a = absurd (cc e)
held_is (Some xs) None before piece e a = absurd a
held_is (Some xs) (Some ys) before piece e a = ap Some (a ∙ ap (λ front. front ++ piece) (some_same xs before e))

module _ (law : (form : InputForm) (input : List ℕ) → IsOneInput form input) (call : Call) where
  -- the input that was read is all that was told
  input_is : (read input : List ℕ) → call.seen.source.old.left ≡ Some input → ReadsWhole call.seen.source read → read ≡ input
  input_is read input si r = read_is call.seen.source.old.left call.seen.source.new.left read input si r.taken r.ended

  -- a command that reads, with what it owes
  stands : (command : ReadingCommand) (Due : List ℕ → List ℕ → CommandEnding → Type 0)
      → ((input output : List ℕ) (ending : CommandEnding) → Owes (Reads command) input output ending → Due input output ending)
      → (input before : List ℕ) → call.seen.source.old.left ≡ Some input → call.seen.out.old.bytes ≡ Some before → (answer : Answer) → call.status ≡ status_of answer
      → Performed (Reads command) call.seen.source call.seen.out answer → IsEndingStatus (status_of answer) → CallStands Due input before call
  stands command Due owes input before si sb (Ok ending) is (inl s) h = absurd s.cause
  stands command Due owes input before si sb (Ok ending) is (inr r) h =
      let p : PutsWhole (Reads command) r.input call.seen.out ending = r.obeyed in
      record {
        output = p.output;
        ending = ending;
        due = subst (λ bytes. Due bytes p.output ending) (input_is r.input input si r.read) (owes r.input p.output ending p.owed);
        held_now = held_is call.seen.out.old.bytes call.seen.out.new.bytes before p.output sb p.put;
        left_now = left_is call.seen.source.old.left call.seen.source.new.left r.input input si r.read.taken r.read.ended;
        ended = is;
      }
  stands command Due owes input before si sb (Err failure) is p h = absurd (not_done failure h)

  -- a command that reads nothing, with what it owes
  stands_alone : (command : AloneCommand) (Due : List ℕ → CommandEnding → Type 0)
      → ((output : List ℕ) (ending : CommandEnding) → Owes (Alone command) [] output ending → Due output ending)
      → (before : List ℕ) → call.seen.out.old.bytes ≡ Some before → (answer : Answer) → call.status ≡ status_of answer
      → Performed (Alone command) call.seen.source call.seen.out answer → IsEndingStatus (status_of answer) → StandsAlone Due before call
  stands_alone command Due owes before sb (Ok ending) is p h =
      let w : PutsWhole (Alone command) [] call.seen.out ending = p.obeyed in
      record {
        output = w.output;
        ending = ending;
        due = owes w.output ending w.owed;
        held_now = held_is call.seen.out.old.bytes call.seen.out.new.bytes before w.output sb w.put;
        unread = p.unread;
        ended = is;
      }
  stands_alone command Due owes before sb (Err failure) is p h = absurd (not_done failure h)

  -- what is put of a script that goes past the end is one
  past_told : (input : List ℕ) (output other : List ℕ) (line next : ℕ) → IsPastOutput input output line → IsPastOutput input other next → (output ≡ other) × (line ≡ next)
  past_told input output other line next x y =
      let same = one_script law input x.set y.set x.meaning y.meaning in
      let past = one_past law input x.set y.set x.meaning y.meaning in
      let at : x.at ≡ y.at = same_some _ x.at y.at x.past (past ∙ y.past) in (
        x.written ∙ ap (λ (q : ProgramSet × ℕ). script_text (labels_before q.0 input q.1) q.0 (lines_behind input q.1)) same ∙ sym y.written,
        x.line_is ∙ ap (λ (q : ProgramSet × ℕ). q.1 + 1 + x.at + 1) same ∙ ap (λ k. y.meaning.place + 1 + k + 1) at ∙ sym y.line_is,
      )

  not_past : (input output other : List ℕ) (line : ℕ) (ending : CommandEnding) → IsPastOutput input output line → IsDebugOutput input other ending → ⊥
  not_past input output other line ending x y =
      let past = one_past law input x.set y.set x.meaning y.meaning in
      not_none _ x.at (past ∙ y.within) x.past

  stops_past : (input before : List ℕ) → call.seen.source.old.left ≡ Some input → call.seen.out.old.bytes ≡ Some before → length input ≤ limit
      → (output : List ℕ) (line : ℕ) → IsPastOutput input output line → (ReadFails call.seen.source → ⊥) → (WriteFails call.seen.out → ⊥)
      → (answer : Answer) → call.status ≡ status_of answer → Performed (Reads Debug) call.seen.source call.seen.out answer → Said flaw_line call.seen.err answer
      → StopsPast before output line call ⊎ WantsMemory call.seen.out call.status
  stops_past input before si sb short output line past fs fo (Ok ending) is (inr r) said =
      let p : PutsWhole (Reads Debug) r.input call.seen.out ending = r.obeyed in
      absurd (not_past input output p.output line ending past (subst (λ bytes. IsDebugOutput bytes p.output ending) (input_is r.input input si r.read) p.owed))
  stops_past input before si sb short output line past fs fo (Err (Refused (flaw.At refusal))) is (inr r) said =
      absurd ((law Script input).not_both past.set refusal past.meaning (subst (λ bytes. Refuses (Reads Debug) bytes refusal) (input_is r.input input si r.read) r.obeyed.refused))
  stops_past input before si sb short output line past fs fo (Err (Refused (flaw.PastEnd next))) is (inr r) said =
      let p : PutsPast (Reads Debug) r.input call.seen.out next = r.obeyed in
      let told = past_told input output p.output line next past (subst (λ bytes. IsPastOutput bytes p.output next) (input_is r.input input si r.read) p.past) in
      inl (record {
        two = is;
        held_now = held_is call.seen.out.old.bytes call.seen.out.new.bytes before p.output sb p.put ∙ ap (λ piece. Some (before ++ piece)) (sym told.0);
        said = subst (λ n. Says call.seen.err (err_line (Refused (flaw.PastEnd n)))) (sym told.1) said;
      })
  stops_past input before si sb short output line past fs fo (Err WriteFault) is (inr r) said = absurd (fo r.obeyed.failed)
  stops_past input before si sb short output line past fs fo (Err Memory) is (inr r) said = inr (record { nine = is; untouched = r.obeyed })
  stops_past input before si sb short output line past fs fo (Err _) is (inr r) said = absurd r.obeyed
  stops_past input before si sb short output line past fs fo (Err ReadFault) is (inl s) said = absurd (fs s.cause.failed)
  stops_past input before si sb short output line past fs fo (Err Memory) is (inl s) said = inr (record { nine = is; untouched = s.untouched })
  stops_past input before si sb short output line past fs fo (Err TooLong) is (inl s) said =
      let fits : length s.read.front ≤ length input = front_fits call.seen.source.old.left call.seen.source.new.left s.read.front input si s.read.taken in
      absurd (omega (arith, fits, s.read.counted, s.cause, short))
  stops_past input before si sb short output line past fs fo _ is (inl s) said = absurd s.cause

  -- a whole output
  finished : (command : Command) (input before read : List ℕ) (ending : CommandEnding) → read ≡ input → call.seen.out.old.bytes ≡ Some before
      → PutsWhole command read call.seen.out ending → Finished command input before call.seen.out (ending_status ending)
  finished command input before read ending same sb p = record {
    ending = ending;
    output = p.output;
    owed = subst (λ bytes. Owes command bytes p.output ending) same p.owed;
    held_now = held_is call.seen.out.old.bytes call.seen.out.new.bytes before p.output sb p.put;
    ended = refl;
  }

  complete : ((input : List ℕ) → IsOneFlow input) → (command : ReadingCommand) (input before : List ℕ) → call.seen.source.old.left ≡ Some input → call.seen.out.old.bytes ≡ Some before
      → Accepts command input → (ReadFails call.seen.source → ⊥) → (WriteFails call.seen.out → ⊥) → (answer : Answer)
      → Performed (Reads command) call.seen.source call.seen.out answer
      → Finished (Reads command) input before call.seen.out (status_of answer) ⊎ WantsMemory call.seen.out (status_of answer)
  complete flows command input before si sb a fs fo (Ok ending) (inr r) =
      inl (finished (Reads command) input before r.input ending (input_is r.input input si r.read) sb r.obeyed)
  complete flows command input before si sb a fs fo (Err (Refused (flaw.At refusal))) (inr r) =
      absurd (valid_not law command input refusal (flows input) a.valid (subst (λ bytes. Refuses (Reads command) bytes refusal) (input_is r.input input si r.read) r.obeyed.refused))
  complete flows command input before si sb a fs fo (Err (Refused (flaw.PastEnd line))) (inr r) =
      let p : PutsPast (Reads command) r.input call.seen.out line = r.obeyed in
      absurd (valid_not_past law command input p.output line a.valid (subst (λ bytes. GoesPast (Reads command) bytes p.output line) (input_is r.input input si r.read) p.past))
  complete flows command input before si sb a fs fo (Err WriteFault) (inr r) = absurd (fo r.obeyed.failed)
  complete flows command input before si sb a fs fo (Err Memory) (inr r) = inr (record { nine = refl; untouched = r.obeyed })
  complete flows command input before si sb a fs fo (Err _) (inr r) = absurd r.obeyed
  complete flows command input before si sb a fs fo (Err ReadFault) (inl s) = absurd (fs s.cause.failed)
  complete flows command input before si sb a fs fo (Err Memory) (inl s) = inr (record { nine = refl; untouched = s.untouched })
  complete flows command input before si sb a fs fo (Err TooLong) (inl s) =
      let fits : length s.read.front ≤ length input = front_fits call.seen.source.old.left call.seen.source.new.left s.read.front input si s.read.taken in
      absurd (omega (arith, fits, s.read.counted, s.cause, a.short))
  complete flows command input before si sb a fs fo _ (inl s) = absurd s.cause

  complete_alone : (command : AloneCommand) (before : List ℕ) → call.seen.out.old.bytes ≡ Some before → (WriteFails call.seen.out → ⊥) → (answer : Answer)
      → Performed (Alone command) call.seen.source call.seen.out answer
      → Finished (Alone command) [] before call.seen.out (status_of answer) ⊎ WantsMemory call.seen.out (status_of answer)
  complete_alone command before sb fo (Ok ending) p = inl (finished (Alone command) [] before [] ending refl sb p.obeyed)
  complete_alone command before sb fo (Err (Refused (flaw.At refusal))) p = absurd p.obeyed.refused
  complete_alone command before sb fo (Err (Refused (flaw.PastEnd line))) p = absurd p.obeyed.past
  complete_alone command before sb fo (Err WriteFault) p = absurd (fo p.obeyed.failed)
  complete_alone command before sb fo (Err Memory) p = inr (record { nine = refl; untouched = p.obeyed })
  complete_alone command before sb fo (Err _) p = absurd p.obeyed

  -- an input that is too long was not read whole
  not_read : (input read : List ℕ) → call.seen.source.old.left ≡ Some input → limit < length input → length read ≤ limit → ReadsWhole call.seen.source read → ⊥
  not_read input read si long short r =
      let fits : length input ≤ limit = subst (λ bytes. length bytes ≤ limit) (input_is read input si r) short in
      omega (arith, fits, long)

  too_long : (command : ReadingCommand) (input : List ℕ) → call.seen.source.old.left ≡ Some input → (ReadFails call.seen.source → ⊥) → limit < length input
      → (answer : Answer) → Performed (Reads command) call.seen.source call.seen.out answer → (status_of answer ≡ 10) ⊎ WantsMemory call.seen.out (status_of answer)
  too_long command input si fs long (Err ReadFault) (inl s) = absurd (fs s.cause.failed)
  too_long command input si fs long (Err Memory) (inl s) = inr (record { nine = refl; untouched = s.untouched })
  too_long command input si fs long (Err TooLong) p = inl refl
  too_long command input si fs long _ (inl s) = absurd s.cause
  too_long command input si fs long answer (inr r) = absurd (not_read input r.input si long r.short r.read)

  -- a source that gave too many bytes gives 10, whatever it tells
  long_is_ten : (command : ReadingCommand) (answer : Answer) → Performed (Reads command) call.seen.source call.seen.out answer → GivesTooMany call.seen.source
      → status_of answer ≡ 10
  long_is_ten command (Err ReadFault) (inl s) many = absurd (omega (arith, s.cause.few, many))
  long_is_ten command (Err Memory) (inl s) many = absurd (omega (arith, s.cause, many))
  long_is_ten command (Err TooLong) p many = refl
  long_is_ten command _ (inl s) many = absurd s.cause
  long_is_ten command answer (inr r) many = absurd (omega (arith, r.short, r.read.counted, many))

  -- an input that is refused
  faulty : ((input : List ℕ) → IsOneFlow input) → (command : ReadingCommand) (input : List ℕ) (refusal : Refusal) → call.seen.source.old.left ≡ Some input → length input ≤ limit
      → IsRefused command input refusal → (ReadFails call.seen.source → ⊥)
      → (answer : Answer) → Performed (Reads command) call.seen.source call.seen.out answer → (status_of answer ≡ 2) ⊎ WantsMemory call.seen.out (status_of answer)
  faulty flows command input refusal si short refuses fs (Ok ending) (inr r) =
      absurd (due_not law command r.input r.obeyed.output refusal (flows r.input) (inl (ending, r.obeyed.owed))
      (subst (λ bytes. IsRefused command bytes refusal) (sym (input_is r.input input si r.read)) refuses))
  faulty flows command input refusal si short refuses fs (Err (Refused (flaw.At other))) p = inl refl
  faulty flows command input refusal si short refuses fs (Err (Refused (flaw.PastEnd line))) p = inl refl
  faulty flows command input refusal si short refuses fs (Err WriteFault) (inr r) =
      absurd (due_not law command r.input r.obeyed.output refusal (flows r.input) r.obeyed.due
      (subst (λ bytes. IsRefused command bytes refusal) (sym (input_is r.input input si r.read)) refuses))
  faulty flows command input refusal si short refuses fs (Err Memory) (inr r) = inr (record { nine = refl; untouched = r.obeyed })
  faulty flows command input refusal si short refuses fs (Err _) (inr r) = absurd r.obeyed
  faulty flows command input refusal si short refuses fs (Err ReadFault) (inl s) = absurd (fs s.cause.failed)
  faulty flows command input refusal si short refuses fs (Err Memory) (inl s) = inr (record { nine = refl; untouched = s.untouched })
  faulty flows command input refusal si short refuses fs (Err TooLong) (inl s) =
      let fits : length s.read.front ≤ length input = front_fits call.seen.source.old.left call.seen.source.new.left s.read.front input si s.read.taken in
      absurd (omega (arith, fits, s.read.counted, s.cause, short))
  faulty flows command input refusal si short refuses fs _ (inl s) = absurd s.cause

-- what is promised of a call
module _ (law : (form : InputForm) (input : List ℕ) → IsOneInput form input) (call : Call) (e : Ended call) where
  performed : (command : Command) → call.words ≡ Some command → Performed command call.seen.source call.seen.out e.answer
  performed command is = subst (λ w. Answered w call.seen.source call.seen.out e.answer) is e.answered

  written : (command : ReadingCommand) (Due : List ℕ → List ℕ → CommandEnding → Type 0)
      → ((input output : List ℕ) (ending : CommandEnding) → Owes (Reads command) input output ending → Due input output ending)
      → Written command Due call
  written command Due owes = λ is done input before si sb.
      stands law call command Due owes input before si sb e.answer e.status_is (performed (Reads command) is) (subst IsEndingStatus e.status_is done)

  written_alone : (command : AloneCommand) (Due : List ℕ → CommandEnding → Type 0)
      → ((output : List ℕ) (ending : CommandEnding) → Owes (Alone command) [] output ending → Due output ending)
      → WrittenAlone command Due call
  written_alone command Due owes = λ is done before sb.
      stands_alone law call command Due owes before sb e.answer e.status_is (performed (Alone command) is) (subst IsEndingStatus e.status_is done)

  run_written : (output : RunOutput) → RunWritten output call
  run_written output form workers =
      written (Run (record { output = output; form = form; workers = workers })) (IsRunOutput output form) (λ input bytes ending owed. owed)

  pub headline_of : Headline call
  headline_of = run_written (State Report)

  past_of : PastExactly call
  past_of = λ is input before si sb short output line past fs fo.
      stops_past law call input before si sb short output line past fs fo e.answer e.status_is (performed (Reads Debug) is) e.said

  complete_of : ((input : List ℕ) → IsOneFlow input) → Complete call
  complete_of flows = λ command is input before si sb a fs fo.
      subst (λ n. Finished (Reads command) input before call.seen.out n ⊎ WantsMemory call.seen.out n) (sym e.status_is)
      (complete law call flows command input before si sb a fs fo e.answer (performed (Reads command) is))

  complete_alone_of : CompleteAlone call
  complete_alone_of = λ command is before sb fo. record {
    unread = (performed (Alone command) is).unread;
    done = subst (λ n. Finished (Alone command) [] before call.seen.out n ⊎ WantsMemory call.seen.out n) (sym e.status_is)
        (complete_alone law call command before sb fo e.answer (performed (Alone command) is));
  }

  fault_of : ((input : List ℕ) → IsOneFlow input) → FaultExactly call
  fault_of flows = λ command is input si short refusal refuses fs.
      subst (λ n. (n ≡ 2) ⊎ WantsMemory call.seen.out n) (sym e.status_is)
      (faulty law call flows command input refusal si short refuses fs e.answer (performed (Reads command) is))

  too_long_of : TooLongAlways call
  too_long_of = λ command is input si fs long.
      subst (λ n. (n ≡ 10) ⊎ WantsMemory call.seen.out n) (sym e.status_is)
      (too_long law call command input si fs long e.answer (performed (Reads command) is))

  exactly_of : TooLongExactly call
  exactly_of = λ command is. (
    (λ h. let many = ((causes_of call e).ten h).many in omega (arith, many)),
    (λ many. e.status_is ∙ long_is_ten law call command e.answer (performed (Reads command) is) many),
  )

  pub promises_of : ((input : List ℕ) → IsOneFlow input) → Promises call
  promises_of flows = record {
    picture = run_written (State Picture);
    history = run_written History;
    cycles = λ options. written (Cycles options) (IsCyclesOutput options) (λ input output ending owed. owed);
    path = λ form. written (Path form) (IsPathOutput form) (λ input output ending owed. owed);
    trace = λ options. written (Trace options) (IsTraceOutput options) (λ input output ending owed. owed);
    depths = λ form. written (Depths form) (IsDepthsOutput form) (λ input output ending owed. owed);
    steady = λ form. written (Steady form) (IsSteadyOutput form) (λ input output ending owed. owed);
    names = λ form. written (Names form) (IsSetOutput (whole form) names_text) (λ input output ending owed. owed);
    lines = written Lines IsLinesOutput (λ input output ending owed. owed);
    asm = written Asm (IsSetOutput Text image) (λ input output ending owed. owed);
    list = written ListCommand (IsSetOutput Image listing) (λ input output ending owed. owed);
    plan = written PlanCommand (IsSetOutput Plan listing) (λ input output ending owed. owed);
    flow = written (FlowCommand Compiled) (IsSetOutput Flow listing) (λ input output ending owed. owed);
    schedule = written (FlowCommand Scheduled) IsScheduleOutput (λ input output ending owed. owed);
    endless = written (FlowCommand Endless) IsEndlessOutput (λ input output ending owed. owed);
    check = written Check IsCheckOutput (λ input output ending owed. owed);
    debug = written Debug IsDebugOutput (λ input output ending owed. owed);
    prove = written Prove IsProveOutput (λ input output ending owed. owed);
    prove_live = written ProveLive IsLiveOutput (λ input output ending owed. owed);
    past = past_of;
    work = λ n workers. written_alone (Work n workers) (IsWorkOutput n) (λ output ending owed. owed);
    text = λ text. written_alone (Fixed text) (IsTextOutput text) (λ output ending owed. owed);
    reads_nothing = λ command is. (performed (Alone command) is).unread;
    causes = causes_of call e;
    too_long = exactly_of;
    too_long_always = too_long_of;
    fault = fault_of flows;
    complete = complete_of flows;
    complete_alone = complete_alone_of;
    ended = e;
  }
