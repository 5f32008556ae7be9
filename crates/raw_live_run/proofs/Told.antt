-- What a reader is told of a source and an out that tell their bytes.
use Rattle.std.proofs.Common.{◌≡◌, ◌≤◌, arith, inl, inr, ℕ, ◌^◌, ◌-◌, ◌<◌, List, [], ◌++◌, length, take, drop, Option, Some, None, Ok, Err, refl, sym, ap, ◌∙◌, subst, append-nil}
use Rattle.std.specs.Io.KnownBytes.{Appends, Consumes, IsAtEnd}
use Rattle.std.proofs.lemmas.List.{take-append-drop}
use Rattle.raw_io.specs.Writing.{AppendsFront}
use Rattle.raw_text.specs.Lines.{lines_of}
use Rattle.raw_network.specs.Laws.{IsPrefix}
use Rattle.raw_model.specs.Program.{ProgramSet, IsSet}
use Rattle.raw_model.specs.Rest.{end, IsRun}
use Rattle.raw_model.specs.Outcomes.{outcome, ending_of}
use Rattle.raw_model.proofs.Finite.{some_run}
use Rattle.raw_queue.specs.declared.item.Item.{Item}
use Rattle.raw_model.specs.declared.ending.Ending.{Ending}
use Rattle.raw_model.specs.declared.ending.Ending.TheVariants as ending
use Rattle.raw_live.specs.Items.{words_at, got_text}
use Rattle.raw_live.specs.Gots.{gots, AreSmall}
use Rattle.raw_live.specs.Engine.{got_at, with_items, AreSets}
use Rattle.raw_live.specs.Ending.{rest_text}
use Rattle.raw_live.specs.Due.{rest_of, ending_at, live_items, live_text, due_text}
use Rattle.raw_live.proofs.Growth.{begins_over}
use Rattle.raw_shell.specs.declared.failure.Failure.TheVariants.{Use, Refused, ReadFault, WriteFault, Memory, TooLong}
use Rattle.raw_shell.specs.declared.ending.CommandEnding.TheVariants.{Rested}
use Rattle.raw_shell.specs.Answers.{ending_status, failure_status}
use Rattle.raw_shell.specs.Seen.{SinkSeen}
use Rattle.raw_live_head.specs.Flaws.{Failure}
use Rattle.raw_live_run.specs.Answers.{Answer, status_of}
use Rattle.raw_live_run.specs.Call.{Call, IsRestStatus}
use Rattle.raw_live_run.specs.Live.{SaysWords, put_by}
use Rattle.raw_live_run.specs.Reaching.{Reached}
use Rattle.raw_live_run.specs.Promises.{Came, FedAs, RestStands, TextStands, TextOf}

-- what `law_gots` says of texts
pub record LawsOfGots : Type 0 where
  pub items : (port : ℕ) (items : List Item) (rest : List ℕ) → port < 2 ^ 32 → AreSmall items → gots (got_text items ++ rest) port ≡ words_at port items ++ gots rest port
  pub rest : (port : ℕ) (how : Ending) → gots (rest_text how) port ≡ []
  pub front : (port : ℕ) (front rest : List ℕ) → IsPrefix (gots front port) (gots (front ++ rest) port)

told_appends : (old new : Option (List ℕ)) (before text : List ℕ) → Appends old new text → old ≡ Some before → new ≡ Some (before ++ text)
told_appends None new before text a e = absurd (cc e)
told_appends (Some xs) None before text a e = absurd a
told_appends (Some xs) (Some ys) before text a e = let same : xs ≡ before = cc e in ap Some (a ∙ ap (λ l. l ++ text) same)

told_front : (old new : Option (List ℕ)) (before text : List ℕ) → AppendsFront old new text → old ≡ Some before → (n : ℕ) × (new ≡ Some (before ++ take n text))
told_front None new before text a e = absurd (cc e)
told_front (Some xs) None before text a e = absurd a
told_front (Some xs) (Some ys) before text a e =
    let same : xs ≡ before = cc e in (length ys - length xs, ap Some (a ∙ ap (λ l. l ++ take (length ys - length xs) text) same))

told_whole : (left new : Option (List ℕ)) (input bytes : List ℕ) → left ≡ Some input → Consumes left new bytes → IsAtEnd new → (bytes ≡ input) × (new ≡ Some [])
told_whole None new input bytes e c ended = absurd (cc e)
told_whole (Some xs) None input bytes e c ended = absurd c
told_whole (Some xs) (Some ys) input bytes e c ended =
    let same : xs ≡ input = cc e in (sym (append-nil bytes) ∙ ap (λ l. bytes ++ l) (sym ended) ∙ sym c ∙ same, ap Some ended)

-- the status of an ending is that of no failure
pub low : (how : Ending) → ending_status (Rested how) ≤ 6
low ending.Done = omega arith
low _ = omega arith

not_two : (how : Ending) → ending_status (Rested how) ≡ 2 → ⊥
not_two ending.Done e = omega (arith, e)
not_two _ e = omega (arith, e)

no_failure : (how : Ending) (failure : Failure) → ending_status (Rested how) ≡ failure_status failure → ⊥
no_failure how Use e = not_two how e
no_failure how (Refused flaw) e = not_two how e
no_failure how _ e = omega (arith, low how, e)

-- what `law_due` says of the text that is due
pub record LawsOfDue : Type 0 where
  pub rest : (set : ProgramSet) (h : List ℕ) → IsSet set → IsRun set h → end set h ≡ rest_of set
  pub says : (set : ProgramSet) (words : List Item) (p : ℕ) → AreSets set words → words_at p (live_items set words) ≡ got_at (rest_of (with_items set words)) p
  pub small : (set : ProgramSet) (words : List Item) → AreSets set words → AreSmall (live_items set words)

-- lines say a set and words for it, without a fault, and make this text due
abbrev SaysDue : List (List ℕ) → ProgramSet → List ℕ → Type 0
SaysDue lines set text = (says : SaysWords lines) × ((put_by says).fault ≡ None) × (set ≡ with_items says.first (put_by says).items) × (text ≡ due_text says.first (put_by says).items)

module _ (laws : LawsOfGots) (due : LawsOfDue) where
  -- a set with words, at rest
  module _ (first : ProgramSet) (words : List Item) (sets : AreSets first words) where
    abbrev set : ProgramSet
    set = with_items first words

    same_end : (h : List ℕ) → IsRun set h → rest_of set ≡ end set h
    same_end h run = sym (due.rest set h (sets words [] (sym (append-nil words))) run)

    says_due : (h : List ℕ) (port : ℕ) → IsRun set h → port < 2 ^ 32 → gots (due_text first words) port ≡ got_at (end set h) port
    says_due h port run within =
        laws.items port (live_items first words) (rest_text (ending_at set)) within (due.small first words sets) ∙ ap (λ l. words_at port (live_items first words) ++ l) (laws.rest port (ending_at set))
        ∙ append-nil (words_at port (live_items first words)) ∙ due.says first words port sets ∙ ap (λ s. got_at s port) (same_end h run)

    -- a front of the text that is due
    stands : (before : List ℕ) (out : SinkSeen) (text : List ℕ) → out.new.bytes ≡ Some (before ++ text) → IsPrefix text (due_text first words) → TextStands before out first words
    stands before out text held b = record {
      text = text;
      held_now = held;
      front = b;
      says = λ h port run within. subst (λ l. IsPrefix (gots text port) l) (ap (λ t. gots t port) b.1 ∙ says_due h port run within) (laws.front port text b.0);
    }

    stands_part : (before : List ℕ) (out : SinkSeen) (text : List ℕ) → out.old.bytes ≡ Some before → AppendsFront out.old.bytes out.new.bytes text → IsPrefix text (due_text first words) → TextStands before out first words
    stands_part before out text held a b =
        let f = told_front out.old.bytes out.new.bytes before text a held in
        stands before out (take f.0 text) f.1 (begins_over (take f.0 text) text (due_text first words) (drop f.0 text, take-append-drop f.0 text) b)

    lines_first : IsPrefix (live_text first words) (due_text first words)
    lines_first = (rest_text (ending_at set), refl)

    all_first : IsPrefix (due_text first words) (due_text first words)
    all_first = ([], append-nil (due_text first words))

  module _ (call : Call) (input before : List ℕ) (told : call.seen.source.old.left ≡ Some input) (held : call.seen.out.old.bytes ≡ Some before) where
    fed_whole : (how : Ending) → call.status ≡ ending_status (Rested how) → Reached call.seen.source call.seen.out (Ok how) → RestStands input before call
    fed_whole how e r =
        let whole = told_whole call.seen.source.old.left call.seen.source.new.left input r.bytes told r.taken r.read.ended in
        let lines : r.lines ≡ lines_of input = r.read.all ∙ ap lines_of whole.0 in
        let set = with_items r.says.first r.words in
        let text = due_text r.says.first r.words in
        let here : SaysDue r.lines set text = (r.says, r.read.words_are.0, ap (with_items r.says.first) r.read.words_are.1, ap (due_text r.says.first) r.read.words_are.1) in
        let there = subst (λ l. SaysDue l set text) lines here in
        record {
          set = set;
          live = record { says = there.0; faultless = there.1; set_is = there.2 };
          left_now = whole.1;
          some_run = some_run set;
          ending = how;
          ended = λ h run. r.written.ended ∙ ap (λ s. ending_of (outcome set s)) (same_end r.says.first r.words r.valid h run);
          status_is = e;
          held_now = told_appends call.seen.out.old.bytes call.seen.out.new.bytes before text r.written.whole held ∙ ap (λ t. Some (before ++ t)) there.3;
          says = λ h port run within. ap (λ t. gots t port) (sym there.3) ∙ says_due r.says.first r.words r.valid h port run within;
        }

    by_answer : (answer : Answer) → IsRestStatus call.status → call.status ≡ status_of answer → Came call.seen.source call.seen.out answer → RestStands input before call
    by_answer answer is e (inl ends) = absurd (no_failure is.ending ends.failure (sym is.status_is ∙ e ∙ ap status_of ends.answer_is))
    by_answer answer is e (inr (inl gives)) = absurd (no_failure is.ending Memory (sym is.status_is ∙ e ∙ ap status_of gives.answer_is))
    by_answer (Ok how) is e (inr (inr r)) = fed_whole how e r
    by_answer (Err failure) is e (inr (inr r)) = absurd (no_failure is.ending failure (sym is.status_is ∙ e))

    pub rest_stands : IsRestStatus call.status → FedAs call → RestStands input before call
    rest_stands is fed = by_answer fed.answer is fed.status_is fed.came

    -- what was written where not all was
    failed : (failure : Failure) → call.status ≡ failure_status failure → (r : Reached call.seen.source call.seen.out (Err failure)) (text : List ℕ)
        → AppendsFront call.seen.out.old.bytes call.seen.out.new.bytes text → IsPrefix text (due_text r.says.first r.words) → TextOf before call
    failed failure e r text a b = record {
      answer = Err failure;
      status_is = e;
      reached = r;
      stands = stands_part r.says.first r.words r.valid before call.seen.out text held a b;
      whole = λ is. absurd (no_failure is.ending failure (sym is.status_is ∙ e));
    }

    pub text_of : (answer : Answer) → call.status ≡ status_of answer → Reached call.seen.source call.seen.out answer → TextOf before call
    unfolding stands
    text_of (Ok how) e r =
        let due = due_text r.says.first r.words in record {
          answer = Ok how;
          status_is = e;
          reached = r;
          stands = stands r.says.first r.words r.valid before call.seen.out due (told_appends call.seen.out.old.bytes call.seen.out.new.bytes before due r.written.whole held) (all_first r.says.first r.words r.valid);
          whole = λ is. refl;
        }
    text_of (Err (Refused flaw)) e r = failed (Refused flaw) e r (live_text r.says.first r.words) r.written.front (lines_first r.says.first r.words r.valid)
    text_of (Err ReadFault) e r = failed ReadFault e r (live_text r.says.first r.words) r.written.front (lines_first r.says.first r.words r.valid)
    text_of (Err TooLong) e r = failed TooLong e r (live_text r.says.first r.words) r.written.front (lines_first r.says.first r.words r.valid)
    text_of (Err WriteFault) e r = failed WriteFault e r (due_text r.says.first r.words) r.written.front.front (all_first r.says.first r.words r.valid)
    text_of (Err Memory) e r = failed Memory e r (live_text r.says.first r.words) r.written (lines_first r.says.first r.words r.valid)
    text_of (Err Use) e r = absurd r.written
