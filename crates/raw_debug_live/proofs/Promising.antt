-- What a call promises, from the relation that it meets.
use Rattle.std.proofs.Common.{◌≡◌, ◌⊎◌, ℕ, ◌-◌, Result, Ok, Err, refl, sym, ◌∙◌, subst, inl, inr, ⊎_elim, arith}
use Rattle.raw_text.specs.declared.limits.TheConstants.{MAX_TEXT}
use Rattle.raw_shell.specs.declared.ending.CommandEnding.TheVariants.{Done}
use Rattle.raw_shell.specs.declared.failure.Failure.TheVariants.{Use, Refused, ReadFault, WriteFault, Memory, TooLong}
use Rattle.raw_shell.specs.Answers.{status_of, Said}
use Rattle.raw_shell.specs.Seen.{Seen, ReadFails, Untouched, GivesOneTooMany}
use Rattle.raw_debug_live.specs.declared.answering.Halt.{Halt}
use Rattle.raw_debug_live.specs.declared.answering.Halt.TheVariants as halt
use Rattle.raw_live_head.specs.Flaws.{Failure, flaw_line}
use Rattle.raw_live_head.specs.Beginning.{StopsInHead}
use Rattle.raw_debug_live.specs.Answering.{AnsweredAs}
use Rattle.raw_debug_live.specs.Serving.{script_word, labels_of, Answer, answer_of, Reached, Serves, Ended}
use Rattle.raw_debug_live.specs.Promises.{Reads, AnswersAll, RefusesHead, FailedRead, FailedWrite, HadNoMemory, HadTooMany, IsStatus, Promises}

-- ---- what an answer says of the streams

module _ (seen : Seen) where
  -- why no line was answered
  abbrev Reason : Failure → Type 0
  Reason (Refused flaw) = StopsInHead script_word 1 seen.source (Refused flaw)
  Reason ReadFault = ReadFails seen.source
  Reason Memory = Unit {0}
  Reason TooLong = GivesOneTooMany seen.source
  Reason _ = ⊥

  reason_is : (failure : Failure) → StopsInHead script_word 1 seen.source failure → Reason failure
  reason_is (Refused flaw) stops = stops
  reason_is ReadFault stops = stops.cause.1
  reason_is TooLong stops = let long = stops.cause.0 in omega (arith, long, stops.counted)
  reason_is Memory stops = tt
  reason_is _ stops = absurd stops.cause

  reason : (failure : Failure) → StopsInHead script_word 1 seen.source failure ⊎ (failure ≡ Memory) → Reason failure
  reason failure (inl stops) = reason_is failure stops
  reason failure (inr is) = subst Reason (sym is) tt

  -- what an answer comes to
  abbrev Means : Answer → Type 0
  Means (Ok Done) = AnswersAll seen
  Means (Ok _) = ⊥
  Means (Err (Refused flaw)) = RefusesHead seen
  Means (Err ReadFault) = FailedRead seen
  Means (Err WriteFault) = FailedWrite seen
  Means (Err Memory) = HadNoMemory seen
  Means (Err TooLong) = HadTooMany seen
  Means (Err Use) = ⊥

  gives_up : (failure : Failure) → Reason failure → Untouched seen.out → Said flaw_line seen.err (Err failure) → Means (Err failure)
  gives_up Use r still said = absurd r
  gives_up (Refused flaw) r still said = record { flaw = flaw; refused = r; untouched = still; said = said }
  gives_up ReadFault r still said = record { failed = r; put = inl still; said = said }
  gives_up WriteFault r still said = absurd r
  gives_up Memory r still said = record { untouched = still; said = said }
  gives_up TooLong r still said = record { many = r; put = inl still; said = said }

  module _ (answer : Answer) (r : Reached seen.source seen.out answer) where
    abbrev read : Reads seen.source r.answers.bytes
    read = record { between = r.between; begun = r.begun; begins = r.begins; taken = r.answers.taken }

    abbrev AsIs : Result (Unit {0}) Halt → Type 0
    AsIs answered = AnsweredAs r.between seen.source.new seen.out.old seen.out.new (labels_of r.begun) r.begun.set (MAX_TEXT - r.begun.given) r.answers.bytes answered

    as_is : (answered : Result (Unit {0}) Halt) → r.answered ≡ answered → AsIs answered
    as_is answered is = subst AsIs is r.answers.answered

    reached : (answered : Result (Unit {0}) Halt) → r.answered ≡ answered → Said flaw_line seen.err (answer_of answered) → Means (answer_of answered)
    reached (Ok x) is said =
        let a = as_is (Ok x) is in
        record { bytes = r.answers.bytes; read = read; ended = a.0; put = a.2; silent = said }
    reached (Err halt.Read) is said =
        let a = as_is (Err halt.Read) is in
        let rose = a.0 in
        record { failed = omega (arith, r.begins.count, rose); put = inr (record { bytes = r.answers.bytes; read = read; put = a.2 }); said = said }
    reached (Err halt.Write) is said =
        let a = as_is (Err halt.Write) is in
        record { bytes = r.answers.bytes; read = read; lines = a.1.0; are_read = a.1.1; put = a.1.2; said = said }
    reached (Err halt.TooLong) is said =
        let a = as_is (Err halt.TooLong) is in
        let long = a.0 in
        record {
          many = omega (arith, long, r.answers.counted, r.begins.counted, r.begins.given, r.begins.few);
          put = inr (record { bytes = r.answers.bytes; read = read; put = a.1 });
          said = said;
        }

  means : (answer : Answer) → Serves seen.source seen.out answer → Said flaw_line seen.err answer → Means answer
  means answer (inl g) said = subst Means (sym g.answer_is) (gives_up g.failure (reason g.failure g.why) g.untouched (subst (Said flaw_line seen.err) g.answer_is said))
  means answer (inr r) said = subst Means (sym r.answer_is) (reached answer r r.answered refl (subst (Said flaw_line seen.err) r.answer_is said))

  -- ---- by the status

  at_done : (answer : Answer) → Means answer → status_of answer ≡ 0 → AnswersAll seen
  at_done (Ok Done) m h = m
  at_done (Ok _) m h = absurd m
  at_done (Err Use) m h = absurd m
  at_done (Err _) m h = absurd (cc h)

  at_two : (answer : Answer) → Means answer → status_of answer ≡ 2 → RefusesHead seen
  at_two (Ok Done) m h = absurd (cc h)
  at_two (Ok _) m h = absurd m
  at_two (Err Use) m h = absurd m
  at_two (Err (Refused flaw)) m h = m
  at_two (Err _) m h = absurd (cc h)

  at_seven : (answer : Answer) → Means answer → status_of answer ≡ 7 → FailedRead seen
  at_seven (Ok Done) m h = absurd (cc h)
  at_seven (Ok _) m h = absurd m
  at_seven (Err ReadFault) m h = m
  at_seven (Err _) m h = absurd (cc h)

  at_eight : (answer : Answer) → Means answer → status_of answer ≡ 8 → FailedWrite seen
  at_eight (Ok Done) m h = absurd (cc h)
  at_eight (Ok _) m h = absurd m
  at_eight (Err WriteFault) m h = m
  at_eight (Err _) m h = absurd (cc h)

  at_nine : (answer : Answer) → Means answer → status_of answer ≡ 9 → HadNoMemory seen
  at_nine (Ok Done) m h = absurd (cc h)
  at_nine (Ok _) m h = absurd m
  at_nine (Err Memory) m h = m
  at_nine (Err _) m h = absurd (cc h)

  at_ten : (answer : Answer) → Means answer → status_of answer ≡ 10 → HadTooMany seen
  at_ten (Ok Done) m h = absurd (cc h)
  at_ten (Ok _) m h = absurd m
  at_ten (Err TooLong) m h = m
  at_ten (Err _) m h = absurd (cc h)

  only_these : (answer : Answer) → Means answer → IsStatus (status_of answer)
  only_these (Ok Done) m = inl refl
  only_these (Ok _) m = absurd m
  only_these (Err Use) m = absurd m
  only_these (Err (Refused flaw)) m = inr (inl refl)
  only_these (Err ReadFault) m = inr (inr (inl refl))
  only_these (Err WriteFault) m = inr (inr (inr (inl refl)))
  only_these (Err Memory) m = inr (inr (inr (inr (inl refl))))
  only_these (Err TooLong) m = inr (inr (inr (inr (inr refl))))

pub promises_of : (seen : Seen) (status : ℕ) → Ended seen.source seen.out seen.err status → Promises seen status
promises_of seen status e =
    let m = means seen e.answer e.serves e.said in
    record {
      done = λ h. at_done seen e.answer m (sym e.status_is ∙ h);
      two = λ h. at_two seen e.answer m (sym e.status_is ∙ h);
      seven = λ h. at_seven seen e.answer m (sym e.status_is ∙ h);
      eight = λ h. at_eight seen e.answer m (sym e.status_is ∙ h);
      nine = λ h. at_nine seen e.answer m (sym e.status_is ∙ h);
      ten = λ h. at_ten seen e.answer m (sym e.status_is ∙ h);
      only = subst IsStatus (sym e.status_is) (only_these seen e.answer m);
      ended = e;
    }
