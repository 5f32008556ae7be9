-- Live input is served, and each status has its cause.
use Rattle.std.proofs.Common.{◌≡◌, ◌⊎◌, inl, inr, ℕ, ◌+◌, ◌<◌, ◌≤◌, List, [], ◌∷◌, ◌++◌, length, map, take, drop, Option, Some, None, Ok, Err, refl, sym, ap, ◌∙◌, subst, arith, append_assoc, append-nil, length-append}
use Rattle.std.specs.Io.KnownBytes.{Consumes, IsAtEnd}
use Rattle.std.proofs.lemmas.List.{take-append-le, drop-append-le}
use Rattle.std.specs.Prelude.{Bool, true, false, codes, if◌then◌else◌}
use Rattle.raw_text.specs.declared.lines.TextRefusal.{TextRefusal}
use Rattle.raw_text.specs.declared.lines.TextRefusal.TheVariants as refusal
use Rattle.raw_text.specs.Lines.{lines_of, tokens_of, line_fault}
use Rattle.raw_text.specs.Text.{is_word}
use Rattle.raw_model.specs.Program.{ProgramSet}
use Rattle.raw_set_text.specs.Meaning.{IsMeaning, IsOneSet}
use Rattle.raw_set_text.specs.Texts.{token_lines}
use Rattle.raw_live_text.specs.declared.head.HeadEnd.{HeadEnd}
use Rattle.raw_live_text.specs.declared.head.HeadEnd.TheVariants.{Open, Mark, Fault}
use Rattle.raw_live_text.specs.declared.fault.LineFault.{LineFault}
use Rattle.raw_live_text.specs.Feeding.{Fed, fed, whole_lines, AreRead}
use Rattle.raw_live_text.specs.Heads.{head_of, first_end, unless_fault, word_end, line_end, GoesOn, EndsThere, IsMarked}
use Rattle.raw_live.specs.Judging.{IsIntakeOf}
use Rattle.raw_shell.specs.declared.failure.Failure.TheVariants.{Use, Refused, ReadFault, WriteFault, Memory, TooLong}
use Rattle.raw_shell.specs.Answers.{failure_status}
use Rattle.raw_shell.specs.Seen.{SourceSeen, SinkSeen, ReadFails, WriteFails, GivesTooMany, limit}
use Rattle.raw_live_head.specs.declared.flaw.LineFlaw.TheVariants.{Set, Put}
use Rattle.raw_live_head.specs.Flaws.{Failure}
use Rattle.raw_live_run.specs.Answers.{Answer, status_of}
use Rattle.raw_live_run.specs.Call.{Call, IsRestStatus}
use Rattle.raw_set_text.specs.declared.kind.SetKind.{SetKind}
use Rattle.raw_live_head.specs.Beginning.{HeadCause, StopsInHead, FaultBeforeMark, FaultWithoutMark}
use Rattle.raw_live_run.specs.Live.{live_word, Live, SaysWords, put_by}
use Rattle.raw_live_run.specs.Serving.{EndsInHead, Ended}
use Rattle.raw_live_run.specs.Reaching.{Reached}
use Rattle.raw_live_run.specs.Promises.{Came, HasCause, IsComplete}
use Rattle.raw_live_run.proofs.Reaches.{LawsOfLines, take_front}
use Rattle.raw_live_run.proofs.Told.{low}
use Rattle.raw_live_run.proofs.Promising.{is_fed}
use Rattle.raw_live_text.specs.declared.reader.TheConstants.{PIECE}

-- the bytes that were read, and those that are left
told_split : (left new : Option (List ℕ)) (input bytes : List ℕ) → left ≡ Some input → Consumes left new bytes → (rest : List ℕ) × (input ≡ bytes ++ rest) × (new ≡ Some rest)
told_split None new input bytes e c = absurd (cc e)
told_split (Some xs) None input bytes e c = absurd c
told_split (Some xs) (Some ys) input bytes e c = let same : xs ≡ input = cc e in (ys, sym same ∙ c, refl)

at_end : (left : Option (List ℕ)) (input bytes rest : List ℕ) → left ≡ Some rest → IsAtEnd left → input ≡ bytes ++ rest → bytes ≡ input
at_end None input bytes rest e ended is = absurd (cc e)
at_end (Some xs) input bytes rest e ended is =
    let same : xs ≡ rest = cc e in let none : rest ≡ [] = sym same ∙ ended in sym (append-nil bytes) ∙ ap (λ l. bytes ++ l) (sym none) ∙ sym is

-- a line that is a mark has its own number
word_mark : (b : Bool) (number at : ℕ) → (if b then Mark number else Open) ≡ Mark at → at ≡ number
word_mark true number at e = cc e
word_mark false number at e = absurd (cc e)

unless_mark : (fault : Option TextRefusal) (end : HeadEnd) (number at : ℕ) → (end ≡ Mark at → at ≡ number) → unless_fault fault end ≡ Mark at → at ≡ number
unless_mark (Some (refusal.NotAscii line)) end number at h e = absurd (cc e)
unless_mark (Some (refusal.LineTooLong line)) end number at h e = absurd (cc e)
unless_mark _ end number at h e = h e

end_mark : (number at : ℕ) (line : List ℕ) → line_end live_word number line ≡ Mark at → at ≡ number
unfolding line_end
end_mark number at line e = unless_mark (line_fault number line) (word_end live_word number (tokens_of line)) number at (word_mark (is_word live_word (tokens_of line)) number at) e

-- a mark stands among the lines
mark_within : (number n : ℕ) (lines : List (List ℕ)) → head_of live_word number lines ≡ Mark n → (number ≤ n) × (n < number + length lines)
mark_within number n [] e = absurd (cc e)
mark_within number n (line ∷ lines) e = by_end (line_end live_word number line) refl (mark_within (number + 1) n lines) e
  where
    by_end : (end : HeadEnd) → line_end live_word number line ≡ end → (head_of live_word (number + 1) lines ≡ Mark n → (number + 1 ≤ n) × (n < number + 1 + length lines)) → first_end end (head_of live_word (number + 1) lines) ≡ Mark n
        → (number ≤ n) × (n < number + length (line ∷ lines))
    by_end Open is behind e = let later = behind e in (omega (arith, later.0), omega (arith, later.1))
    by_end (Mark at) is behind e = let here = end_mark number at line is in let same : at ≡ n = cc e in (omega (arith, here, same), omega (arith, here, same))
    by_end (Fault at kind) is behind e = absurd (cc e)

module _ (laws : LawsOfLines) (one : (lines : List (List (List ℕ))) → IsOneSet lines) (source : SourceSeen) (out : SinkSeen) (input : List ℕ) (set : ProgramSet) (told : source.old.left ≡ Some input)
    (live : Live input set) (few : length input ≤ limit) (no_read : ReadFails source → ⊥) (no_write : WriteFails out → ⊥) where
  abbrev lines : List (List ℕ)
  lines = lines_of input

  -- the whole lines of a front of the input are a front of its lines
  whole_of : (bytes rest : List ℕ) → input ≡ bytes ++ rest → (back : List (List ℕ)) × (lines ≡ whole_lines bytes ++ back)
  whole_of bytes rest is =
      let first = laws.whole_longer bytes rest in
      let all = laws.whole (bytes ++ rest) in
      (first.0 ++ all.0, ap lines_of is ∙ all.1 ∙ ap (λ l. l ++ all.0) first.1 ∙ append_assoc (whole_lines bytes) first.0 all.0)

  -- lines that are a front of those of the input do not end otherwise
  no_fault : (front back : List (List ℕ)) (line : ℕ) (kind : LineFault) → lines ≡ front ++ back → head_of live_word 1 front ≡ Fault line kind → ⊥
  no_fault front back line kind is e =
      let all : head_of live_word 1 lines ≡ Fault line kind = ap (head_of live_word 1) is ∙ laws.faulty 1 line kind front back e in cc (live.says.mark, all)

  same_place : (front back : List (List ℕ)) (place : ℕ) → lines ≡ front ++ back → head_of live_word 1 front ≡ Mark (place + 1) → live.says.place ≡ place
  same_place front back place is e =
      let all : head_of live_word 1 lines ≡ Mark (place + 1) = ap (head_of live_word 1) is ∙ laws.marked 1 (place + 1) front back e in
      let same : live.says.place + 1 ≡ place + 1 = cc (live.says.mark, all) in omega (arith, same)

  -- no line behind the mark that was read is faulty
  module _ (read : List (List ℕ)) (back : List (List ℕ)) (is : lines ≡ read ++ back) (says : SaysWords read) where
    place_is : live.says.place ≡ says.place
    place_is = same_place read back says.place is says.mark

    within : says.place + 1 ≤ length read
    within = let w = mark_within 1 (says.place + 1) read says.mark in omega (arith, w.1)

    first_is : says.first ≡ live.says.first
    first_is =
        let front : take live.says.place lines ≡ take says.place read = ap (λ n. take n lines) place_is ∙ ap (take says.place) is ∙ take-append-le says.place read back (omega (arith, within)) in
        (one (map tokens_of (take says.place read))).one_meaning says.first live.says.first says.meaning (subst (λ l. IsMeaning (map tokens_of l) live.says.first) front live.says.meaning)

    intake_is : IsIntakeOf live.says.first says.intake
    intake_is = subst (λ s. IsIntakeOf s says.intake) first_is says.intake_is

    fed_is : (l : List (List ℕ)) → fed says.intake l ≡ fed live.says.intake l
    fed_is l =
        laws.alike says.intake live.says.intake (intake_is.places ∙ sym live.says.intake_is.places) (intake_is.first_port ∙ sym live.says.intake_is.first_port)
        (omega (arith, intake_is.room, live.says.intake_is.room)) (omega (arith, says.line, live.says.line, place_is)) l

    behind_is : drop (live.says.place + 1) lines ≡ drop (says.place + 1) read ++ back
    behind_is = ap (λ n. drop (n + 1) lines) place_is ∙ ap (drop (says.place + 1)) is ∙ drop-append-le (says.place + 1) read back within

    none_faulty : (fault : ℕ × LineFault) → (put_by says).fault ≡ Some fault → ⊥
    none_faulty fault e =
        let stays = laws.stopped says.intake fault (drop (says.place + 1) read) back e in
        let all : (put_by live.says).fault ≡ Some fault =
        ap (λ l. (fed live.says.intake l).fault) behind_is ∙ ap (λ (s : Fed). s.fault) (sym (fed_is (drop (says.place + 1) read ++ back)) ∙ stays) ∙ e in
        cc (live.faultless, all)

  -- the lines before a mark that was read mean the set
  module _ (bytes rest : List ℕ) (is : input ≡ bytes ++ rest) (left_is : source.new.left ≡ Some rest) where
    ended : IsAtEnd source.new.left → bytes ≡ input
    ended e = at_end source.new.left input bytes rest left_is e is

    front_of : (read : List (List ℕ)) → AreRead source.new.left bytes read → (back : List (List ℕ)) × (lines ≡ read ++ back)
    front_of read (inl e) = let w = whole_of bytes rest is in (w.0, w.1 ∙ ap (λ l. l ++ w.0) (sym e))
    front_of read (inr e) = ([], ap lines_of (sym (ended e.0)) ∙ sym e.1 ∙ sym (append-nil read))

    behind_mark : (text more : List ℕ) (m : IsMarked live_word source.new.left bytes text more) → (behind : List (List ℕ)) × (lines ≡ lines_of text ++ m.mark ∷ behind)
    behind_mark text more m = by_behind m.behind
      where
        by_behind : GoesOn bytes text m.mark more ⊎ IsAtEnd source.new.left × EndsThere bytes text m.mark more → (behind : List (List ℕ)) × (lines ≡ lines_of text ++ m.mark ∷ behind)
        by_behind (inl g) = (lines_of (more ++ rest), ap lines_of is ∙ g.lines rest)
        by_behind (inr e) = ([], ap lines_of (sym (ended e.0)) ∙ e.1.lines)

    no_set_fault : (line : ℕ) (kind : SetKind) → FaultBeforeMark live_word source.new.left bytes line kind → ⊥
    no_set_fault line kind f =
        let b = behind_mark f.text f.rest f.marked in
        let front = lines_of f.text in
        let all : lines ≡ (front ++ f.marked.mark ∷ []) ++ b.0 = b.1 ∙ sym (append_assoc front (f.marked.mark ∷ []) b.0) in
        let place : live.says.place ≡ length front = same_place (front ++ f.marked.mark ∷ []) b.0 (length front) all f.marked.first in
        let before : take live.says.place lines ≡ front = ap (λ n. take n lines) place ∙ ap (take (length front)) b.1 ∙ take_front front (f.marked.mark ∷ b.0) in
        (one (token_lines f.text)).not_both live.says.first line kind (subst (λ l. IsMeaning (map tokens_of l) live.says.first) before live.says.meaning) f.cause

    no_missing : (line : ℕ) (kind : SetKind) → FaultWithoutMark live_word source.new.left bytes line kind → ⊥
    no_missing line kind f =
        let unmarked : head_of live_word 1 lines ≡ Open = ap (λ b. head_of live_word 1 (lines_of b)) (sym (ended f.end)) ∙ f.open_lines in cc (live.says.mark, unmarked)

  abbrev Served : ℕ → Type 0
  Served status = IsRestStatus status ⊎ (status ≡ 9)

  in_head : (failure : Failure) → StopsInHead live_word PIECE source failure → (failure ≡ Memory)
  in_head (Refused (Put line kind)) s = absurd (by_cause s.cause)
    where
      by_cause : (head_of live_word 1 (whole_lines s.bytes) ≡ Fault line kind) ⊎ IsAtEnd source.new.left × (head_of live_word 1 (lines_of s.bytes) ≡ Fault line kind) → ⊥
      by_cause (inl e) = let t = told_split source.old.left source.new.left input s.bytes told s.taken in let w = whole_of s.bytes t.0 t.1 in no_fault (whole_lines s.bytes) w.0 line kind w.1 e
      by_cause (inr e) =
          let t = told_split source.old.left source.new.left input s.bytes told s.taken in
          let all : head_of live_word 1 lines ≡ Fault line kind = ap (λ b. head_of live_word 1 (lines_of b)) (sym (ended s.bytes t.0 t.1 t.2 e.0)) ∙ e.1 in cc (live.says.mark, all)
  in_head (Refused (Set line kind)) s = absurd (by_cause s.cause)
    where
      by_cause : FaultBeforeMark live_word source.new.left s.bytes line kind ⊎ FaultWithoutMark live_word source.new.left s.bytes line kind → ⊥
      by_cause (inl f) = let t = told_split source.old.left source.new.left input s.bytes told s.taken in no_set_fault s.bytes t.0 t.1 t.2 line kind f
      by_cause (inr f) = let t = told_split source.old.left source.new.left input s.bytes told s.taken in no_missing s.bytes t.0 t.1 t.2 line kind f
  in_head ReadFault s = absurd (no_read s.cause.1)
  in_head TooLong s =
      let t = told_split source.old.left source.new.left input s.bytes told s.taken in
      let long = s.cause.0 in absurd (omega (arith, long, few, ap length t.1, length-append s.bytes t.0))
  in_head Memory s = refl
  in_head Use s = absurd s.cause
  in_head WriteFault s = absurd s.cause

  behind_head : (answer : Answer) → Reached source out answer → Served (status_of answer)
  behind_head (Ok how) r = inl (record { ending = how; status_is = refl })
  behind_head (Err (Refused (Put line kind))) r =
      let t = told_split source.old.left source.new.left input r.bytes told r.taken in
      let f = front_of r.bytes t.0 t.1 t.2 r.lines r.read.0 in
      absurd (none_faulty r.lines f.0 f.1 r.says (line, kind) r.read.1)
  behind_head (Err (Refused (Set line kind))) r = absurd r.read
  behind_head (Err ReadFault) r = absurd (no_read r.read.1)
  behind_head (Err TooLong) r =
      let t = told_split source.old.left source.new.left input r.bytes told r.taken in
      let long = r.read.0 in absurd (omega (arith, long, few, ap length t.1, length-append r.bytes t.0))
  behind_head (Err WriteFault) r = absurd (no_write r.written.failed)
  behind_head (Err Memory) r = inr refl
  behind_head (Err Use) r = absurd r.written

  served : (answer : Answer) → Came source out answer → Served (status_of answer)
  served answer (inl ends) = inr (ap status_of ends.answer_is ∙ ap failure_status (in_head ends.failure ends.stops))
  served answer (inr (inl gives)) = inr (ap status_of gives.answer_is)
  served answer (inr (inr r)) = behind_head answer r

pub is_complete : (laws : LawsOfLines) (one : (lines : List (List (List ℕ))) → IsOneSet lines) (call : Call) → Ended call → IsComplete call
is_complete laws one call ended = λ workers input set is told live few no_read no_write.
    let fed = is_fed laws call ended workers input is told in
    subst (Served laws one call.seen.source call.seen.out input set told live few no_read no_write) (sym fed.status_is)
    (served laws one call.seen.source call.seen.out input set told live few no_read no_write fed.answer fed.came)

-- causes
module _ (source : SourceSeen) (out : SinkSeen) where
  -- why the head was not read, for this failure
  head_cause : (failure : Failure) (e : EndsInHead source out (Err failure)) → HeadCause live_word source e.stops.bytes failure
  head_cause failure e = let same : e.failure ≡ failure = cc e.answer_is in subst (HeadCause live_word source e.stops.bytes) same e.stops.cause

  read_fault : (answer : Answer) → Came source out answer → status_of answer ≡ 7 → ReadFails source
  read_fault (Ok how) c e = absurd (omega (arith, low how, e))
  read_fault (Err (Refused flaw)) c e = absurd (omega (arith, e))
  read_fault (Err ReadFault) (inl ends) e = (head_cause ReadFault ends).1
  read_fault (Err ReadFault) (inr (inl gives)) e = absurd (cc gives.answer_is)
  read_fault (Err ReadFault) (inr (inr r)) e = r.read.1
  read_fault (Err WriteFault) c e = absurd (omega (arith, e))
  read_fault (Err Memory) c e = absurd (omega (arith, e))
  read_fault (Err TooLong) c e = absurd (omega (arith, e))
  read_fault (Err Use) c e = absurd (omega (arith, e))

  write_fault : (answer : Answer) → Came source out answer → status_of answer ≡ 8 → WriteFails out
  write_fault (Ok how) c e = absurd (omega (arith, low how, e))
  write_fault (Err (Refused flaw)) c e = absurd (omega (arith, e))
  write_fault (Err ReadFault) c e = absurd (omega (arith, e))
  write_fault (Err WriteFault) (inl ends) e = absurd (head_cause WriteFault ends)
  write_fault (Err WriteFault) (inr (inl gives)) e = absurd (cc gives.answer_is)
  write_fault (Err WriteFault) (inr (inr r)) e = r.written.failed
  write_fault (Err Memory) c e = absurd (omega (arith, e))
  write_fault (Err TooLong) c e = absurd (omega (arith, e))
  write_fault (Err Use) c e = absurd (omega (arith, e))

  too_long : (answer : Answer) → Came source out answer → status_of answer ≡ 10 → GivesTooMany source
  too_long (Ok how) c e = absurd (omega (arith, low how, e))
  too_long (Err (Refused flaw)) c e = absurd (omega (arith, e))
  too_long (Err ReadFault) c e = absurd (omega (arith, e))
  too_long (Err WriteFault) c e = absurd (omega (arith, e))
  too_long (Err Memory) c e = absurd (omega (arith, e))
  too_long (Err TooLong) (inl ends) e = let long = (head_cause TooLong ends).0 in omega (arith, long, ends.stops.counted)
  too_long (Err TooLong) (inr (inl gives)) e = absurd (cc gives.answer_is)
  too_long (Err TooLong) (inr (inr r)) e = let long = r.read.0 in omega (arith, long, r.counted)
  too_long (Err Use) c e = absurd (omega (arith, e))

  abbrev OneOf : ℕ → Type 0
  OneOf status = (status ≡ 2) ⊎ (status ≡ 9) ⊎ (status ≡ 10)

  many : (answer : Answer) → Came source out answer → GivesTooMany source → OneOf (status_of answer)
  many (Ok how) (inl ends) m = absurd (cc ends.answer_is)
  many (Ok how) (inr (inl gives)) m = absurd (cc gives.answer_is)
  many (Ok how) (inr (inr r)) m = absurd (omega (arith, m, r.counted, r.read.few))
  many (Err (Refused flaw)) c m = inl refl
  many (Err ReadFault) (inl ends) m = let short = (head_cause ReadFault ends).0 in absurd (omega (arith, m, short, ends.stops.counted))
  many (Err ReadFault) (inr (inl gives)) m = absurd (cc gives.answer_is)
  many (Err ReadFault) (inr (inr r)) m = let short = r.read.0 in absurd (omega (arith, m, short, r.counted))
  many (Err WriteFault) (inl ends) m = absurd (head_cause WriteFault ends)
  many (Err WriteFault) (inr (inl gives)) m = absurd (cc gives.answer_is)
  many (Err WriteFault) (inr (inr r)) m = absurd (omega (arith, m, r.counted, r.read.few))
  many (Err Memory) c m = inr (inl refl)
  many (Err TooLong) c m = inr (inr refl)
  many (Err Use) (inl ends) m = absurd (head_cause Use ends)
  many (Err Use) (inr (inl gives)) m = absurd (cc gives.answer_is)
  many (Err Use) (inr (inr r)) m = absurd r.written

pub has_cause : (laws : LawsOfLines) (call : Call) → Ended call → HasCause call
has_cause laws call ended = λ workers input is told.
    let source = call.seen.source in
    let out = call.seen.out in
    let fed = is_fed laws call ended workers input is told in
    record {
      read_fault = λ e. read_fault source out fed.answer fed.came (sym fed.status_is ∙ e);
      write_fault = λ e. write_fault source out fed.answer fed.came (sym fed.status_is ∙ e);
      too_long = λ e. too_long source out fed.answer fed.came (sym fed.status_is ∙ e);
      many = λ m. subst (OneOf source out) (sym fed.status_is) (many source out fed.answer fed.came m);
    }
