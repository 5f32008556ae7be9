-- What was read and written once the line `live` was reached, in terms of all bytes.
use Rattle.std.proofs.Common.{◌≡◌, ◌≢◌, ◌⊎◌, inl, inr, ℕ, zero, suc, ◌+◌, ◌-◌, ◌≤◌, List, [], ◌∷◌, ◌++◌, length, map, take, drop, Option, Some, None, Result, Ok, Err, refl, sym, ap, ◌∙◌, subst, arith, append_assoc, append-nil, length-append}
use Rattle.std.specs.Io.KnownBytes.{Consumes, IsAtEnd}
use Rattle.std.proofs.KnownBytes.{Consumes-trans}
use Rattle.std.proofs.Math.Seq.{drop-append_seam}
use Rattle.std.proofs.lemmas.List.{take-append-drop}
use Rattle.raw_io.specs.Causes.{Rose}
use Rattle.raw_io.specs.Sights.{SourceSight}
use Rattle.raw_text.specs.Lines.{lines_of, tokens_of}
use Rattle.raw_set_text.specs.Meaning.{IsMeaning}
use Rattle.raw_queue.specs.declared.item.Item.{Item}
use Rattle.raw_live_text.specs.declared.head.HeadEnd.TheVariants.{Mark, Fault}
use Rattle.raw_live_text.specs.declared.intake.Intake.{Intake}
use Rattle.raw_live_text.specs.declared.fault.LineFault.{LineFault}
use Rattle.raw_live_text.specs.declared.stop.Stop.{Stop}
use Rattle.raw_live_text.specs.declared.stop.Stop.TheVariants as stop
use Rattle.raw_live_text.specs.Feeding.{Fed, fed, whole_lines, BeginsItems, AreWords, ReadAs, IsPrompt, AreRead}
use Rattle.raw_live_text.specs.Heads.{head_of, GoesOn, EndsThere}
use Rattle.raw_model.specs.declared.ending.Ending.{Ending}
use Rattle.raw_live.specs.declared.live.Halt.{Halt}
use Rattle.raw_live.specs.declared.live.Halt.TheVariants as halt
use Rattle.raw_live.specs.Engine.{AreSets}
use Rattle.raw_live.specs.Due.{live_text}
use Rattle.raw_live.specs.Judging.{IsIntakeOf}
use Rattle.raw_live.specs.Lives.{WritesOrFails, LivedAs}
use Rattle.raw_live_head.specs.declared.beginning.Begun.{Begun}
use Rattle.raw_shell.specs.declared.failure.Failure.TheVariants.{WriteFault, Memory}
use Rattle.raw_shell.specs.Seen.{SourceSeen, SinkSeen, ReadFails, limit}
use Rattle.raw_live_run.specs.Answers.{Answer, answer_of}
use Rattle.raw_live_head.specs.Beginning.{Begins}
use Rattle.raw_live_run.specs.Live.{live_word, SaysWords, put_by}
use Rattle.raw_live_run.specs.Serving.{LivesOn}
use Rattle.raw_live_run.specs.Reaching.{AreAllPut, IsReadWhole, IsReadAs, StopsInPiece, IsWrittenAs, Reached}
use Rattle.raw_live_text.specs.declared.reader.TheConstants.{PIECE}

pub take_front : (xs ys : List (List ℕ)) → take (length xs) (xs ++ ys) ≡ xs
take_front [] ys = refl
take_front (x ∷ xs) ys = ap (λ l. x ∷ l) (take_front xs ys)

pub drop_front : (xs ys : List (List ℕ)) (y : List ℕ) → drop (length xs + 1) (xs ++ y ∷ ys) ≡ ys
drop_front xs ys y =
    let n : length xs + 1 ≡ length (xs ++ y ∷ []) = omega (arith, length-append xs (y ∷ [])) in
    ap (λ k. drop k (xs ++ y ∷ ys)) n ∙ ap (drop (length (xs ++ y ∷ []))) (sym (append_assoc xs (y ∷ []) ys)) ∙ drop-append_seam (xs ++ y ∷ []) ys

take_over : (xs ys : List ℕ) (n : ℕ) → length xs ≤ n → take n (xs ++ ys) ≡ xs ++ take (n - length xs) ys
take_over [] ys n within = let same : n ≡ n - length {A = ℕ} [] = omega arith in ap (λ k. take k ys) same
take_over (x ∷ xs) ys zero within = absurd (omega (arith, within))
take_over (x ∷ xs) ys (suc n) within =
    let same : n - length xs ≡ suc n - length (x ∷ xs) = omega arith in
    ap (λ l. x ∷ l) (take_over xs ys n (omega (arith, within))) ∙ ap (λ k. x ∷ (xs ++ take k ys)) same

-- what `law_heads` says of lines
pub record LawsOfLines : Type 0 where
  pub marked : (number line : ℕ) (front back : List (List ℕ)) → head_of live_word number front ≡ Mark line → head_of live_word number (front ++ back) ≡ Mark line
  pub faulty : (number line : ℕ) (kind : LineFault) (front back : List (List ℕ)) → head_of live_word number front ≡ Fault line kind → head_of live_word number (front ++ back) ≡ Fault line kind
  pub whole : (bytes : List ℕ) → (rest : List (List ℕ)) × (lines_of bytes ≡ whole_lines bytes ++ rest)
  pub whole_longer : (front back : List ℕ) → (rest : List (List ℕ)) × (whole_lines (front ++ back) ≡ whole_lines front ++ rest)
  pub no_fault : (intake : Intake) → (fed intake []).fault ≡ None
  pub begins : (intake : Intake) (front back : List (List ℕ)) → BeginsItems (fed intake front).items (fed intake (front ++ back)).items
  pub stopped : (intake : Intake) (fault : ℕ × LineFault) (front back : List (List ℕ)) → (fed intake front).fault ≡ Some fault → fed intake (front ++ back) ≡ fed intake front
  pub alike : (a b : Intake) → a.places.items ≡ b.places.items → a.first_port ≡ b.first_port → a.room ≡ b.room → a.line ≡ b.line → (lines : List (List ℕ)) → fed a lines ≡ fed b lines

nothing : (lines_of [] ≡ []) × (whole_lines [] ≡ [])
unfolding lines_of whole_lines
nothing = (refl, refl)

-- of a source that tells its bytes and is at its end nothing more is read
record IsOver (new : Option (List ℕ)) (bytes : List ℕ) : Type 0 where
  none : bytes ≡ []
  ended : IsAtEnd new

empty : (xs ys : List ℕ) → [] ≡ xs ++ ys → (xs ≡ []) × (ys ≡ [])
empty [] ys e = (refl, sym e)
empty (x ∷ xs) ys e = absurd (cc e)

over : (input first second : List ℕ) (between new : Option (List ℕ)) → Consumes (Some input) between first → IsAtEnd between → Consumes between new second → IsOver new second
over input first second None new c e d = absurd c
over input first second (Some xs) None c e d = absurd d
over input first second (Some xs) (Some ys) c e d =
    let both = empty second ys (sym e ∙ d) in record { none = both.0; ended = both.1 }

module _ (laws : LawsOfLines) (source : SourceSeen) (between : SourceSight) (out : SinkSeen) (begun : Begun) (b : Begins live_word PIECE source.old between begun)
    (input : List ℕ) (told : source.old.left ≡ Some input) (intake : Intake) (intake_is : IsIntakeOf begun.set intake) (line : intake.line ≡ begun.line) (words : List Item) (more : List ℕ)
    (taken : Consumes between.left source.new.left more) (counted : source.new.given ≡ between.given + length more)
    (ahead : IsPrompt intake begun.rest.items more) (bounded : length more ≤ limit - begun.given + 1) where
  abbrev front : List (List ℕ)
  front = lines_of b.text

  abbrev rest : List ℕ
  rest = begun.rest.items

  abbrev most : ℕ
  most = limit - begun.given

  abbrev total : List ℕ
  total = b.bytes ++ more

  -- all lines, with these behind the mark
  abbrev all_lines : List (List ℕ) → List (List ℕ)
  all_lines behind = front ++ b.marked.mark ∷ behind

  abbrev says : (behind : List (List ℕ)) → SaysWords (all_lines behind)
  says behind = record {
    place = length front;
    mark = subst (λ l. head_of live_word 1 l ≡ Mark (length front + 1)) (append_assoc front (b.marked.mark ∷ []) behind) (laws.marked 1 (length front + 1) (front ++ b.marked.mark ∷ []) behind b.marked.first);
    first = begun.set;
    meaning = subst (λ l. IsMeaning (map tokens_of l) begun.set) (sym (take_front front (b.marked.mark ∷ behind))) b.meaning;
    intake = intake;
    intake_is = intake_is;
    line = line ∙ b.line;
  }

  put_is : (behind : List (List ℕ)) → put_by (says behind) ≡ fed intake behind
  put_is behind = ap (fed intake) (drop_front front behind b.marked.mark)

  -- what was read, by how the reading ended
  abbrev IsReadBy : List (List ℕ) → Result (Unit {0}) Stop → Type 0
  IsReadBy behind (Ok x) = IsReadWhole source total (all_lines behind) (fed intake behind) words
  IsReadBy behind (Err (stop.At number kind)) = AreRead source.new.left total (all_lines behind) × ((fed intake behind).fault ≡ Some (number, kind)) × (words ≡ (fed intake behind).items)
  IsReadBy behind (Err stop.Read) = (length total ≤ limit) × ReadFails source × AreRead source.new.left total (all_lines behind) × AreAllPut (fed intake behind) words
  IsReadBy behind (Err stop.TooLong) = (length total ≡ limit + 1) × (all_lines behind ≡ whole_lines (take limit total)) × AreAllPut (fed intake behind) words
  IsReadBy behind (Err stop.Memory) = (all_lines behind ≡ lines_of total) × BeginsItems words (fed intake behind).items

  abbrev IsRead : Result (Unit {0}) Stop → Type 0
  IsRead read = (behind : List (List ℕ)) × IsReadBy behind read

  rose : Rose between.faults source.new.faults → ReadFails source
  rose r = omega (arith, b.count, r)

  -- a newline stands behind the mark
  module _ (g : GoesOn b.bytes b.text b.marked.mark rest) where
    go_on : (read : Result (Unit {0}) Stop) → ReadAs between source.new intake rest most more words read → IsRead read
    go_on (Ok x) h = (
      lines_of (rest ++ more),
      record {
        ended = h.0;
        few = let short = h.1 in omega (arith, short, b.few, b.given, length-append b.bytes more);
        all = sym (g.lines more);
        words_are = (h.2.0, sym h.2.1);
      },
    )
    go_on (Err (stop.At number kind)) (inl h) = (whole_lines (rest ++ more), (inl (sym (g.whole more)), h.0, sym h.1))
    go_on (Err (stop.At number kind)) (inr h) = (lines_of (rest ++ more), (inr (h.0, sym (g.lines more)), h.1, sym h.2))
    go_on (Err stop.Read) h =
        let short = h.0 in
        (whole_lines (rest ++ more), (omega (arith, short, b.few, b.given, length-append b.bytes more), rose h.1, inl (sym (g.whole more)), (h.2.0, sym h.2.1)))
    go_on (Err stop.TooLong) h =
        let long = h.0 in
        let cut : take limit total ≡ b.bytes ++ take most more = take_over b.bytes more limit b.few ∙ ap (λ n. b.bytes ++ take (limit - n) more) (sym b.given) in
        (whole_lines (rest ++ take most more), (omega (arith, long, b.few, b.given, length-append b.bytes more), sym (g.whole (take most more)) ∙ ap whole_lines (sym cut), (h.1.0, sym h.1.1)))
    go_on (Err stop.Memory) h = (lines_of (rest ++ more), (sym (g.lines more), h))

  -- the mark is the last line
  module _ (e : EndsThere b.bytes b.text b.marked.mark rest) (o : IsOver source.new.left more) where
    nothing_more : rest ++ more ≡ []
    nothing_more = ap (λ l. l ++ more) e.none ∙ o.none

    no_lines : lines_of (rest ++ more) ≡ []
    no_lines = ap lines_of nothing_more ∙ nothing.0

    no_whole : whole_lines (rest ++ more) ≡ []
    no_whole = ap whole_lines nothing_more ∙ nothing.1

    all_are : all_lines [] ≡ lines_of total
    all_are = sym e.lines ∙ ap lines_of (sym (append-nil b.bytes) ∙ ap (λ l. b.bytes ++ l) (sym o.none))

    end_there : (read : Result (Unit {0}) Stop) → ReadAs between source.new intake rest most more words read → IsRead read
    end_there (Ok x) h =
        let words_are = subst (λ l. AreWords (fed intake l) words) no_lines h.2 in (
          [],
          record {
            ended = o.ended;
            few = omega (arith, b.few, length-append b.bytes more, ap length o.none);
            all = all_are;
            words_are = (words_are.0, sym words_are.1);
          },
        )
    end_there (Err (stop.At number kind)) (inl h) = absurd (cc (laws.no_fault intake, ap (λ l. (fed intake l).fault) no_whole, h.0))
    end_there (Err (stop.At number kind)) (inr h) = absurd (cc (laws.no_fault intake, ap (λ l. (fed intake l).fault) no_lines, h.1))
    end_there (Err stop.Read) h =
        let words_are = subst (λ l. AreWords (fed intake l) words) no_whole h.2 in
        ([], (omega (arith, b.few, length-append b.bytes more, ap length o.none), rose h.1, inr (o.ended, all_are), (words_are.0, sym words_are.1)))
    end_there (Err stop.TooLong) h = let long = h.0 in absurd (omega (arith, long, ap length o.none))
    end_there (Err stop.Memory) h = ([], (all_are, subst (λ l. BeginsItems words (fed intake l).items) no_lines h))

  abbrev Behind : Type 0
  Behind = GoesOn b.bytes b.text b.marked.mark rest ⊎ IsAtEnd between.left × EndsThere b.bytes b.text b.marked.mark rest

  is_over : IsAtEnd between.left → IsOver source.new.left more
  is_over ended = over input b.bytes more between.left source.new.left (subst (λ left. Consumes left between.left b.bytes) told b.taken) ended taken

  read_by : Behind → (read : Result (Unit {0}) Stop) → ReadAs between source.new intake rest most more words read → IsRead read
  read_by (inl g) read h = go_on g read h
  read_by (inr e) read h = end_there e.1 (is_over e.0) read h

  -- words that were handed on are a front of those that all lines put
  begins_whole : (lines : List (List ℕ)) (tail : List (List ℕ)) (whole : List (List ℕ)) → whole ≡ lines ++ tail → (fed intake lines).items ≡ words → BeginsItems words (fed intake whole).items
  begins_whole lines tail whole e is =
      subst (λ l. BeginsItems words (fed intake l).items) (sym e) (subst (λ w. BeginsItems w (fed intake (lines ++ tail)).items) is (laws.begins intake lines tail))

  read_begins : (read : Result (Unit {0}) Stop) → ReadAs between source.new intake rest most more words read → BeginsItems words (fed intake (lines_of (rest ++ more))).items
  read_begins (Ok x) h = begins_whole (lines_of (rest ++ more)) [] (lines_of (rest ++ more)) (sym (append-nil (lines_of (rest ++ more)))) h.2.1
  read_begins (Err (stop.At number kind)) (inl h) = let w = laws.whole (rest ++ more) in begins_whole (whole_lines (rest ++ more)) w.0 (lines_of (rest ++ more)) w.1 h.1
  read_begins (Err (stop.At number kind)) (inr h) = begins_whole (lines_of (rest ++ more)) [] (lines_of (rest ++ more)) (sym (append-nil (lines_of (rest ++ more)))) h.2
  read_begins (Err stop.Read) h = let w = laws.whole (rest ++ more) in begins_whole (whole_lines (rest ++ more)) w.0 (lines_of (rest ++ more)) w.1 h.2.1
  read_begins (Err stop.TooLong) h =
      let part = rest ++ take most more in
      let w = laws.whole (rest ++ more) in
      let longer = laws.whole_longer part (drop most more) in
      let is : part ++ drop most more ≡ rest ++ more = append_assoc rest (take most more) (drop most more) ∙ ap (λ l. rest ++ l) (take-append-drop most more) in
      begins_whole (whole_lines part) (longer.0 ++ w.0) (lines_of (rest ++ more)) (w.1 ∙ ap (λ l. l ++ w.0) (ap whole_lines (sym is) ∙ longer.1) ∙ append_assoc (whole_lines part) longer.0 w.0) h.1.1
  read_begins (Err stop.Memory) h = h

  memory_by : Behind → (read : Result (Unit {0}) Stop) → ReadAs between source.new intake rest most more words read → IsRead (Err stop.Memory)
  memory_by (inl g) read h = (lines_of (rest ++ more), (sym (g.lines more), read_begins read h))
  memory_by (inr e) read h =
      let o = is_over e.0 in ([], (all_are e.1 o, subst (λ l. BeginsItems words (fed intake l).items) (no_lines e.1 o) (read_begins read h)))

  -- how far was read at most
  in_head : (behind : List (List ℕ)) → more ≡ [] → StopsInPiece (says behind) total
  in_head behind none = record {
    front = b.prompt.front;
    piece = b.prompt.piece;
    is = ap (λ l. b.bytes ++ l) none ∙ append-nil b.bytes ∙ b.prompt.is;
    short = b.prompt.short;
    open_yet = inl b.prompt.unended;
  }

  in_piece : (behind : List (List ℕ)) → Behind → IsPrompt intake rest more → StopsInPiece (says behind) total
  in_piece behind there (inl none) = in_head behind none
  in_piece behind (inl g) (inr p) = record {
    front = b.bytes ++ p.front;
    piece = p.piece;
    is = ap (λ l. b.bytes ++ l) p.is ∙ sym (append_assoc b.bytes p.front p.piece);
    short = p.short;
    open_yet = inr (
        ap (λ l. (fed intake (drop (length front + 1) l)).fault) (g.whole p.front) ∙ ap (λ l. (fed intake l).fault) (drop_front front (whole_lines (rest ++ p.front)) b.marked.mark) ∙ p.faultless);
  }
  in_piece behind (inr e) (inr p) = in_head behind (is_over e.0).none

  -- what the answer says
  module _ (valid : AreSets begun.set words) where
    reached : (behind : List (List ℕ)) (answer : Answer) → IsReadAs source total (all_lines behind) (fed intake behind) words answer → IsWrittenAs out begun.set words answer
        → Reached source out answer
    reached behind answer read written = record {
      bytes = total;
      taken = Consumes-trans source.old.left between.left source.new.left b.bytes more b.taken taken;
      counted = omega (arith, counted, b.counted, length-append b.bytes more);
      lines = all_lines behind;
      says = says behind;
      prompt = in_piece behind b.marked.behind ahead;
      bounded = omega (arith, bounded, b.few, b.given, length-append b.bytes more);
      words = words;
      read = subst (λ (put : Fed). IsReadAs source total (all_lines behind) put words answer) (sym (put_is behind)) read;
      valid = valid;
      written = written;
    }

    stopped : (behind : List (List ℕ)) (why : Stop) → IsReadBy behind (Err why) → why ≢ stop.Memory → WritesOrFails out.old out.new (live_text begun.set words) → Reached source out (answer_of (Err (halt.Stopped why)))
    stopped behind stop.Memory read other written = absurd (other refl)
    stopped behind _ read other written = reached behind _ read written

    by_lived : (lived : Result Ending Halt) (read : Result (Unit {0}) Stop) → ReadAs between source.new intake rest most more words read → LivedAs out.old out.new read begun.set words lived
        → Reached source out (answer_of lived)
    by_lived (Ok how) read h l = let r = read_by b.marked.behind (Ok tt) (subst (ReadAs between source.new intake rest most more words) l.0 h) in reached r.0 (Ok how) r.1 l.1
    by_lived (Err (halt.Stopped why)) read h l =
        let r = read_by b.marked.behind (Err why) (subst (ReadAs between source.new intake rest most more words) l.0 h) in
        stopped r.0 why r.1 l.1 l.2
    by_lived (Err halt.Write) read h l = let r = read_by b.marked.behind (Ok tt) (subst (ReadAs between source.new intake rest most more words) l.0 h) in reached r.0 (Err WriteFault) r.1 l.1
    by_lived (Err halt.Memory) read h l = let r = memory_by b.marked.behind read h in reached r.0 (Err Memory) r.1 l

pub reached_by : (laws : LawsOfLines) (source : SourceSeen) (between : SourceSight) (out : SinkSeen) (begun : Begun) (b : Begins live_word PIECE source.old between begun) (answer : Answer)
    (input : List ℕ) → source.old.left ≡ Some input → LivesOn (record { old = between; new = source.new }) out begun answer → Reached source out answer
reached_by laws source between out begun b answer input told on =
    let l = on.lives in
    subst (Reached source out) (sym on.answer_is)
    (by_lived laws source between out begun b input told on.intake on.intake_is on.line l.words l.reads.bytes l.reads.taken l.reads.counted l.reads.prompt l.reads.bounded l.valid on.lived l.read l.reads.meant l.lived)
