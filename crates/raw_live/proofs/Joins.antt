-- What the three came to together.
use Rattle.std.proofs.Common.{◌≡◌, ◌⊎◌, inl, inr, ℕ, ◌-◌, ◌<◌, ◌≤◌, Bool, true, false, List, [], ◌∷◌, ◌++◌, length, take, Option, Some, None, Result, Ok, Err, refl, sym, ap, ◌∙◌, subst, arith, append-nil, true≢false, length-append, length-take}
use Rattle.std.specs.Io.KnownBytes.{Appends}
use Rattle.std.proofs.Math.Seq.{take-length}
use Rattle.std.proofs.lemmas.List.{take-append-le}
use Rattle.std.specs.declared.alloc.AllocError.{AllocError}
use Rattle.raw_io.specs.declared.Failed.{Failed}
use Rattle.raw_io.specs.Sights.{Sight, SourceSight}
use Rattle.raw_io.specs.Writing.{AppendsFront, AppendsProperFront}
use Rattle.raw_text.specs.Lines.{lines_of}
use Rattle.raw_network.specs.Laws.{IsPrefix}
use Rattle.raw_model.specs.Program.{ProgramSet, IsSet}
use Rattle.raw_queue.specs.declared.item.Item.{Item}
use Rattle.raw_queue.specs.declared.item.Item.TheVariants.{Word, End}
use Rattle.raw_live_text.specs.declared.intake.Intake.{Intake}
use Rattle.raw_live_text.specs.declared.stop.Stop.{Stop}
use Rattle.raw_live_text.specs.declared.stop.Stop.TheVariants as stop
use Rattle.raw_live_text.specs.Feeding.{fed, whole_lines, BeginsItems, ReadAs, EndedWith, ReadsAll}
use Rattle.raw_live_text.proofs.Feeds.{begins_same, begins_over}
use Rattle.raw_live.specs.declared.engine.Engine.{Engine}
use Rattle.raw_live.specs.declared.writer.Finish.{Finish}
use Rattle.raw_live.specs.declared.writer.Finish.TheVariants.{Ended, HungUp}
use Rattle.raw_live.specs.Items.{has_end, got_text}
use Rattle.raw_live.specs.Engine.{with_items, AreSets}
use Rattle.raw_live.specs.Due.{words_after, live_items, live_text}
use Rattle.raw_live.specs.Running.{Runs}
use Rattle.raw_live.specs.Written.{WroteAs, Wrote}
use Rattle.raw_live.specs.Judging.{IsIntakeOf}
use Rattle.raw_live.specs.Joining.{RestsWhereEnded, IsFedWhereEnded, WroteWhereEnded, Joined}
use Rattle.raw_live.proofs.Fronts.{taken_begin, taken_whole, end_adds_none}
use Rattle.raw_live.proofs.Growth.{begins_over as text_over}
use Rattle.raw_live.proofs.AtRest.{items_end, live_append}
use Rattle.raw_live.proofs.Valid.{front_endless, shorter_valid}

-- a front of a text is a front of a longer one
pub front_longer : (old new : Option (List ℕ)) (text whole : List ℕ) → IsPrefix text whole → AppendsFront old new text → AppendsFront old new whole
front_longer None new text whole b h = tt
front_longer (Some xs) None text whole b h = absurd h
front_longer (Some xs) (Some ys) text whole b h =
    let n = length ys - length xs in
    let short : n ≤ length text = omega (arith, ap length h, length-append xs (take n text), length-take n text) in
    h ∙ ap (λ l. xs ++ l) (sym (take-append-le n text b.0 short) ∙ ap (take n) b.1)

-- a front of a text is a proper front of one that goes on
pub front_of_more : (old new : Option (List ℕ)) (text more : List ℕ) → 0 < length more → AppendsFront old new text → AppendsProperFront old new (text ++ more)
front_of_more None new text more some h = record { front = tt; short = omega (arith, some, length-append text more) }
front_of_more (Some xs) None text more some h = absurd h
front_of_more (Some xs) (Some ys) text more some h =
    let n = length ys - length xs in
    let few : n ≤ length text = omega (arith, ap length h, length-append xs (take n text), length-take n text) in
    record {
      front = h ∙ ap (λ l. xs ++ l) (sym (take-append-le n text more few));
      short = omega (arith, few, some, length-append text more);
    }

-- the lines of a front of items
text_front : (xs ys : List Item) → BeginsItems xs ys → IsPrefix (got_text xs) (got_text ys)
text_front xs ys b = taken_begin ys xs b.rest b.is

-- a whole text is a front of itself
pub whole_front : (old new : Option (List ℕ)) (text : List ℕ) → Appends old new text → AppendsFront old new text
whole_front None new text h = tt
whole_front (Some xs) None text h = absurd h
whole_front (Some xs) (Some ys) text h =
    let n : length ys - length xs ≡ length text = omega (arith, ap length h, length-append xs text) in
    h ∙ ap (λ l. xs ++ l) (sym (take-length text) ∙ ap (λ k. take k text) (sym n))

-- the lines whose words begin with those that were handed on
begins_all : (xs ys : List Item) → ys ≡ xs → BeginsItems xs ys
begins_all xs ys e = record { rest = []; is = e ∙ sym (append-nil xs) }

module _ (source_old source_new : SourceSight) (intake : Intake) (rest : List ℕ) (most : ℕ) (words : List Item) where
  abbrev Within : Type 0
  Within = (lines : List (List ℕ)) × BeginsItems words (fed intake lines).items

  read_as : (bytes : List ℕ) (read : Result (Unit {0}) Stop) → ReadAs source_old source_new intake rest most bytes words read → Within
  read_as bytes (Ok x) h = (lines_of (rest ++ bytes), begins_all _ _ h.2.1)
  read_as bytes (Err (stop.At line kind)) (inl h) = (whole_lines (rest ++ bytes), begins_all _ _ h.1)
  read_as bytes (Err (stop.At line kind)) (inr h) = (lines_of (rest ++ bytes), begins_all _ _ h.2)
  read_as bytes (Err stop.Read) h = (whole_lines (rest ++ bytes), begins_all _ _ h.2.1)
  read_as bytes (Err stop.TooLong) h = (whole_lines (rest ++ take most bytes), begins_all _ _ h.1.1)
  read_as bytes (Err stop.Memory) h = (lines_of (rest ++ bytes), h)

-- a front of words and the end is a front of the words, or all of it
front_of_ended : (words taken rest : List Item) → words ++ End ∷ [] ≡ taken ++ rest → (taken ≡ words ++ End ∷ []) ⊎ ((more : List Item) × (words ≡ taken ++ more))
front_of_ended words [] rest e = inr (words, refl)
front_of_ended [] (x ∷ []) rest e = inl (cc)
front_of_ended [] (x ∷ y ∷ taken) rest e = absurd (cc)
front_of_ended (w ∷ words) (x ∷ taken) rest e = later (front_of_ended words taken rest (cc))
  where
    same : w ≡ x
    same = cc

    later : (taken ≡ words ++ End ∷ []) ⊎ ((more : List Item) × (words ≡ taken ++ more)) → (x ∷ taken ≡ w ∷ (words ++ End ∷ [])) ⊎ ((more : List Item) × (w ∷ words ≡ x ∷ (taken ++ more)))
    later (inl is) = inl (cc)
    later (inr part) = inr (part.0, cc)

-- what the engine took are all words and the end, or a front of the words
front_of_put : (words put taken rest : List Item) (read : Result (Unit {0}) Stop) → EndedWith words put read → put ≡ taken ++ rest
    → (taken ≡ words ++ End ∷ []) ⊎ ((more : List Item) × (words ≡ taken ++ more))
front_of_put words put taken rest (Err stop.Memory) h e = inr (rest, sym h ∙ e)
front_of_put words put taken rest _ h e = front_of_ended words taken rest (sym h ∙ e)

module _ (source_old source_new : SourceSight) (old new : Sight) (intake : Intake) (rest : List ℕ) (most : ℕ) (first : ProgramSet) (engine : Engine)
    (put_first taken_first rest_first put_second taken_second rest_second : List Item) (first_is : put_first ≡ taken_first ++ rest_first) (second_is : put_second ≡ taken_second ++ rest_second)
    (is : IsIntakeOf first intake) (valid : IsSet first) (read : Result (Unit {0}) Stop) (reads : ReadsAll source_old source_new intake rest most put_first read) where
  abbrev words : List Item
  words = reads.words

  within : (lines : List (List ℕ)) × BeginsItems words (fed intake lines).items
  within = read_as source_old source_new intake rest most words reads.reads.bytes read reads.reads.meant

  endless : has_end words ≡ false
  endless = front_endless first intake is within.0 words within.1 valid

  all_valid : AreSets first words
  all_valid = shorter_valid first intake is within.0 words within.1 valid

  abbrev Took : Type 0
  Took = (taken_first ≡ words ++ End ∷ []) ⊎ ((more : List Item) × (words ≡ taken_first ++ more))

  took : Took
  took = front_of_put words put_first taken_first rest_first read reads.ended first_is

  no_end : (more : List Item) → words ≡ taken_first ++ more → has_end taken_first ≡ false
  no_end more e = by_value (has_end taken_first) refl
    where
      by_value : (b : Bool) → has_end taken_first ≡ b → has_end taken_first ≡ false
      by_value false is = is
      by_value true is = absurd (true≢false (sym (end_stays taken_first more is) ∙ ap has_end (sym e) ∙ endless))
        where
          end_stays : (xs ys : List Item) → has_end xs ≡ true → has_end (xs ++ ys) ≡ true
          end_stays [] ys h = absurd (true≢false (sym h))
          end_stays (Word port word ∷ xs) ys h = end_stays xs ys h
          end_stays (End ∷ xs) ys h = refl

  -- the words that were read, and those that the engine took
  all_taken : has_end taken_first ≡ true → taken_first ≡ words ++ End ∷ []
  all_taken ended = by_took took
    where
      by_took : Took → taken_first ≡ words ++ End ∷ []
      by_took (inl all) = all
      by_took (inr part) = absurd (true≢false (sym ended ∙ no_end part.0 part.1))

  live_all : live_items first (words ++ End ∷ []) ≡ live_items first words
  live_all = live_append first words (End ∷ []) endless ∙ append-nil (live_items first words)

  live_front : BeginsItems (live_items first taken_first) (live_items first words)
  live_front = by_took took
    where
      by_took : Took → BeginsItems (live_items first taken_first) (live_items first words)
      by_took (inl all) = subst (λ l. BeginsItems l (live_items first words)) (sym live_all ∙ ap (live_items first) (sym all)) (begins_same (live_items first words))
      by_took (inr part) = record { rest = words_after (with_items first taken_first) part.0; is = ap (live_items first) part.1 ∙ live_append first taken_first part.0 (no_end part.0 part.1) }

  -- what the engine did
  put_front : (ran : Result Finish AllocError) → Runs first engine taken_first put_second ran → IsPrefix (got_text put_second) (live_text first words)
  put_front (Ok Ended) h =
      subst (λ l. IsPrefix l (live_text first words)) (sym (ap got_text h.3 ∙ end_adds_none (live_items first taken_first))) (text_front (live_items first taken_first) (live_items first words) live_front)
  put_front (Ok HungUp) h = text_front put_second (live_items first words) (begins_over put_second (live_items first taken_first) (live_items first words) h live_front)
  put_front (Err e) h = text_front put_second (live_items first words) (begins_over put_second (live_items first taken_first) (live_items first words) h live_front)

  ran_rests : (ran : Result Finish AllocError) → Runs first engine taken_first put_second ran → RestsWhereEnded engine ran
  ran_rests (Ok Ended) h = h.2
  ran_rests _ h = tt

  ran_fed : (ran : Result Finish AllocError) → Runs first engine taken_first put_second ran → IsFedWhereEnded engine (with_items first words) ran
  ran_fed (Ok Ended) h = h.1 ∙ ap (with_items first) (all_taken h.0) ∙ items_end first words endless
  ran_fed _ h = tt

  -- what the writer did
  wrote_front : (wrote : Result Finish Failed) → WroteAs old new taken_second wrote → AppendsFront old.bytes new.bytes (got_text taken_second)
  wrote_front (Ok Ended) w = whole_front old.bytes new.bytes (got_text taken_second) w.1
  wrote_front (Ok HungUp) w = whole_front old.bytes new.bytes (got_text taken_second) w.1
  wrote_front (Err e) w = w.1.front

  -- all was taken, and so written
  text_all : Runs first engine taken_first put_second (Ok Ended) → has_end taken_second ≡ true → got_text taken_second ≡ live_text first words
  text_all h ended =
      sym (taken_whole put_second taken_second rest_second second_is ended) ∙ ap got_text h.3 ∙ end_adds_none (live_items first taken_first) ∙ ap (λ l. got_text (live_items first l)) (all_taken h.0) ∙ ap got_text live_all

  wrote_by : (ran : Result Finish AllocError) (wrote : Result Finish Failed) → Runs first engine taken_first put_second ran → WroteAs old new taken_second wrote → WroteWhereEnded old new (live_text first words) ran wrote
  wrote_by (Ok Ended) (Ok Ended) h w = subst (Appends old.bytes new.bytes) (text_all h w.0) w.1
  wrote_by (Ok Ended) (Ok HungUp) h w = tt
  wrote_by (Ok Ended) (Err e) h w = w.0.fault
  wrote_by (Ok HungUp) wrote h w = tt
  wrote_by (Err e) wrote h w = tt

  pub joined_of : (ran : Result Finish AllocError) (wrote : Result Finish Failed) → Runs first engine taken_first put_second ran → Wrote old new taken_second wrote
      → Joined source_old source_new old new intake rest most first engine read ran wrote
  joined_of ran wrote h w = record {
    words = words;
    reads = reads.reads;
    valid = all_valid;
    rests = ran_rests ran h;
    fed = ran_fed ran h;
    front = front_longer old.bytes new.bytes (got_text taken_second) (live_text first words)
        (text_over (got_text taken_second) (got_text put_second) (live_text first words) (taken_begin put_second taken_second rest_second second_is) (put_front ran h)) (wrote_front wrote w.wrote);
    written = wrote_by ran wrote h w.wrote;
    count = w.count;
  }
