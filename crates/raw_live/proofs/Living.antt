-- What live input comes to, by what the three came to and the last line.
use Rattle.std.proofs.Common.{◌≡◌, ◌≢◌, inl, inr, ℕ, ◌<◌, ◌≤◌, List, [], ◌∷◌, ◌++◌, length, append-nil, Result, Ok, Err, refl, sym, ap, ◌∙◌, subst, arith}
use Rattle.std.specs.Io.KnownBytes.{Appends}
use Rattle.std.proofs.KnownBytes.{Appends-trans, Appends-nil, Consumes-nil}
use Rattle.std.proofs.Math.Seq.{take-length}
use Rattle.std.specs.declared.alloc.AllocError.{AllocError}
use Rattle.raw_io.specs.declared.Failed.{Failed}
use Rattle.raw_io.specs.Sights.{Sight, SourceSight}
use Rattle.raw_io.specs.Writing.{AppendsProperFront}
use Rattle.raw_io.proofs.Chains.{AppendsProperFront-after}
use Rattle.raw_text.specs.Lines.{lines_of}
use Rattle.raw_model.specs.Program.{ProgramSet, IsSet}
use Rattle.raw_queue.specs.declared.item.Item.{Item}
use Rattle.raw_live_text.specs.declared.intake.Intake.{Intake}
use Rattle.raw_live_text.specs.declared.stop.Stop.{Stop}
use Rattle.raw_live_text.specs.declared.stop.Stop.TheVariants as stop
use Rattle.raw_live_text.specs.Feeding.{fed}
use Rattle.raw_live.specs.declared.engine.Engine.{Engine}
use Rattle.raw_model.specs.declared.ending.Ending.{Ending}
use Rattle.raw_model.specs.declared.ending.Ending.TheVariants as ending
use Rattle.raw_live.specs.declared.live.Halt.{Halt}
use Rattle.raw_live.specs.declared.live.Halt.TheVariants as halt
use Rattle.raw_live.specs.declared.writer.Finish.{Finish}
use Rattle.raw_live.specs.declared.writer.Finish.TheVariants.{Ended, HungUp}
use Rattle.raw_live.specs.Engine.{with_items, AreAtRest}
use Rattle.raw_live.specs.Ending.{rest_text}
use Rattle.raw_live.specs.Due.{ending_at, live_text, due_text}
use Rattle.raw_live.specs.Joining.{stopped_by, halt_of, Joined, ending_there, FinishedAs, Finished}
use Rattle.raw_live.specs.Lives.{WritesOrFails, LivedAs, Lives}
use Rattle.raw_live.proofs.AtRest.{same_outcome}
use Rattle.raw_live.proofs.Joins.{front_longer, front_of_more, whole_front}

-- the last line is not empty
rest_some : (e : Ending) → 0 < length (rest_text e)
rest_some ending.Done = omega arith
rest_some _ = omega arith

module _ (source_old source_new : SourceSight) (old mid new : Sight) (intake : Intake) (rest : List ℕ) (most : ℕ) (first : ProgramSet) (engine : Engine) where
  module _ (read : Result (Unit {0}) Stop) (ran : Result Finish AllocError) (wrote : Result Finish Failed) (j : Joined source_old source_new old mid intake rest most first engine read ran wrote) where
    abbrev lines : List ℕ
    lines = live_text first j.words

    abbrev due : List ℕ
    due = due_text first j.words

    lives_with : (result : Result Ending Halt) → LivedAs old new read first j.words result → old.faults ≤ new.faults → Lives source_old source_new old new intake rest most first result
    lives_with result lived count = record {
      words = j.words;
      read = read;
      reads = j.reads;
      valid = j.valid;
      lived = lived;
      count = count;
    }

    -- it was halted before the last line
    halted : (why : Halt) (result : Result Ending Halt) → LivedAs old mid read first j.words (Err why) → (result ≡ Err why) × (new ≡ mid) → Lives source_old source_new old new intake rest most first result
    halted why result lived h =
        lives_with result (subst (λ (x : Result Ending Halt). LivedAs old new read first j.words x) (sym h.0) (subst (λ (s : Sight). LivedAs old s read first j.words (Err why)) (sym h.1) lived))
        (subst (λ (s : Sight). old.faults ≤ s.faults) (sym h.1) j.count)

    -- the engine came to the end: how its machine ended
    there : AreAtRest engine.set engine.parts → engine.set ≡ with_items first j.words → ending_there engine ≡ ending_at (with_items first j.words)
    there at_rest same =
        same_outcome engine.set engine.parts at_rest (subst IsSet (sym same) (j.valid j.words [] (sym (append-nil j.words)))) ∙ ap ending_at same

    finished : AreAtRest engine.set engine.parts → engine.set ≡ with_items first j.words → read ≡ Ok tt → Appends old.bytes mid.bytes lines
        → (result : Result Ending Halt) → FinishedAs mid new engine result × (mid.faults ≤ new.faults) → Lives source_old source_new old new intake rest most first result
    finished at_rest same is_ok written (Ok how) f =
        let ended : how ≡ ending_at (with_items first j.words) = f.0.0 ∙ there at_rest same in
        lives_with (Ok how) (
          is_ok,
          record {
            whole = subst (λ (e : Ending). Appends old.bytes new.bytes (lines ++ rest_text e)) ended (Appends-trans old.bytes mid.bytes new.bytes lines (rest_text how) written f.0.1);
            ended = ended;
          },
        )
        (omega (arith, j.count, f.1))
    finished at_rest same is_ok written (Err why) f =
        subst (λ (w : Halt). Lives source_old source_new old new intake rest most first (Err w)) (sym f.0.0)
        (lives_with (Err halt.Write) (
          is_ok,
          record {
            failed = let rose = f.0.1 in omega (arith, j.count, rose);
            front = AppendsProperFront-after old.bytes mid.bytes new.bytes lines (rest_text (ending_at (with_items first j.words))) due written
                (subst (λ (e : Ending). AppendsProperFront mid.bytes new.bytes (rest_text e)) (there at_rest same) f.0.2) (take-length due);
          },
        )
        (omega (arith, j.count, f.1)))

  -- it was halted by the reader
  stopped : (why : Stop) (wrote : Result Finish Failed) (result : Result Ending Halt) → why ≢ stop.Memory
      → (j : Joined source_old source_new old mid intake rest most first engine (Err why) (Ok Ended) wrote) → WritesOrFails old mid (live_text first j.words)
      → (result ≡ Err (halt.Stopped why)) × (new ≡ mid) → Lives source_old source_new old new intake rest most first result
  stopped why wrote result other j written h = halted (Err why) (Ok Ended) wrote j (halt.Stopped why) result (refl, other, written) h

  by_stop : (why : Stop) (wrote : Result Finish Failed) (result : Result Ending Halt)
      → (j : Joined source_old source_new old mid intake rest most first engine (Err why) (Ok Ended) wrote) → WritesOrFails old mid (live_text first j.words)
      → (result ≡ Err (stopped_by why)) × (new ≡ mid) → Lives source_old source_new old new intake rest most first result
  by_stop stop.Memory wrote result j written h = halted (Err stop.Memory) (Ok Ended) wrote j halt.Memory result j.front h
  by_stop (stop.At line kind) wrote result j written h = stopped (stop.At line kind) wrote result (λ (e : stop.At line kind ≡ stop.Memory). absurd (cc)) j written h
  by_stop stop.Read wrote result j written h = stopped stop.Read wrote result (λ (e : stop.Read ≡ stop.Memory). absurd (cc)) j written h
  by_stop stop.TooLong wrote result j written h = stopped stop.TooLong wrote result (λ (e : stop.TooLong ≡ stop.Memory). absurd (cc)) j written h

  pub lives_of : (read : Result (Unit {0}) Stop) (ran : Result Finish AllocError) (wrote : Result Finish Failed) (result : Result Ending Halt)
      → Joined source_old source_new old mid intake rest most first engine read ran wrote → Finished mid new engine (halt_of read ran wrote) result
      → Lives source_old source_new old new intake rest most first result
  lives_of read (Err e) wrote result j f = halted read (Err e) wrote j halt.Memory result j.front f
  lives_of read (Ok HungUp) wrote result j f = halted read (Ok HungUp) wrote j halt.Memory result j.front f
  lives_of read (Ok Ended) (Ok HungUp) result j f = halted read (Ok Ended) (Ok HungUp) j halt.Memory result j.front f
  lives_of (Err why) (Ok Ended) (Ok Ended) result j f = by_stop why (Ok Ended) result j (record { front = j.front; whole = inl j.written }) f
  lives_of (Err why) (Ok Ended) (Err failed) result j f = by_stop why (Err failed) result j (record { front = j.front; whole = inr j.written }) f
  lives_of (Ok x) (Ok Ended) (Ok Ended) result j f = finished (Ok x) (Ok Ended) (Ok Ended) j j.rests j.fed refl j.written result f
  lives_of (Ok x) (Ok Ended) (Err failed) result j f =
      halted (Ok x) (Ok Ended) (Err failed) j halt.Write result (
        refl,
        record {
          failed = j.written;
          front = front_of_more old.bytes mid.bytes (live_text first j.words) (rest_text (ending_at (with_items first j.words))) (rest_some (ending_at (with_items first j.words))) j.front;
        },
      )
      f

-- nothing was done, for want of memory
pub lives_none : (source : SourceSight) (old : Sight) (intake : Intake) (rest : List ℕ) (most : ℕ) (first : ProgramSet) → IsSet first
    → Lives source source old old intake rest most first (Err halt.Memory)
lives_none source old intake rest most first valid = record {
  words = [];
  read = Err stop.Memory;
  reads = record {
    bytes = [];
    taken = Consumes-nil source.left;
    counted = omega arith;
    prompt = inl refl;
    bounded = omega arith;
    meant = record { rest = (fed intake (lines_of (rest ++ []))).items; is = refl };
  };
  valid = λ front rest e. none_more front rest e;
  lived = front_longer old.bytes old.bytes [] (live_text first []) (live_text first [], refl) (whole_front old.bytes old.bytes [] (Appends-nil old.bytes));
  count = omega arith;
}
  where
    none_more : (front rest : List Item) → [] ≡ front ++ rest → IsSet (with_items first front)
    none_more [] rest e = valid
    none_more (x ∷ front) rest e = absurd (cc e)
