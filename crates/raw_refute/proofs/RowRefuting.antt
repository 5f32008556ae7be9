-- What a run that is judged says of a stream: a fault refutes it, and where there is none all is done.
use Rattle.std.proofs.Common.{◌≡◌, ℕ, zero, suc, ◌+◌, ◌*◌, ◌<◌, Bool, true, false, cond, not, Option, Some, None, List, [], ◌∷◌, ◌++◌, length, refl, sym, ap, ap₂, ◌∙◌, subst, arith}
use Rattle.std.specs.Prelude.{◌==◌, map}
use Rattle.std.specs.List.{All, find, flat_map, range_with_len}
use Rattle.std.proofs.lemmas.List.{length-map}
use Rattle.std.proofs.lemmas.List.FromFn.{length-range_with_len}
use Rattle.std.proofs.lemmas.Option.{none-some}
use Rattle.raw_model.specs.Program.{ProgramSet, IsSet}
use Rattle.raw_model.specs.Start.{MachineState}
use Rattle.raw_model.specs.Rest.{IsRun, end}
use Rattle.raw_model.specs.Waits.{waits_for}
use Rattle.raw_model.specs.Outcomes.{Done, outcome}
use Rattle.raw_model.specs.Fed.{fed}
use Rattle.raw_outcome.specs.declared.ends.Outcome.{Outcome as Answer}
use Rattle.raw_outcome.specs.declared.ends.Outcome.TheVariants as answer
use Rattle.raw_outcome.specs.Told.{told}
use Rattle.raw_stream.specs.Streams.{Stream, first_words, due_at, due_to}
use Rattle.raw_stream.specs.Unrolled.{row_words, all_rows}
use Rattle.raw_stream.specs.Kept.{due_count}
use Rattle.raw_term.specs.Claims.{AreWords}
use Rattle.raw_row_terms.specs.RowClaims.{got_at, due_in}
use Rattle.raw_row_terms.specs.Right.{IsRightInRows, IsMetInRows, IsRefutedInRows}
use Rattle.raw_row_terms.proofs.Placing.{rows_many}
use Rattle.raw_row_terms.proofs.Counts.{due_long}
use Rattle.raw_prove.proofs.RowComparing.{same_count}
use Rattle.raw_prove.specs.Runs.{IsOutcomeOf}
use Rattle.raw_refute.specs.declared.fault.Fault.{Fault}
use Rattle.raw_refute.specs.Judged.{first_other}
use Rattle.raw_refute.specs.RowJudged.{first_miscount, of_ports, judged_rows, IsRowsFaultOf, IsRowsJudged}
use Rattle.raw_row_terms.specs.RowClaims.{IsClaimOf}
use Rattle.raw_refute.proofs.Refuting.{none_other, told_done}

pub rows_counted : (s : Stream) (words : List ℕ) → length (all_rows s words) ≡ s.count
rows_counted s words =
    rows_many s (first_words s) (map (row_words s words) (range_with_len 0 s.count)) ∙ length-map (range_with_len 0 s.count) (row_words s words) ∙ length-range_with_len 0 s.count

due_counted : (s : Stream) (words : List ℕ) (q : ℕ) → length (due_to s q (all_rows s words)) ≡ due_count s q
due_counted s words q = due_long s q (all_rows s words) ∙ ap (λ k. k * length (due_at s q)) (rows_counted s words)

-- a test that no number passes
find_nothing : (f : ℕ → Bool) (k n : ℕ) → ((i : ℕ) → i < n → f (k + i) ≡ false) → find f (range_with_len k n) ≡ None
find_nothing f k zero none = refl
find_nothing f k (suc n) none =
    let same : k + 0 ≡ k = omega arith in
    let here : f k ≡ false = sym (ap f same) ∙ none 0 (omega arith) in
    ap (λ b. cond b (Some k) (find f (range_with_len (k + 1) n))) here ∙ find_nothing f (k + 1) n later
  where
    later : (i : ℕ) → i < n → f (k + 1 + i) ≡ false
    later i lt = let moved : k + 1 + i ≡ k + suc i = omega arith in ap f moved ∙ none (suc i) (omega (arith, lt))

-- where each port has what it is due, no count differs
right_counts : (set : ProgramSet) (s : Stream) (words : List ℕ) (got : ℕ → List ℕ) → ((q : ℕ) → q < length set.ports → got q ≡ due_to s q (all_rows s words)) → first_miscount set s got ≡ None
right_counts set s words got right = find_nothing (λ q. not (length (got q) == due_count s q)) 0 (length set.ports) (λ i lt. same_count (length (got (0 + i))) (due_count s (0 + i)) (many i lt)) where
  many : (i : ℕ) → i < length set.ports → length (got (0 + i)) ≡ due_count s (0 + i)
  many i lt = ap length (right (0 + i) (omega (arith, lt))) ∙ due_counted s words (0 + i)

-- nor does a word
same_in_order : (f g : ℕ → List ℕ) (n : ℕ) (order : List ℕ) → All (λ q. q < n) order → ((q : ℕ) → q < n → f q ≡ g q) → flat_map f order ≡ flat_map g order
same_in_order f g n [] within same = refl
same_in_order f g n (q ∷ order) within same =
    ap (λ xs. xs ++ flat_map f order) (same q (within 0 0 (omega arith))) ∙ ap (λ xs. g q ++ xs) (same_in_order f g n order (λ k d lt. within (suc k) d (omega (arith, lt))) same)

right_says : (set : ProgramSet) (s : Stream) (order words : List ℕ) (got : ℕ → List ℕ) → IsClaimOf set s order → ((q : ℕ) → q < length set.ports → got q ≡ due_to s q (all_rows s words))
    → judged_rows answer.Done set s order (due_in s order (all_rows s words)) got ≡ None
right_says set s order words got claim right =
    let due : List ℕ = due_in s order (all_rows s words) in
    let same : flat_map got order ≡ due =
    same_in_order got (λ q. due_to s q (all_rows s words)) (length s.sinks) order claim.sinks.within (λ q lt. right q (omega (arith, lt, claim.ports.sinks))) in
    ap (λ o. of_ports o s order due got) (right_counts set s words got right) ∙ ap (λ xs. first_other 0 xs due) same ∙ none_other 0 due

-- nor does a rest that is right say that the stream is false
none_at : (set : ProgramSet) (s : Stream) (order words : List ℕ) (state : MachineState) → IsSet (fed set words) → IsClaimOf (fed set words) s order → IsRightInRows set s words state
    → IsRowsFaultOf (fed set words) s order words state None
none_at set s order words state valid claim right =
    let machine : ProgramSet = fed set words in
    record {
      how = answer.Done;
      tells = sym right.done;
      is = sym (right_says machine s order words (got_at set state) claim (λ q lt. right.got q (omega (arith, lt, valid.each_port))));
    }

-- so no words do of which the set computes the rows
pub rows_met : (set : ProgramSet) (s : Stream) (order words : List ℕ) → IsClaimOf (fed set words) s order → IsMetInRows set s words → IsRowsJudged (fed set words) s order words None
rows_met set s order words claim met = record {
  some = met.some;
  each = λ steps run. none_at set s order words (end (fed set words) steps) met.valid claim (met.right steps run);
}

-- a rest with a fault is not right
wrong_at : (set : ProgramSet) (s : Stream) (order words : List ℕ) (state : MachineState) (fault : Fault) → IsSet (fed set words) → IsClaimOf (fed set words) s order → IsRowsFaultOf (fed set words) s order words state (Some fault)
    → ¬ (IsRightInRows set s words state)
wrong_at set s order words state fault valid claim f right =
    let machine : ProgramSet = fed set words in
    let due : List ℕ = due_in s order (all_rows s words) in
    let done : f.how ≡ answer.Done = told_done (waits_for machine state) f.how (f.tells ∙ right.done) in
    let none : Some fault ≡ None =
    f.is ∙ ap (λ (how : Answer). judged_rows how machine s order due (got_at set state)) done
    ∙ right_says machine s order words (got_at set state) claim (λ q lt. right.got q (omega (arith, lt, valid.each_port))) in
    none-some fault (sym none)

pub rows_refuted : (set : ProgramSet) (s : Stream) (order words : List ℕ) (fault : Fault) → AreWords set words → IsSet (fed set words) → IsClaimOf (fed set words) s order → IsRowsJudged (fed set words) s order words (Some fault)
    → IsRefutedInRows set s words
rows_refuted set s order words fault are valid claim judged = record {
  are = are;
  valid = valid;
  some = judged.some;
  wrong = λ steps run. wrong_at set s order words (end (fed set words) steps) fault valid claim (judged.each steps run);
}

-- where there is none each run ends done
none_ends : (how : Answer) (set : ProgramSet) (s : Stream) (order due : List ℕ) (got : ℕ → List ℕ) → None ≡ judged_rows how set s order due got → how ≡ answer.Done
none_ends answer.Done set s order due got h = refl
none_ends (answer.Deadlock least many) set s order due got h = absurd (none-some _ h)
none_ends (answer.Trapped p) set s order due got h = absurd (none-some _ h)
none_ends (answer.Limit p) set s order due got h = absurd (none-some _ h)
none_ends (answer.Stuck p) set s order due got h = absurd (none-some _ h)

pub rows_done : (set : ProgramSet) (s : Stream) (order words : List ℕ) → IsRowsJudged set s order words None → IsOutcomeOf set answer.Done
rows_done set s order words judged = λ steps run.
    let f : IsRowsFaultOf set s order words (end set steps) None = judged.each steps run in
    let done : f.how ≡ answer.Done = none_ends f.how set s order (due_in s order (all_rows s words)) (got_at set (end set steps)) f.is in
    ap (told (waits_for set (end set steps))) (sym done) ∙ f.tells
