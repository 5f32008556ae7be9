-- What is right of a sink that gathers is right of the sink behind it, once all is handed on.
use Rattle.std.proofs.Common.{◌≡◌, ℕ, ◌+◌, ◌≤◌, ◌<◌, true, false, List, [], ◌++◌, length, take, Option, None, Some, Ok, Err, refl, sym, ap, inl, inr, subst, arith, length-take}
use Rattle.std.proofs.lemmas.List.{take-take}
use Rattle.std.proofs.Math.Seq.{take-length}
use Rattle.std.specs.Io.KnownBytes.{Keeps, Appends}
use Rattle.raw_io.specs.Causes.{Rose}
use Rattle.raw_io.specs.Sights.{Sight}
use Rattle.raw_shell.specs.declared.failure.Failure.TheVariants.{Use, Refused, ReadFault, WriteFault, Memory, TooLong}
use Rattle.raw_shell.specs.Seen.{SourceSeen, SinkSeen, Untouched}
use Rattle.raw_shell.specs.Gathering.{with_gathered, gathering, HoldsNothing, Tells}
use Rattle.raw_shell.proofs.Gathering.{keeps_all, front_behind, still_behind, rose_before}
use Rattle.raw_command_line.specs.declared.arguments.Command.{Command}
use Rattle.raw_command_line.specs.declared.arguments.Command.TheVariants.{Alone, Reads}
use Rattle.raw_inputs.specs.declared.flaw.InputFlaw.TheVariants as flaw
use Rattle.raw_inputs.specs.Flaws.{Failure}
use Rattle.raw_owed.specs.Answers.{Answer}
use Rattle.raw_owed.specs.Owed.{IsDue}
use Rattle.raw_owed.specs.Obeyed.{PutsFront, Obeyed}
use Rattle.raw_commands.specs.Ended.{IsCause, Answered}
use Rattle.raw_commands.specs.Program.{has_put}

-- a front of what is due is one of the sink behind, which leaves out what is gathered
module _ (command : Command) (input : List ℕ) (start mid new : Sight) (gs : List ℕ) (empty : HoldsNothing start) (tells : Tells start)
    (keeps : Keeps mid.bytes (with_gathered new.bytes gs)) (failed : Rose start.faults new.faults) where
  told_so : (piece : List ℕ) → Appends (with_gathered start.bytes []) mid.bytes piece → Appends (Some (tells.0 ++ [])) mid.bytes piece
  told_so piece put = subst (λ o. Appends (with_gathered o []) mid.bytes piece) tells.1 put

  puts_less : (output : List ℕ) → IsDue command input output → (n : ℕ) → n ≤ length output → n < length output + length gs
      → Appends (with_gathered start.bytes []) mid.bytes (take n output) → PutsFront command input (record { old = start; new = new })
  puts_less output due n within short put =
      let front = front_behind tells.0 mid.bytes new.bytes gs (take n output) (empty tells.0 tells.1) (told_so (take n output) put) keeps in
      let few : front.count ≤ n = omega (arith, front.short, length-take n output) in
      record {
        output = output;
        due = due;
        count = front.count;
        short = omega (arith, front.short, length-take n output, within, short);
        put = subst (λ o. Appends o new.bytes (take front.count output)) (sym tells.1)
            (subst (λ zs. Appends (Some tells.0) new.bytes zs) (take-take front.count n output few) front.put);
        failed = failed;
      }

-- an answer of a command that was obeyed, from one sink to another
obeyed_there : (words : Option Command) (source : SourceSeen) (a b : SinkSeen) (answer other : Answer)
    → (answer ≡ Err Use → ⊥) → (IsCause source answer → ⊥)
    → ((command : Command) (input : List ℕ) → Obeyed command input a answer → Obeyed command input b other)
    → Answered words source a answer → Answered words source b other
obeyed_there None source a b answer other no_use no_cause obeys is = absurd (no_use is.is_use)
obeyed_there (Some (Reads command)) source a b answer other no_use no_cause obeys (inl stops) = absurd (no_cause stops.cause)
obeyed_there (Some (Reads command)) source a b answer other no_use no_cause obeys (inr reads) =
    inr (record { input = reads.input; short = reads.short; read = reads.read; obeyed = obeys (Reads command) reads.input reads.obeyed })
obeyed_there (Some (Alone command)) source a b answer other no_use no_cause obeys is =
    record { unread = is.unread; obeyed = obeys (Alone command) [] is.obeyed }

-- what is so where it was obeyed
obeyed_so : (words : Option Command) (source : SourceSeen) (out : SinkSeen) (answer : Answer) (Fact : Type 0)
    → (answer ≡ Err Use → ⊥) → (IsCause source answer → ⊥)
    → ((command : Command) (input : List ℕ) → Obeyed command input out answer → Fact) → Answered words source out answer → Fact
obeyed_so None source out answer Fact no_use no_cause fact is = absurd (no_use is.is_use)
obeyed_so (Some (Reads command)) source out answer Fact no_use no_cause fact (inl stops) = absurd (no_cause stops.cause)
obeyed_so (Some (Reads command)) source out answer Fact no_use no_cause fact (inr reads) = fact (Reads command) reads.input reads.obeyed
obeyed_so (Some (Alone command)) source out answer Fact no_use no_cause fact is = fact (Alone command) [] is.obeyed

module _ (words : Option Command) (source : SourceSeen) (start new : Sight) (empty : HoldsNothing start) where
  abbrev Behind : SinkSeen
  Behind = record { old = start; new = new }

  -- ---- that failed
  module _ (mid : Sight) (gs : List ℕ) (keeps : Keeps mid.bytes (with_gathered new.bytes gs)) (some : 0 < length gs) (rose : Rose mid.faults new.faults) where
    pub rest_failed : (answer : Answer) → has_put answer ≡ true → Answered words source (record { old = gathering start []; new = mid }) answer
        → Rose start.faults new.faults
    rest_failed (Ok ending) put is =
        obeyed_so words source (record { old = gathering start []; new = mid }) (Ok ending) (Rose start.faults new.faults) (λ e. absurd (cc e)) (λ cause. cause)
        (λ command input obeyed. rose_before start.faults mid.faults new.faults obeyed.counted rose) is
    rest_failed (Err (Refused (flaw.PastEnd line))) put is =
        obeyed_so words source (record { old = gathering start []; new = mid }) (Err (Refused (flaw.PastEnd line))) (Rose start.faults new.faults)
        (λ e. absurd (cc e)) (λ cause. cause)
        (λ command input obeyed. rose_before start.faults mid.faults new.faults obeyed.counted rose) is
    rest_failed (Err _) put is = absurd (cc put)

    whole : (output : List ℕ) → Appends (with_gathered start.bytes []) mid.bytes output → Appends (with_gathered start.bytes []) mid.bytes (take (length output) output)
    whole output put = subst (λ zs. Appends (with_gathered start.bytes []) mid.bytes zs) (sym (take-length output)) put

    pub rest_handed : (answer : Answer) → has_put answer ≡ true → Tells start → Answered words source (record { old = gathering start []; new = mid }) answer
        → Answered words source Behind (Err WriteFault)
    rest_handed (Ok ending) put tells is =
        obeyed_there words source (record { old = gathering start []; new = mid }) Behind (Ok ending) (Err WriteFault) (λ e. absurd (cc e)) (λ cause. cause)
        (λ command input obeyed.
        puts_less command input start mid new gs empty tells keeps (rose_before start.faults mid.faults new.faults obeyed.counted rose)
        obeyed.output (inl (ending, obeyed.owed)) (length obeyed.output) (omega arith) (omega (arith, some)) (whole obeyed.output obeyed.put)) is
    rest_handed (Err (Refused (flaw.PastEnd line))) put tells is =
        obeyed_there words source (record { old = gathering start []; new = mid }) Behind (Err (Refused (flaw.PastEnd line))) (Err WriteFault)
        (λ e. absurd (cc e)) (λ cause. cause)
        (λ command input obeyed.
        puts_less command input start mid new gs empty tells keeps (rose_before start.faults mid.faults new.faults obeyed.counted rose)
        obeyed.output (inr (line, obeyed.past)) (length obeyed.output) (omega arith) (omega (arith, some)) (whole obeyed.output obeyed.put)) is
    rest_handed (Err _) put tells is = absurd (cc put)

  -- ---- nothing was to be handed on
  module _ (gs : List ℕ) where
    abbrev Told : SinkSeen
    Told = record { old = gathering start []; new = gathering new gs }

    still : Untouched Told → Untouched Behind
    still untouched = still_behind start new gs empty untouched

    obeys : (failure : Failure) (command : Command) (input : List ℕ) → has_put (Err failure) ≡ false → (failure ≡ WriteFault → Tells start)
        → Obeyed command input Told (Err failure) → Obeyed command input Behind (Err failure)
    obeys (Refused (flaw.At refusal)) command input off tells obeyed = record { refused = obeyed.refused; untouched = still obeyed.untouched }
    obeys (Refused (flaw.PastEnd line)) command input off tells obeyed = absurd (cc off)
    obeys WriteFault command input off tells obeyed =
        puts_less command input start (gathering new gs) new gs empty (tells refl) (keeps_all (with_gathered new.bytes gs)) obeyed.failed
        obeyed.output obeyed.due obeyed.count (let short = obeyed.short in omega (arith, short)) (let short = obeyed.short in omega (arith, short)) obeyed.put
    obeys Memory command input off tells obeyed = still obeyed
    obeys Use command input off tells obeyed = obeyed
    obeys ReadFault command input off tells obeyed = obeyed
    obeys TooLong command input off tells obeyed = obeyed

    pub none_handed : (answer : Answer) → has_put answer ≡ false → (answer ≡ Err WriteFault → Tells start) → Answered words source Told answer
        → Answered words source Behind answer
    none_handed (Ok ending) off tells is = absurd (cc off)
    none_handed (Err failure) off tells is = by_words words is
      where
        by_words : (words : Option Command) → Answered words source Told (Err failure) → Answered words source Behind (Err failure)
        by_words None is = record { is_use = is.is_use; unread = is.unread; untouched = still is.untouched }
        by_words (Some (Reads command)) (inl stops) = inl (record { read = stops.read; cause = stops.cause; untouched = still stops.untouched })
        by_words (Some (Reads command)) (inr reads) =
            inr (record {
              input = reads.input;
              short = reads.short;
              read = reads.read;
              obeyed = obeys failure (Reads command) reads.input off (λ e. tells (ap Err e)) reads.obeyed;
            })
        by_words (Some (Alone command)) is = record { unread = is.unread; obeyed = obeys failure (Alone command) [] off (λ e. tells (ap Err e)) is.obeyed }

    pub none_failed : (answer : Answer) → answer ≡ Err WriteFault → Answered words source Told answer → Rose start.faults new.faults
    none_failed answer e is =
        obeyed_so words source Told (Err WriteFault) (Rose start.faults new.faults) (λ f. absurd (cc f)) (λ cause. cause)
        (λ command input obeyed. obeyed.failed) (subst (λ a. Answered words source Told a) e is)
