-- What the rest of a run says of a stream.
use Rattle.std.specs.Prelude.{◌≡◌, ℕ, ◌≤◌, ◌==◌, not, Option, Some, None, List, length}
use Rattle.std.specs.List.{find, flat_map, range_with_len}
use Rattle.raw_model.specs.declared.limits.TheConstants.{MAX_ALL_WORDS}
use Rattle.raw_model.specs.Program.{ProgramSet}
use Rattle.raw_model.specs.Start.{MachineState}
use Rattle.raw_model.specs.Rest.{IsRun, end}
use Rattle.raw_model.specs.Waits.{waits_for}
use Rattle.raw_model.specs.Outcomes.{outcome}
use Rattle.raw_outcome.specs.declared.ends.Outcome.{Outcome}
use Rattle.raw_outcome.specs.declared.ends.Outcome.TheVariants as answer
use Rattle.raw_outcome.specs.Told.{told}
use Rattle.raw_stream.specs.Streams.{Stream}
use Rattle.raw_stream.specs.Unrolled.{word_count, all_rows}
use Rattle.raw_stream.specs.Kept.{due_count}
use Rattle.raw_row_terms.specs.RowClaims.{got_at, due_in}
use Rattle.raw_refute.specs.declared.fault.Fault.{Fault}
use Rattle.raw_refute.specs.declared.fault.Fault.TheVariants.{Ends, Words}
use Rattle.raw_refute.specs.Judged.{first_other}

-- there are as many words as the sources give in all rows, and no more than a set may have
pub record AreCounted (s : Stream) (words : List ℕ) : Type 0 where
  pub few : word_count s ≤ MAX_ALL_WORDS
  pub each : length words ≡ word_count s

-- the first port of a set that has not as many words as it is due of all rows, where the ports have received these
abbrev pub first_miscount : ProgramSet → Stream → (ℕ → List ℕ) → Option ℕ
first_miscount set s got = find (λ q. not (length (got q) == due_count s q)) (range_with_len 0 (length set.ports))

-- the counts of that port; or else, where these words are due, the first that is another, port by port in this order
abbrev pub of_ports : Option ℕ → Stream → List ℕ → List ℕ → (ℕ → List ℕ) → Option Fault
of_ports (Some q) s order due got = Some (Words (length (got q)) (due_count s q))
of_ports None s order due got = first_other 0 (flat_map got order) due

-- what a rest says: how it came, what the ports have received, and what is due
abbrev pub judged_rows : Outcome → ProgramSet → Stream → List ℕ → List ℕ → (ℕ → List ℕ) → Option Fault
judged_rows answer.Done set s order due got = of_ports (first_miscount set s got) s order due got
judged_rows how set s order due got = Some (Ends how)

-- a state at rest says this of a stream, where the sources have these words
pub record IsRowsFaultOf (set : ProgramSet) (s : Stream) (order words : List ℕ) (state : MachineState) (fault : Option Fault) : Type 0 where
  pub how : Outcome
  pub tells : told (waits_for set state) how ≡ outcome set state
  pub is : fault ≡ judged_rows how set s order (due_in s order (all_rows s words)) (got_at set state)

-- some list of the set's steps comes to rest, and each that does says this of the stream
pub record IsRowsJudged (set : ProgramSet) (s : Stream) (order words : List ℕ) (fault : Option Fault) : Type 0 where
  pub some : (steps : List ℕ) × IsRun set steps
  pub each : (steps : List ℕ) → IsRun set steps → IsRowsFaultOf set s order words (end set steps) fault
