-- A set that computes the rows of a stream, with any words in its sources: each sink gets what it is due of them, row by row.
use Rattle.std.specs.Prelude.{◌≡◌, ℕ, ◌<◌, List, length}
use Rattle.raw_model.specs.Program.{ProgramSet, IsSet}
use Rattle.raw_model.specs.Start.{MachineState}
use Rattle.raw_model.specs.Rest.{IsRun, end}
use Rattle.raw_model.specs.Outcomes.{Done, outcome}
use Rattle.raw_model.specs.Fed.{fed}
use Rattle.raw_stream.specs.Streams.{Stream, due_to}
use Rattle.raw_stream.specs.Unrolled.{all_rows}
use Rattle.raw_term.specs.declared.verdict.Verdict.TheVariants.{Proved}
use Rattle.raw_term.specs.Claims.{AreWords}
use Rattle.raw_term.specs.Control.{TermsRest}
use Rattle.raw_row_terms.specs.RowClaims.{got_at, IsRowsVerdict, HasRows, HasPortsOf, AreSinksOf}

-- a state in which all is done, and each port has received what it is due of all rows: one that is no sink of the stream, nothing
pub record IsRightInRows (set : ProgramSet) (s : Stream) (inputs : List ℕ) (state : MachineState) : Type 0 where
  pub done : outcome (fed set inputs) state ≡ Done
  pub got : (q : ℕ) → q < length set.topo.places → got_at set state q ≡ due_to s q (all_rows s inputs)

-- with these words in its sources it is a set, some list of its steps comes to rest, and each that does ends right
pub record IsMetInRows (set : ProgramSet) (s : Stream) (inputs : List ℕ) : Type 0 where
  pub valid : IsSet (fed set inputs)
  pub some : (steps : List ℕ) × IsRun (fed set inputs) steps
  pub right : (steps : List ℕ) → IsRun (fed set inputs) steps → IsRightInRows set s inputs (end (fed set inputs) steps)

-- the set computes the rows under all words
abbrev pub MeetsRows : ProgramSet → Stream → Type 0
MeetsRows set s = (inputs : List ℕ) → AreWords set inputs → IsMetInRows set s inputs

-- with these words in its sources it is a set, some list of its steps comes to rest, and none that does ends right
pub record IsRefutedInRows (set : ProgramSet) (s : Stream) (inputs : List ℕ) : Type 0 where
  pub are : AreWords set inputs
  pub valid : IsSet (fed set inputs)
  pub some : (steps : List ℕ) × IsRun (fed set inputs) steps
  pub wrong : (steps : List ℕ) → IsRun (fed set inputs) steps → ¬ (IsRightInRows set s inputs (end (fed set inputs) steps))

-- a set of which a stream is proved, by its serial run with terms, computes its rows
abbrev pub EachRowsProvedAreRight : Type 0
EachRowsProvedAreRight =
    (set : ProgramSet) (s : Stream) (order : List ℕ) (n : ℕ) → IsSet set → HasRows s → HasPortsOf set s → AreSinksOf s order
    → IsRowsVerdict set s order (Proved n) → MeetsRows set s

-- that run has come to rest, and so hung on no input
abbrev pub EachRowsProvedRest : Type 0
EachRowsProvedRest =
    (set : ProgramSet) (s : Stream) (order : List ℕ) (n : ℕ) → IsRowsVerdict set s order (Proved n) → (sweeps : ℕ) × TermsRest set sweeps

-- a set that words refute does not compute the rows
abbrev pub EachRefutedRowsAreNotMet : Type 0
EachRefutedRowsAreNotMet = (set : ProgramSet) (s : Stream) (inputs : List ℕ) → IsRefutedInRows set s inputs → ¬ (MeetsRows set s)
