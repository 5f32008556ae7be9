-- What a run with terms says of the steps that a set takes, with any words in its sources.
use Rattle.std.specs.Prelude.{◌≡◌, ℕ, None, List}
use Rattle.raw_model.specs.Program.{ProgramSet, IsSet}
use Rattle.raw_model.specs.Machine.{machine_of}
use Rattle.raw_model.specs.Start.{start}
use Rattle.raw_model.specs.Rest.{IsQuiet}
use Rattle.raw_pace.specs.Control.{MovesAlike}
use Rattle.raw_model.specs.Fed.{fed}
use Rattle.raw_term.specs.TermMachine.{numbered}
use Rattle.raw_term.specs.Claims.{AreWords}
use Rattle.raw_term.specs.Verdicts.{ran, first_run}

-- the run with terms of a set comes to rest: no step hangs on an input, and the table has room for all terms
pub record TermsRest (set : ProgramSet) (sweeps : ℕ) : Type 0 where
  pub free : (ran (numbered set) sweeps (first_run set)).broken ≡ None
  pub rests : IsQuiet (numbered set) (ran (numbered set) sweeps (first_run set)).at.state

-- with any two lists of words the set moves alike
pub record MovesAlikeWith (set : ProgramSet) (one other : List ℕ) : Type 0 where
  pub steps : List ℕ
  pub alike : MovesAlike (machine_of (fed set one)) (machine_of (fed set other)) (start (fed set one)) (start (fed set other)) steps

abbrev pub EachMovesAlike : Type 0
EachMovesAlike =
    (set : ProgramSet) (sweeps : ℕ) (one other : List ℕ) → IsSet set → TermsRest set sweeps → AreWords set one → AreWords set other →
    MovesAlikeWith set one other
