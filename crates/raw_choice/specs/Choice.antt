-- What may be written for a flow in place of its compiled set.
use Rattle.std.specs.Prelude.{◌≡◌, ◌⊎◌, ◌≤◌, ℕ, List}
use Rattle.raw_model.specs.Program.{ProgramSet, IsSet}
use Rattle.raw_codegen.specs.Limits.{AreShort}
use Rattle.raw_flow.specs.Flows.{Dataflow}
use Rattle.raw_flow.specs.Compiled.{compiled}
use Rattle.raw_schedule.specs.Whole.{IsSetFor}
use Rattle.raw_clock.specs.Clock.{HasCycles}
use Rattle.raw_term.specs.Claims.{Meets}
use Rattle.raw_steady.specs.Steady.{KeepsCycles}

-- the compiled set of a flow with these inputs is made where its programs are not too long
abbrev pub IsMade : Dataflow → List ℕ → Type 0
IsMade flow inputs = AreShort (compiled flow inputs).tiles

-- A set that has the grid, the ports and the words of the compiled set of a flow with these inputs, whatever its
-- programs are. It meets the flow, for all words, and has no more cycles than the compiled set, where that is made.
-- Where it is not the compiled set, it has these cycles with any words.
pub record IsChoice (flow : Dataflow) (inputs : List ℕ) (set : ProgramSet) : Type 0 where
  pub valid : IsSet set
  pub same : IsSetFor flow inputs set
  pub meets : Meets set flow
  pub cycles : ℕ
  pub has : HasCycles set cycles
  pub no_more : IsMade flow inputs → (most : ℕ) → HasCycles (compiled flow inputs) most → cycles ≤ most
  pub keeps : (set ≡ compiled flow inputs) ⊎ KeepsCycles set cycles
