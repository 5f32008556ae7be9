-- Processors that have taken no step since the opening of a fabric, and which of them must take one.
use Rattle.std.specs.Prelude.{◌≡◌, ◌≢◌, ◌⊎◌, ℕ, ◌/◌, true, false, Some, List, slice_get, ⊤}
use Rattle.raw_model.specs.Rest.{enabled}
use Rattle.raw_fabric_rule.specs.Views.{About}
use Rattle.raw_fabric_rule.specs.Opening.{first_hold}
use Rattle.raw_fabric_step.specs.Units.{mine, IsLooked}
use Rattle.raw_serial.specs.Running.{Running}
use Rattle.raw_fabric.specs.declared.fabric.Fabric.{Fabric}
use Rattle.raw_fabric.specs.declared.pass.Pass.{Pass}
use Rattle.raw_fabric.specs.declared.answer.FabricTurn.{FabricTurn}
use Rattle.raw_fabric.specs.declared.answer.FabricTurn.TheVariants.{Stopped, Waits}
use Rattle.raw_fabric.specs.Answers.{has_fired}
use Rattle.raw_fabric.specs.Opened.{Holds, about_of, AreFreshPasses}

-- nothing of processor p of the pass changed since the opening but what was seen of its neighbours
abbrev pub IsEarly : About → Pass → ℕ → Type 0
IsEarly about pass p = IsLooked about p (first_hold about.set about.opened p) (mine pass.seat.me.0 (p / about.workers))

-- nothing of any processor of these passes changed since the opening but what was seen of its neighbours
abbrev pub AreAllEarly : About → List Pass → Type 0
AreAllEarly about passes = (k : ℕ) (pass : Pass) → slice_get passes k ≡ Some pass → (p : ℕ) → Holds about pass p → IsEarly about pass p

-- the passes of a fabric that is just opened for n workers have done nothing yet, and each processor is so
pub record AreNewPasses (m : Running) (n log_steps : ℕ) (fabric : Fabric) (passes : List Pass) : Type 0 where
  pub fresh : AreFreshPasses m n log_steps passes
  pub early : AreAllEarly (about_of fabric) passes

-- an answer that says neither that the processor waits nor that it is stopped
abbrev pub GoesOn : FabricTurn → Type 0
GoesOn Stopped = ⊥
GoesOn (Waits wire seen) = ⊥
GoesOn _ = ⊤

-- What a call for processor p has to do with processors of its pass that have taken no step.
pub record IsEarlyTurn (about : About) (p : ℕ) (turn : FabricTurn) (old new : Pass) : Type 0 where
  -- one that was enabled in the machine that was opened does not wait: it fires, unless it owes a stall turn or the log is full
  pub fires : enabled about.set about.opened p ≡ true → IsEarly about old p → GoesOn turn
  -- and each stays so but for p where it fired
  pub stay : (q : ℕ) → Holds about old q → IsEarly about old q → (q ≢ p) ⊎ (has_fired turn ≡ false) → IsEarly about new q
