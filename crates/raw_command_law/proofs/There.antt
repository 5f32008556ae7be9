-- The steps of a lawful list are of processors that are there.
use Rattle.std.proofs.Common.{◌≡◌, ℕ, ◌<◌, ◌≤◌, true, false, List, [], ◌∷◌, length, subst, ⊎_elim}
use Rattle.std.specs.Prelude.{IsTrue}
use Rattle.std.specs.List.{AllByRecursion}
use Rattle.std.proofs.lemmas.Bool.{cases_lt}
use Rattle.std.proofs.lemmas.Option.{slice_get_past}
use Rattle.raw_network.specs.Network.{is_ready}
use Rattle.raw_grid.specs.Topology.{proc_count}
use Rattle.raw_model.specs.Program.{ProgramSet, IsSet}
use Rattle.raw_model.specs.Machine.{machine_of}
use Rattle.raw_model.specs.Start.{MachineState, Fits}
use Rattle.raw_model.specs.Rest.{enabled, step, IsLawfulFrom}

-- a processor that may step is there
there : (set : ProgramSet) (s : MachineState) (p : ℕ) → IsTrue (enabled set s p) → p < length s.locals
there set s p may =
    ⊎_elim (λ (lt : p < length s.locals). lt)
    (λ (past : length s.locals ≤ p). absurd (let never : false ≡ true = subst (λ l. IsTrue (is_ready (machine_of set) p l s.wires)) (slice_get_past s.locals p past) may in cc never))
    (cases_lt p (length s.locals))

module _ (set : ProgramSet) (valid : IsSet set)
    (step_fits : (set : ProgramSet) (s : MachineState) (p : ℕ) → IsSet set → Fits set s → IsTrue (enabled set s p) → Fits set (step set s p)) where
  pub all_there : (s : MachineState) (steps : List ℕ) → Fits set s → IsLawfulFrom set s steps → AllByRecursion (λ p. p < proc_count set.topo) steps
  all_there s [] fits lawful = tt
  all_there s (p ∷ steps) fits lawful = (
    subst (λ n. p < n) fits.processors (there set s p lawful.0),
    all_there (step set s p) steps (step_fits set s p valid fits lawful.0) lawful.1,
  )
