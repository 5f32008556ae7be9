-- The wires of a machine are queues.
use Rattle.std.proofs.Common.{◌≡◌, ℕ, ◌<◌, List, ◌++◌, length}
use Rattle.raw_network.specs.Network.{values_on}
use Rattle.raw_network.proofs.Bounds.{law_depth}
use Rattle.raw_network.proofs.Flow.{law_queue}
use Rattle.raw_model.specs.Program.{ProgramSet}
use Rattle.raw_model.specs.Machine.{machine_of}
use Rattle.raw_model.specs.Start.{MachineState}
use Rattle.raw_model.specs.Rest.{IsLawfulFrom, end_from, passed_on}
use Rattle.raw_model.specs.Laws.{received_on, IsWithinDepth}
use Rattle.raw_model.proofs.Once.{sends_once}

module _ (set : ProgramSet) (s : MachineState) (h : List ℕ) where
  -- what was there and was sent is what was taken and is there
  pub queue : (w : ℕ) → IsLawfulFrom set s h → w < length s.wires
      → values_on s.wires w ++ passed_on set s h w ≡ received_on set s h w ++ values_on (end_from set s h).wires w
  queue w lawful within = law_queue (machine_of set) s h w lawful within

  -- wires never hold more than the set says
  pub depth : IsLawfulFrom set s h → IsWithinDepth set s → IsWithinDepth set (end_from set s h)
  unfolding machine_of
  depth lawful within = law_depth (machine_of set) (sends_once set) s h lawful within
