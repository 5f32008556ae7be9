-- What is claimed of the parts of trees in all scripts, and of all planned sets.
use Rattle.std.specs.Prelude.{◌≡◌, ℕ, ◌*◌, List, ◌++◌, All}
use Rattle.raw_grid.specs.Topology.{IsSize, tile_count}
use Rattle.raw_model.specs.Program.{ProgramSet, IsSet}
use Rattle.raw_model.specs.Start.{MachineState}
use Rattle.raw_codegen.specs.Limits.{AreShort}
use Rattle.raw_codegen.specs.Parts.{Part, to_switches}
use Rattle.raw_codegen.specs.Standing.{from_tile_wire, IsScript, PartsStand, HasGone}
use Rattle.raw_codegen.specs.Steps.{Leads, IsAlone}
use Rattle.raw_route.specs.Hauls.{Haulage, IsHaul}
use Rattle.raw_route.specs.Tree.{tree_ins}
use Rattle.raw_route.specs.Carrying.{IsAtTargets}
use Rattle.raw_route.specs.Planned.{Sending, IsSending, planned}
use Rattle.raw_route.specs.Delivered.{Delivers}

-- a machine that has come with a script to the parts of a tree, with a value on the wire from the origin's tile and no other
-- value on any wire, goes on by these parts: the value comes to the targets, and no memory and no port is changed
abbrev pub EachTreeRuns : Type 0
EachTreeRuns =
    (set : ProgramSet) (all parts rest : List Part) (memories : ℕ → List ℕ) (haul : Haulage) (x : ℕ) (s : MachineState) →
    IsScript set all → IsHaul (tile_count set.topo) haul → PartsStand set parts memories s →
    all ≡ parts ++ (to_switches (tile_count set.topo) (tree_ins set.topo.cols haul) ++ rest) →
    IsAlone (from_tile_wire haul.net haul.from) x s.wires →
    Leads set s (λ r. HasGone set (parts ++ to_switches (tile_count set.topo) (tree_ins set.topo.cols haul)) memories s r × IsAtTargets haul x r.wires)

-- where its programs are within the limits, the planned set of lawful hauls keeps all that sets keep
abbrev pub EachIsSet : Type 0
EachIsSet =
    (cols rows : ℕ) (xs : List Sending) → IsSize cols rows → All (IsSending (cols * rows)) xs →
    AreShort (planned cols rows xs).tiles → IsSet (planned cols rows xs)

-- and every order of its steps that comes to rest has delivered each word
abbrev pub EachDelivers : Type 0
EachDelivers = (cols rows : ℕ) (xs : List Sending) → IsSet (planned cols rows xs) → All (IsSending (cols * rows)) xs → Delivers cols rows xs
