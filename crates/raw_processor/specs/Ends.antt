-- The wires at the ends of one processor.
use Rattle.std.specs.Prelude.{◌≡◌, ℕ, ◌<◌, true, None, is_some, slice_index_or}
use Rattle.raw_grid.specs.Topology.{Topology}
use Rattle.raw_grid.specs.Wires.{input_wire, output_wire}
use Rattle.raw_processor.specs.declared.end_wires.EndWires.{EndWires}

-- these are the wires at the ends of processor p
pub record AreEndsOf (topo : Topology) (p : ℕ) (ends : EndWires) : Type 0 where
  pub inputs : (end : ℕ) → end < 10 → slice_index_or ends.inputs end None ≡ input_wire topo p end
  pub outputs : (end : ℕ) → end < 10 → slice_index_or ends.outputs end None ≡ output_wire topo p end

-- both networks lead to the processor, which has its wires at the inputs P, as each tile has
pub record HasNetworks (ends : EndWires) : Type 0 where
  pub first : is_some (slice_index_or ends.inputs 4 None) ≡ true
  pub second : is_some (slice_index_or ends.inputs 9 None) ≡ true
