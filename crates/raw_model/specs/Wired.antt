-- The ends of a switch that have a wire.
use Rattle.std.specs.Prelude.{◌≡◌, ℕ, is_some}
use Rattle.raw_switch_isa.specs.Ends.{has_end}
use Rattle.raw_grid.specs.declared.parts.Ends.{Ends}
use Rattle.raw_grid.specs.Topology.{Topology}
use Rattle.raw_grid.specs.Wires.{input_wire, output_wire}

-- the ends are those of switch p that have a wire
pub record AreWired (topo : Topology) (p : ℕ) (ends : Ends) : Type 0 where
  pub inputs : (end : ℕ) → has_end ends.inputs end ≡ is_some (input_wire topo p end)
  pub outputs : (end : ℕ) → has_end ends.outputs end ≡ is_some (output_wire topo p end)
