-- What a processor that is not enabled waits for first.
use Rattle.std.specs.Prelude.{◌≡◌, ℕ, ◌<◌, ◌≤◌, ◌⊎◌, ◌==◌, Option, option_map, List, length, if◌then◌else◌}
use Rattle.std.specs.List.{flat_map}
use Rattle.std.specs.Option.{option_to_list}
use Rattle.raw_network.specs.Network.{values_on, count_of}
use Rattle.raw_network.specs.Waits.{first_wait as first_wait_in}
use Rattle.raw_switch_isa.specs.Ends.{ends}
use Rattle.raw_grid.specs.Topology.{Topology}
use Rattle.raw_grid.specs.Wires.{input_wire, output_wire, producer_of, consumer_of}
use Rattle.raw_model.specs.Program.{ProgramSet}
use Rattle.raw_model.specs.Local.{Local}
use Rattle.raw_model.specs.Machine.{takes, sends, machine_of}
use Rattle.raw_model.specs.Start.{MachineState}

-- the wires that lead to a processor, by rising end index: N, E, S, W, P of network 1, then of network 2
unfoldable pub inputs_at : Topology → ℕ → List ℕ
inputs_at topo p = flat_map (λ end. option_to_list (input_wire topo p end)) ends

-- the wires that come from it, in the same order
unfoldable pub outputs_at : Topology → ℕ → List ℕ
outputs_at topo p = flat_map (λ end. option_to_list (output_wire topo p end)) ends

-- the wire that processor p waits for first: of its inputs, in their order, one that holds fewer values than
-- its next row takes there; where there is none, of its outputs one that the row sends to and that is full.
-- A processor that is stopped, or is not there, waits for none.
abbrev pub first_wait : ProgramSet → MachineState → ℕ → Option ℕ
first_wait set s p = first_wait_in (machine_of set) (inputs_at set.topo) (outputs_at set.topo) s p

-- the processor at the other end of a wire that leads to or comes from processor p
abbrev pub other_end : Topology → ℕ → ℕ → ℕ
other_end topo p w = if consumer_of topo w == p then producer_of topo w else consumer_of topo w

-- the processor that processor p waits for first
abbrev pub waits_for : ProgramSet → MachineState → ℕ → Option ℕ
waits_for set s p = option_map (other_end set.topo p) (first_wait set s p)

-- wire w leads to processor p and holds fewer values than the next row takes there, or it comes from p, the
-- row may send to it, and it is full
abbrev pub IsUnmet : ProgramSet → MachineState → ℕ → Local → ℕ → Type 0
IsUnmet set s p l w =
    ((0 < count_of w (inputs_at set.topo p)) × (length (values_on s.wires w) < count_of w (takes set p l)))
    ⊎ ((0 < count_of w (outputs_at set.topo p)) × (0 < count_of w (sends set p l)) × (set.depth ≤ length (values_on s.wires w)))

-- wire w leads from the one processor to the other, or the other way
abbrev pub IsBetween : Topology → ℕ → ℕ → ℕ → Type 0
IsBetween topo w p q =
    ((producer_of topo w ≡ q) × (consumer_of topo w ≡ p)) ⊎ ((producer_of topo w ≡ p) × (consumer_of topo w ≡ q))
