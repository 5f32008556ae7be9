-- The machine of a set by the ends of its processors. Inputs have the numbers of their end indices, outputs END_COUNT more.
use Rattle.std.specs.Prelude.{ℕ, ◌+◌, ◌-◌, nat_lt, ◌==◌, unwrap_or, List, [], ◌∷◌, map, length, slice_index_or, if◌then◌else◌}
use Rattle.std.specs.Option.{option_to_list}
use Rattle.raw_network.specs.Network.{Sent, values_on, count_of}
use Rattle.raw_network.specs.Runs.{sent_on}
use Rattle.raw_grid.specs.Topology.{proc_count}
use Rattle.raw_grid.specs.Wires.{wires_of, input_wire, output_wire, producer_of, consumer_of}
use Rattle.raw_grid.specs.Wires as topo
use Rattle.raw_model.specs.Program.{ProgramSet}
use Rattle.raw_model.specs.Local.{Local, Source}
use Rattle.raw_model.specs.Machine.{takes, sends, row}
use Rattle.raw_model.specs.Start.{MachineState}
use Rattle.raw_fabric_rule.specs.declared.layout.TheConstants.{END_COUNT}

-- how many processors and wires there are
unfoldable pub procs : ProgramSet → ℕ
procs set = proc_count set.topo

unfoldable pub wires : ProgramSet → ℕ
wires set = length (wires_of set.topo)

-- the processor that sends on wire w, and the number of its end
unfoldable pub producer : ProgramSet → ℕ → ℕ
producer set w = producer_of set.topo w

unfoldable pub producer_end : ProgramSet → ℕ → ℕ
producer_end set w = END_COUNT + topo.producer_end set.topo w

-- the processor that takes from wire w, and the number of its end
unfoldable pub consumer : ProgramSet → ℕ → ℕ
consumer set w = consumer_of set.topo w

unfoldable pub consumer_end : ProgramSet → ℕ → ℕ
consumer_end set w = topo.consumer_end set.topo w

-- the number of the wire at an end of processor p, and one past the last where there is none
unfoldable pub wire_at : ProgramSet → ℕ → ℕ → ℕ
wire_at set p end = unwrap_or (if nat_lt end END_COUNT then input_wire set.topo p end else output_wire set.topo p (end - END_COUNT)) (wires set)

-- the local state of a processor that is not there
abbrev pub nobody : Local
nobody = Source (record { done = 0; got = [] })

-- the local state of a processor
abbrev pub local : MachineState → ℕ → Local
local s p = slice_index_or s.locals p nobody

-- the values on a wire
abbrev pub wire : MachineState → ℕ → List ℕ
wire s w = values_on s.wires w

module _ (set : ProgramSet) (p : ℕ) (l : Local) where
  -- the inputs that the next row takes from, one for each value, in the order of its operands
  unfoldable pub needs : List ℕ
  needs = map (consumer_end set) (takes set p l)

  -- the outputs that it names
  unfoldable pub gives : List ℕ
  gives = map (producer_end set) (sends set p l)

  -- how many values it takes from wire w, and whether it names that wire
  unfoldable pub taken : ℕ → ℕ
  taken w = count_of w (takes set p l)

  unfoldable pub put_on : ℕ → ℕ
  put_on w = count_of w (sends set p l)

  module _ (values : List ℕ) where
    -- the local state after the row with these operands
    unfoldable pub next_local : Local
    next_local = (row set p l values).next

    -- the addresses that it touches: one at most
    unfoldable pub touched_by : List ℕ
    touched_by = option_to_list (row set p l values).touched

    -- the outputs that it sends to, and what it sends there
    unfoldable pub fills : List ℕ
    fills = map (λ (m : Sent). producer_end set m.wire) (row set p l values).sent

    unfoldable pub sent : List ℕ
    sent = map (λ (m : Sent). m.value) (row set p l values).sent

    -- what it sends on wire w
    unfoldable pub sent_to_wire : ℕ → List ℕ
    sent_to_wire w = sent_on w (row set p l values).sent

-- of values sent at these ends, the first one sent at an end
abbrev pub value_at : List ℕ → List ℕ → ℕ → ℕ
value_at (e ∷ ends) (value ∷ values) end = if e == end then value else value_at ends values end
value_at _ _ _ = 0
