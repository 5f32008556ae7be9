-- What a processor needs for its next step, and what is there.
use Rattle.std.specs.Prelude.{◌≡◌, ℕ, Bool, true, nat_lt, nat_le, Option, Some, None, List, ◌++◌, length, slice_index_or}
use Rattle.raw_network.specs.Network.{Sent, values_on, fronts, taken, has_room}
use Rattle.raw_network.specs.Waits.{first_unmet}
use Rattle.raw_model.specs.Program.{ProgramSet}
use Rattle.raw_model.specs.Local.{Local}
use Rattle.raw_model.specs.Machine.{takes, sends, sent_to}
use Rattle.raw_model.specs.Waits.{inputs_at, outputs_at}
use Rattle.raw_processor.specs.declared.end_wires.EndWires.{EndWires}
use Rattle.raw_processor.specs.Ends.{AreEndsOf}
use Rattle.raw_serial.specs.declared.need.Need.{Need}
use Rattle.raw_serial.specs.declared.need.Need.TheVariants.{Value, Room}

-- the wires at the ends of processor p, and those that its next step takes from and sends to where this is
-- its local state
pub record AreNeedsOf (set : ProgramSet) (p : ℕ) (l : Local) (its_ends : EndWires) (taken_from sent_to : List ℕ) : Type 0 where
  pub ends : AreEndsOf set.topo p its_ends
  pub takes : taken_from ≡ takes set p l
  pub sends : sent_to ≡ sends set p l

-- these are the needs of some processor
pub record AreNeeds (set : ProgramSet) (ends : EndWires) (taken_from sent_to : List ℕ) : Type 0 where
  pub p : ℕ
  pub l : Local
  pub needs : AreNeedsOf set p l ends taken_from sent_to

-- a wire that holds nothing, and one that is full
abbrev pub is_empty : List (List ℕ) → ℕ → Bool
is_empty wires w = nat_lt (length (values_on wires w)) 1

abbrev pub is_full : ℕ → List (List ℕ) → ℕ → Bool
is_full depth wires w = nat_le depth (length (values_on wires w))

-- the wire does not have what a step needs of it
abbrev pub fails : Need → List (List ℕ) → ℕ → Bool
fails Value wires w = is_empty wires w
fails (Room depth) wires w = is_full depth wires w

-- the wire of a processor whose need is unmet first
abbrev pub unmet_of : ProgramSet → ℕ → Local → List (List ℕ) → Option ℕ
unmet_of set p l wires =
    first_unmet set.depth (inputs_at set.topo p) (outputs_at set.topo p) (takes set p l) (sends set p l) wires

-- all needs are met, and the values are taken from the wires
pub record IsTaken (set : ProgramSet) (p : ℕ) (l : Local) (wires later : List (List ℕ)) (took : List ℕ) : Type 0 where
  pub met : unmet_of set p l wires ≡ None
  pub room : has_room set.depth (sends set p l) wires ≡ true
  pub values : took ≡ fronts (takes set p l) wires
  pub rest : later ≡ taken (takes set p l) wires

-- a need is unmet, that of this wire first, and nothing is taken
pub record IsKept (set : ProgramSet) (p : ℕ) (l : Local) (wires later : List (List ℕ)) (wire : ℕ) : Type 0 where
  pub unmet : unmet_of set p l wires ≡ Some wire
  pub rest : later ≡ wires

-- what a source sends, by the wires at its ends
abbrev pub sent_by_source : EndWires → ℕ → List Sent
sent_by_source ends word =
    sent_to (slice_index_or ends.outputs 4 None) (Some word) ++ sent_to (slice_index_or ends.outputs 9 None) (Some word)
