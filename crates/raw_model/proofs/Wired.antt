-- The machine of a program set is wired: each row takes from and sends to wires of its own processor alone.
use Rattle.std.proofs.Common.{◌≡◌, ℕ, eqb, List, [], Option, Some, None, refl}
use Rattle.std.specs.Prelude.{slice_index, slice_index_or}
use Rattle.std.specs.List.{All}
use Rattle.std.specs.Option.{option_to_list}
use Rattle.std.proofs.lemmas.List.Elements.{All-nil, All-cons, All-append, All-map}
use Rattle.raw_network.specs.Network.{Sent}
use Rattle.raw_network.specs.Wired.{IsWired}
use Rattle.raw_tile_isa.specs.Instruction.{Instruction, source_registers, destination_register}
use Rattle.raw_switch_isa.specs.Instruction.{SwitchInstruction}
use Rattle.raw_switch_isa.specs.Ends.{ends, is_used_input, is_filled}
use Rattle.raw_grid.specs.Topology.{Topology, IsTopology}
use Rattle.raw_grid.specs.Wires.{input_wire, output_wire, producer_of, consumer_of}
use Rattle.raw_grid.proofs.WireLaws.{input_owner, output_owner, ends_apart}
use Rattle.raw_model.specs.Program.{ProgramSet}
use Rattle.raw_model.specs.Local.{Local, Tile, Switch, Source, Sink}
use Rattle.raw_model.specs.TileTable.{next_instruction}
use Rattle.raw_model.specs.SwitchTable.{switch_row}
use Rattle.raw_model.specs.SwitchTable.{next_instruction as next_switch_instruction}
use Rattle.raw_model.specs.Machine.{tile_code, switch_code, source_wire, destination_wire, tile_takes, tile_sends, tile_effect, sent_to, taken_at, filled_at, switch_takes, switch_sends, given_to, port_inputs, port_outputs, port_program, words_of, takes, sends, row, machine_of}
use Rattle.raw_model.proofs.Owned.{All-flat_map, All-cond, All-option}

module _ (t : Topology) (p : ℕ) where
  -- all of these wires lead to the processor, or all come from it
  abbrev AreTaken : List ℕ → Type 0
  AreTaken ws = All (λ w. consumer_of t w ≡ p) ws

  abbrev AreSent : List ℕ → Type 0
  AreSent ws = All (λ w. producer_of t w ≡ p) ws

  input_own : (end : ℕ) → AreTaken (option_to_list (input_wire t p end))
  input_own end = All-option (λ w. consumer_of t w ≡ p) (input_wire t p end) (λ w e. input_owner t w p end e)

  output_own : (end : ℕ) → AreSent (option_to_list (output_wire t p end))
  output_own end = All-option (λ w. producer_of t w ≡ p) (output_wire t p end) (λ w e. output_owner t w p end e)

  source_own : (register : ℕ) → AreTaken (source_wire t p register)
  source_own register =
      All-cond (λ w. consumer_of t w ≡ p) (eqb register 24) _ _ (input_own 4)
      (All-cond (λ w. consumer_of t w ≡ p) (eqb register 25) _ _ (input_own 9) (All-nil (λ w. consumer_of t w ≡ p)))

  destination_own : (register : ℕ) → AreSent (destination_wire t p register)
  destination_own register =
      All-cond (λ w. producer_of t w ≡ p) (eqb register 24) _ _ (output_own 4)
      (All-cond (λ w. producer_of t w ≡ p) (eqb register 25) _ _ (output_own 9) (All-nil (λ w. producer_of t w ≡ p)))

  tile_takes_own : (o : Option Instruction) → AreTaken (tile_takes t p o)
  tile_takes_own None = All-nil (λ w. consumer_of t w ≡ p)
  tile_takes_own (Some ins) =
      All-flat_map (λ w. consumer_of t w ≡ p) (source_wire t p) source_own (source_registers ins)

  tile_sends_own : (o : Option Instruction) → AreSent (tile_sends t p o)
  tile_sends_own None = All-nil (λ w. producer_of t w ≡ p)
  tile_sends_own (Some ins) =
      All-flat_map (λ w. producer_of t w ≡ p) (destination_wire t p) destination_own (option_to_list (destination_register ins))

  taken_own : (ins : SwitchInstruction) (end : ℕ) → AreTaken (taken_at t p ins end)
  taken_own ins end =
      All-cond (λ w. consumer_of t w ≡ p) (is_used_input ins end) _ _ (input_own end) (All-nil (λ w. consumer_of t w ≡ p))

  filled_own : (ins : SwitchInstruction) (end : ℕ) → AreSent (filled_at t p ins end)
  filled_own ins end =
      All-cond (λ w. producer_of t w ≡ p) (is_filled ins end) _ _ (output_own end) (All-nil (λ w. producer_of t w ≡ p))

  switch_takes_own : (o : Option SwitchInstruction) → AreTaken (switch_takes t p o)
  switch_takes_own None = All-nil (λ w. consumer_of t w ≡ p)
  switch_takes_own (Some ins) = All-flat_map (λ w. consumer_of t w ≡ p) (taken_at t p ins) (taken_own ins) ends

  switch_sends_own : (o : Option SwitchInstruction) → AreSent (switch_sends t p o)
  switch_sends_own None = All-nil (λ w. producer_of t w ≡ p)
  switch_sends_own (Some ins) = All-flat_map (λ w. producer_of t w ≡ p) (filled_at t p ins) (filled_own ins) ends

  port_inputs_own : AreTaken (port_inputs t p)
  port_inputs_own = All-append (λ w. consumer_of t w ≡ p) _ _ (input_own 4) (input_own 9)

  port_outputs_own : AreSent (port_outputs t p)
  port_outputs_own = All-append (λ w. producer_of t w ≡ p) _ _ (output_own 4) (output_own 9)

  -- all of these values go to wires that come from the processor
  abbrev AreOwn : List Sent → Type 0
  AreOwn ms = All (λ (m : Sent). producer_of t m.wire ≡ p) ms

  sent_to_own : (o value : Option ℕ) → ((w : ℕ) → o ≡ Some w → producer_of t w ≡ p) → AreOwn (sent_to o value)
  sent_to_own None value own = All-nil (λ (m : Sent). producer_of t m.wire ≡ p)
  sent_to_own (Some w) None own = All-nil (λ (m : Sent). producer_of t m.wire ≡ p)
  sent_to_own (Some w) (Some value) own =
      All-cons (λ (m : Sent). producer_of t m.wire ≡ p) (record { wire = w; value = value }) [] (own w refl)
      (All-nil (λ (m : Sent). producer_of t m.wire ≡ p))

  out_own : (end : ℕ) (value : Option ℕ) → AreOwn (sent_to (output_wire t p end) value)
  out_own end value = sent_to_own (output_wire t p end) value (λ w e. output_owner t w p end e)

module _ (set : ProgramSet) (p : ℕ) where
  all_taken : (l : Local) → All (λ w. consumer_of set.topo w ≡ p) (takes set p l)
  all_taken (Tile l) = tile_takes_own set.topo p (next_instruction (tile_code set p) l)
  all_taken (Switch l) = switch_takes_own set.topo p (next_switch_instruction (switch_code set p) l)
  all_taken (Source l) = All-nil (λ w. consumer_of set.topo w ≡ p)
  all_taken (Sink l) = port_inputs_own set.topo p

  all_named : (l : Local) → All (λ w. producer_of set.topo w ≡ p) (sends set p l)
  all_named (Tile l) = tile_sends_own set.topo p (next_instruction (tile_code set p) l)
  all_named (Switch l) = switch_sends_own set.topo p (next_switch_instruction (switch_code set p) l)
  all_named (Source l) = port_outputs_own set.topo p
  all_named (Sink l) = All-nil (λ w. producer_of set.topo w ≡ p)

  all_sent : (l : Local) (values : List ℕ) → All (λ (m : Sent). producer_of set.topo m.wire ≡ p) (row set p l values).sent
  all_sent (Tile l) values =
      let effect = tile_effect (tile_code set p) l values in
      All-append (λ (m : Sent). producer_of set.topo m.wire ≡ p) _ _
      (out_own set.topo p 4 effect.sent1) (out_own set.topo p 9 effect.sent2)
  all_sent (Switch l) values =
      let effect = switch_row (switch_code set p) l (given_to set.topo p (next_switch_instruction (switch_code set p) l) values) in
      All-flat_map (λ (m : Sent). producer_of set.topo m.wire ≡ p)
      (λ end. sent_to (output_wire set.topo p end) (slice_index_or effect.sent end None))
      (λ end. out_own set.topo p end (slice_index_or effect.sent end None)) ends
  all_sent (Source l) values =
      All-map (λ (m : Sent). producer_of set.topo m.wire ≡ p)
      (λ w. record { wire = w; value = slice_index (words_of (port_program set p)) l.done })
      (port_outputs set.topo p) (port_outputs_own set.topo p)
  all_sent (Sink l) values = All-nil (λ (m : Sent). producer_of set.topo m.wire ≡ p)

-- each wire has one producer and one consumer, by its number in the list of wires
pub wired : (set : ProgramSet) → IsTopology set.topo
    → IsWired (machine_of set) (producer_of set.topo) (consumer_of set.topo)
unfolding machine_of
wired set valid =
    record {
      apart = λ w. ends_apart set.topo w valid;
      takes_own = all_taken set;
      sends_own = all_named set;
      sent_own = all_sent set;
    }
