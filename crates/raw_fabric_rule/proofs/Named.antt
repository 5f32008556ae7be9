-- What holds of the wire at each end of a processor holds of each wire that its rows name.
use Rattle.std.proofs.Common.{◌≡◌, ℕ, eqb, List, [], Option, Some, None, refl}
use Rattle.std.specs.Prelude.{slice_index, slice_index_or}
use Rattle.std.specs.List.{All}
use Rattle.std.specs.Option.{option_to_list}
use Rattle.std.proofs.lemmas.List.Elements.{All-nil, All-cons, All-append, All-map}
use Rattle.raw_network.specs.Network.{Sent}
use Rattle.raw_tile_isa.specs.Instruction.{Instruction, source_registers, destination_register}
use Rattle.raw_switch_isa.specs.Instruction.{SwitchInstruction}
use Rattle.raw_switch_isa.specs.Ends.{ends, is_used_input, is_filled}
use Rattle.raw_grid.specs.Wires.{input_wire, output_wire}
use Rattle.raw_model.specs.Program.{ProgramSet}
use Rattle.raw_model.specs.Local.{Local, Tile, Switch, Source, Sink}
use Rattle.raw_model.specs.TileTable.{next_instruction}
use Rattle.raw_model.specs.SwitchTable.{switch_row}
use Rattle.raw_model.specs.SwitchTable.{next_instruction as next_switch_instruction}
use Rattle.raw_model.specs.Machine.{tile_code, switch_code, source_wire, destination_wire, tile_takes, tile_sends, tile_effect, sent_to, taken_at, filled_at, switch_takes, switch_sends, given_to, port_outputs, port_program, words_of, takes, sends, row}
use Rattle.raw_model.proofs.Owned.{All-flat_map, All-cond, All-option}

module _ (set : ProgramSet) (p : ℕ) (P : ℕ → Type 0) where
  module _ (at : (end w : ℕ) → input_wire set.topo p end ≡ Some w → P w) where
    input : (end : ℕ) → All P (option_to_list (input_wire set.topo p end))
    input end = All-option P (input_wire set.topo p end) (at end)

    source : (register : ℕ) → All P (source_wire set.topo p register)
    source register = All-cond P (eqb register 24) _ _ (input 4) (All-cond P (eqb register 25) _ _ (input 9) (All-nil P))

    of_tile : (o : Option Instruction) → All P (tile_takes set.topo p o)
    of_tile None = All-nil P
    of_tile (Some ins) = All-flat_map P (source_wire set.topo p) source (source_registers ins)

    of_input : (ins : SwitchInstruction) (end : ℕ) → All P (taken_at set.topo p ins end)
    of_input ins end = All-cond P (is_used_input ins end) _ _ (input end) (All-nil P)

    of_switch : (o : Option SwitchInstruction) → All P (switch_takes set.topo p o)
    of_switch None = All-nil P
    of_switch (Some ins) = All-flat_map P (taken_at set.topo p ins) (of_input ins) ends

    -- each wire that a row takes from
    pub all_taken : (l : Local) → All P (takes set p l)
    all_taken (Tile l) = of_tile (next_instruction (tile_code set p) l)
    all_taken (Switch l) = of_switch (next_switch_instruction (switch_code set p) l)
    all_taken (Source l) = All-nil P
    all_taken (Sink l) = All-append P _ _ (input 4) (input 9)

  module _ (at : (end w : ℕ) → output_wire set.topo p end ≡ Some w → P w) where
    output : (end : ℕ) → All P (option_to_list (output_wire set.topo p end))
    output end = All-option P (output_wire set.topo p end) (at end)

    destination : (register : ℕ) → All P (destination_wire set.topo p register)
    destination register = All-cond P (eqb register 24) _ _ (output 4) (All-cond P (eqb register 25) _ _ (output 9) (All-nil P))

    to_tile : (o : Option Instruction) → All P (tile_sends set.topo p o)
    to_tile None = All-nil P
    to_tile (Some ins) = All-flat_map P (destination_wire set.topo p) destination (option_to_list (destination_register ins))

    to_output : (ins : SwitchInstruction) (end : ℕ) → All P (filled_at set.topo p ins end)
    to_output ins end = All-cond P (is_filled ins end) _ _ (output end) (All-nil P)

    to_switch : (o : Option SwitchInstruction) → All P (switch_sends set.topo p o)
    to_switch None = All-nil P
    to_switch (Some ins) = All-flat_map P (filled_at set.topo p ins) (to_output ins) ends

    outputs : All P (port_outputs set.topo p)
    outputs = All-append P _ _ (output 4) (output 9)

    -- each wire that a row may send to
    pub all_named : (l : Local) → All P (sends set p l)
    all_named (Tile l) = to_tile (next_instruction (tile_code set p) l)
    all_named (Switch l) = to_switch (next_switch_instruction (switch_code set p) l)
    all_named (Source l) = outputs
    all_named (Sink l) = All-nil P

    abbrev IsTo : Sent → Type 0
    IsTo m = P m.wire

    one_sent : (o value : Option ℕ) → ((w : ℕ) → o ≡ Some w → P w) → All IsTo (sent_to o value)
    one_sent None value own = All-nil IsTo
    one_sent (Some w) None own = All-nil IsTo
    one_sent (Some w) (Some value) own = All-cons IsTo (record { wire = w; value = value }) [] (own w refl) (All-nil IsTo)

    out : (end : ℕ) (value : Option ℕ) → All IsTo (sent_to (output_wire set.topo p end) value)
    out end value = one_sent (output_wire set.topo p end) value (at end)

    -- and each that it sends to
    pub all_sent : (l : Local) (values : List ℕ) → All (λ (m : Sent). P m.wire) (row set p l values).sent
    all_sent (Tile l) values = let effect = tile_effect (tile_code set p) l values in All-append IsTo _ _ (out 4 effect.sent1) (out 9 effect.sent2)
    all_sent (Switch l) values =
        let effect = switch_row (switch_code set p) l (given_to set.topo p (next_switch_instruction (switch_code set p) l) values) in
        All-flat_map IsTo (λ end. sent_to (output_wire set.topo p end) (slice_index_or effect.sent end None)) (λ end. out end (slice_index_or effect.sent end None)) ends
    all_sent (Source l) values =
        All-map IsTo (λ w. record { wire = w; value = slice_index (words_of (port_program set p)) l.done }) (port_outputs set.topo p) outputs
    all_sent (Sink l) values = All-nil IsTo
