-- What a firing wants of its ends, and the values for a switch's inputs from a list of those that were taken.
use Rattle.std.specs.Prelude.{ℕ, Bool, false, List, [], ◌∷◌, ◌++◌, Option, Some, None, is_some, filter, drop, length, slice_index_or, if◌then◌else◌}
use Rattle.std.specs.List.{list_all, flat_map}
use Rattle.std.specs.Option.{option_to_list}
use Rattle.raw_network.specs.Network.{Sent}
use Rattle.raw_switch_isa.specs.Instruction.{SwitchInstruction}
use Rattle.raw_switch_isa.specs.Ends.{ends, has_end, is_filled}
use Rattle.raw_model.specs.Machine.{given_first, sent_to}
use Rattle.raw_tile.specs.declared.fire.TileOut.{TileOut}
use Rattle.raw_tile.specs.declared.step.Via.{Via}
use Rattle.raw_tile.specs.declared.step.Via.TheVariants.{Tile, Network1, Network2}
use Rattle.raw_processor.specs.declared.end_wires.EndWires.{EndWires}
use Rattle.raw_processor.specs.declared.tiles.TileWires.{TileWires}

-- the wires that a tile's step takes from, that of rs before that of rt, and the wire that it sends to
abbrev pub taken_by : TileWires → List ℕ
taken_by wires = option_to_list wires.first ++ option_to_list wires.second

abbrev pub sent_by : TileWires → List ℕ
sent_by wires = option_to_list wires.sent

-- the wire at a tile's end by which a value passes, where it passes through a network
abbrev pub wire_via : List (Option ℕ) → Via → Option ℕ
wire_via wires Tile = None
wire_via wires Network1 = slice_index_or wires 4 None
wire_via wires Network2 = slice_index_or wires 9 None

-- what a firing of a tile sends, by the wires at its ends
abbrev pub sent_out : EndWires → TileOut → List Sent
sent_out ends out =
    sent_to (slice_index_or ends.outputs 4 None) out.sent1 ++ sent_to (slice_index_or ends.outputs 9 None) out.sent2

-- each of these ends that a word has has a wire
abbrev pub all_have_wires : ℕ → List (Option ℕ) → List ℕ → Bool
all_have_wires word wires es = list_all (λ end. is_some (slice_index_or wires end None)) (filter (has_end word) es)

-- the wire at an end, where a word of ends has that end
abbrev pub wire_in : ℕ → List (Option ℕ) → ℕ → List ℕ
wire_in word wires end = if has_end word end then option_to_list (slice_index_or wires end None) else []

-- the wires at the ends of a word, by rising end index
abbrev pub wires_in : ℕ → List (Option ℕ) → List ℕ
wires_in word wires = flat_map (wire_in word wires) ends

-- whether the next instruction sends a value to this output
abbrev pub sends_to : Option SwitchInstruction → ℕ → Bool
sends_to None end = false
sends_to (Some ins) end = is_filled ins end

-- what the outputs send, by end index, each value on its way to its output's wire
abbrev pub sent_at : List (Option ℕ) → List (Option ℕ) → List Sent
sent_at wires values = flat_map (λ end. sent_to (slice_index_or wires end None) (slice_index_or values end None)) ends

-- the values for these ends, from a list in their order: the next one at each end that the word has and
-- that has a wire
abbrev pub handed : ℕ → List (Option ℕ) → List ℕ → List ℕ → List (Option ℕ)
handed word wires [] values = []
handed word wires (end ∷ others) values =
    given_first (wire_in word wires end) values ∷ handed word wires others (drop (length (wire_in word wires end)) values)
