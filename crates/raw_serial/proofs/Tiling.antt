-- What the turn of a tile makes of it.
use Rattle.std.proofs.Common.{◌≡◌, ℕ, ◌<◌, List, ◌++◌, Option, None, ap, ◌∙◌, arith}
use Rattle.std.specs.Prelude.{slice_index_or, is_some}
use Rattle.std.specs.Option.{option_to_list}
use Rattle.raw_tile_isa.specs.Instruction.{Instruction}
use Rattle.raw_grid.specs.Topology.{Topology, IsTopology, tile_count}
use Rattle.raw_grid.specs.Wires.{output_wire}
use Rattle.raw_grid.proofs.EndLaws.{to_tile_one, to_tile_two}
use Rattle.raw_model.specs.Program.{ProgramSet}
use Rattle.raw_model.specs.Local.{Tile, TileLocal}
use Rattle.raw_model.specs.Machine.{machine_of, tile_code, tile_effect, tile_network_row, sent_to}
use Rattle.raw_tile.specs.declared.fire.TileOut.{TileOut}
use Rattle.raw_tile.specs.Given.{out_of}
use Rattle.raw_processor.specs.declared.end_wires.EndWires.{EndWires}
use Rattle.raw_processor.specs.declared.processor.TileUnit.{TileUnit}
use Rattle.raw_processor.specs.Ends.{AreEndsOf, HasNetworks}
use Rattle.raw_processor.specs.Given.{sent_out}
use Rattle.raw_serial.specs.Needs.{IsTaken}
use Rattle.raw_serial.specs.Costs.{touches_next}

pub same_tile : (k l : TileLocal) → Tile k ≡ Tile l → k ≡ l
same_tile k l e = cc e

-- the address that a step of a tile touches, by the values that it takes
pub touched_by : (g : ProgramSet) (p : ℕ) (tile : TileUnit) (wires left : List (List ℕ)) (values : List ℕ) (o : Option ℕ)
    → IsTaken g p (Tile tile.state) wires left values → o ≡ (tile_effect (tile_code g p) tile.state values).touched
    → option_to_list o ≡ touches_next g p tile wires
unfolding machine_of
touched_by g p tile wires left values o took is =
    ap option_to_list (is ∙ ap (λ vs. (tile_effect (tile_code g p) tile.state vs).touched) took.values)

-- both networks lead to a tile
pub has_networks : (topo : Topology) (p : ℕ) (es : EndWires) → IsTopology topo → p < tile_count topo → AreEndsOf topo p es → HasNetworks es
has_networks topo p es valid below are = record {
  first = ap is_some (are.inputs 4 (omega arith) ∙ (to_tile_one topo p valid below).1);
  second = ap is_some (are.inputs 9 (omega arith) ∙ (to_tile_two topo p valid below).1);
}

-- what a firing of a tile sends is what its row sends
pub out_is : (g : ProgramSet) (p : ℕ) (l : TileLocal) (es : EndWires) (code : List Instruction) (values : List ℕ) (out : TileOut)
    → AreEndsOf g.topo p es → code ≡ tile_code g p → out ≡ out_of (tile_effect code l values)
    → sent_out es out ≡ (tile_network_row g.topo p (tile_effect (tile_code g p) l values)).sent
out_is g p l es code values out are is_code is_out =
    let effect = tile_effect (tile_code g p) l values in
    ap (λ (o : TileOut). sent_out es o) is_out
    ∙ ap (λ code. sent_out es (out_of (tile_effect code l values))) is_code
    ∙ ap (λ w. sent_to w effect.sent1 ++ sent_to (slice_index_or es.outputs 9 None) effect.sent2) (are.outputs 4 (omega arith))
    ∙ ap (λ w. sent_to (output_wire g.topo p 4) effect.sent1 ++ sent_to w effect.sent2) (are.outputs 9 (omega arith))
