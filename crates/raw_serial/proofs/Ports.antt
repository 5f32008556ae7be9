-- What a port is given, and what it needs.
use Rattle.std.proofs.Common.{◌≡◌, ℕ, ◌-◌, ◌*◌, ◌≤◌, List, [], ◌++◌, map, Option, Some, None, refl, sym, ap, ◌∙◌, arith}
use Rattle.std.specs.Prelude.{slice_index, slice_index_or}
use Rattle.std.specs.Option.{option_to_list}
use Rattle.std.proofs.lemmas.List.{map-append}
use Rattle.raw_grid.specs.Topology.{tile_count}
use Rattle.raw_grid.specs.Wires.{input_wire, output_wire}
use Rattle.raw_model.specs.Program.{ProgramSet, PortProgram, IsSet, IsPortProgram}
use Rattle.raw_model.specs.Local.{PortLocal}
use Rattle.raw_model.specs.Machine.{port_program, capacity_of, port_inputs, port_outputs, source_row, sent_to}
use Rattle.raw_model.proofs.Words.{all_at}
use Rattle.raw_model.proofs.Counts.{sent_none}
use Rattle.raw_processor.specs.declared.end_wires.EndWires.{EndWires}
use Rattle.raw_processor.specs.Ends.{AreEndsOf}
use Rattle.raw_processor.specs.Given.{sent_out}
use Rattle.raw_serial.specs.Needs.{sent_by_source}

module _ (g : ProgramSet) (p : ℕ) where
  capacity_by : (o : Option PortProgram) → port_program g p ≡ o → IsSet g → capacity_of o ≤ 1000000
  capacity_by None here valid = omega arith
  capacity_by (Some program) here valid = (all_at IsPortProgram g.ports (p - 2 * tile_count g.topo) program valid.port_programs here).capacity

  pub capacity_few : IsSet g → capacity_of (port_program g p) ≤ 1000000
  capacity_few valid = capacity_by (port_program g p) refl valid

-- what a firing of a source sends is what its row sends
map_source : (word : ℕ) (o : Option ℕ) → sent_to o (Some word) ≡ map (λ w. record { wire = w; value = word }) (option_to_list o)
map_source word None = refl
map_source word (Some w) = refl

pub source_sent : (g : ProgramSet) (p : ℕ) (es : EndWires) (words given : List ℕ) (l : PortLocal) (word : ℕ) → AreEndsOf g.topo p es
    → given ≡ words → word ≡ slice_index given l.done
    → sent_by_source es word ≡ (source_row (port_outputs g.topo p) words l).sent
source_sent g p es words given l word are same is =
    ap (λ o. sent_to o (Some word) ++ sent_to (slice_index_or es.outputs 9 None) (Some word)) (are.outputs 4 (omega arith))
    ∙ ap (λ o. sent_to (output_wire g.topo p 4) (Some word) ++ sent_to o (Some word)) (are.outputs 9 (omega arith))
    ∙ ap (λ ms. ms ++ sent_to (output_wire g.topo p 9) (Some word)) (map_source word (output_wire g.topo p 4))
    ∙ ap (λ ms. map (λ w. record { wire = w; value = word }) (option_to_list (output_wire g.topo p 4)) ++ ms) (map_source word (output_wire g.topo p 9))
    ∙ sym (map-append (λ w. record { wire = w; value = word }) (option_to_list (output_wire g.topo p 4)) (option_to_list (output_wire g.topo p 9)))
    ∙ ap (λ n. map (λ w. record { wire = w; value = n }) (port_outputs g.topo p)) (is ∙ ap (λ ws. slice_index ws l.done) same)

-- the wires at the ends P of a sink are those that lead to it
pub sink_wires : (g : ProgramSet) (p : ℕ) (es : EndWires) → AreEndsOf g.topo p es
    → option_to_list (slice_index_or es.inputs 4 None) ++ option_to_list (slice_index_or es.inputs 9 None) ≡ port_inputs g.topo p
sink_wires g p es are =
    ap (λ o. option_to_list o ++ option_to_list (slice_index_or es.inputs 9 None)) (are.inputs 4 (omega arith))
    ∙ ap (λ o. option_to_list (input_wire g.topo p 4) ++ option_to_list o) (are.inputs 9 (omega arith))

-- a sink sends nothing
pub nothing_sent : (es : EndWires) → sent_out es (record { sent1 = None; sent2 = None; touched = None }) ≡ []
nothing_sent es =
    ap (λ ms. ms ++ sent_to (slice_index_or es.outputs 9 None) None) (sent_none (slice_index_or es.outputs 4 None))
    ∙ sent_none (slice_index_or es.outputs 9 None)
