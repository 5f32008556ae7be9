use Rattle.std.proofs.Common.{cond, [], ◌∷◌, is_some, sym, ap, ◌∙◌}
use Rattle.std.specs.List.{flat_map}
use Rattle.std.specs.Option.{option_to_list}
use Rattle.std.proofs.lemmas.Grind.{flat_map-append}
use Rattle.raw_tile_isa.specs.Instruction.{uses, is_rs, reads_rt, destination_register}
use Rattle.raw_model.specs.Machine.{source_wire}
use Rattle.raw_processor.specs.Given.{wire_via}
use Rattle.raw_processor.proofs.Vias.{joined, source_where, destination_of, some_where}
use Rattle.raw_processor.proofs.tiles.step_wires.Goals as goal

pub returns-clause-takes : goal.returns-clause-takes
returns-clause-takes c = λ topo p are.
    let ins = c.args.step.now in
    let first = c.input_wire-first.ensures ∙ ap (wire_via c.args.ends.now.inputs) c.first.ensures in
    let second = c.input_wire-second.ensures ∙ ap (wire_via c.args.ends.now.inputs) c.second.ensures in
    joined c.input_wire-first.result c.input_wire-second.result (flat_map (source_wire topo p) (cond (uses is_rs ins.op) (ins.rs ∷ []) []))
    (flat_map (source_wire topo p) (cond (reads_rt ins.op) (ins.rt ∷ []) []))
    (ap option_to_list first ∙ source_where topo p c.args.ends.now (uses is_rs ins.op) ins.rs are)
    (ap option_to_list second ∙ source_where topo p c.args.ends.now (reads_rt ins.op) ins.rt are)
    ∙ sym (flat_map-append (source_wire topo p) (cond (uses is_rs ins.op) (ins.rs ∷ []) []) (cond (reads_rt ins.op) (ins.rt ∷ []) []))

pub returns-clause-sends : goal.returns-clause-sends
returns-clause-sends c = λ topo p are.
    let sent = c.output_wire-sent.ensures ∙ ap (wire_via c.args.ends.now.outputs) c.sent.ensures in
    ap option_to_list sent
    ∙ destination_of topo p c.args.ends.now (destination_register c.args.step.now) are

pub returns-clause-first : goal.returns-clause-first
returns-clause-first c = λ has.
    let ins = c.args.step.now in
    ap is_some (c.input_wire-first.ensures ∙ ap (wire_via c.args.ends.now.inputs) c.first.ensures)
    ∙ some_where c.args.ends.now (uses is_rs ins.op) ins.rs has

pub returns-clause-second : goal.returns-clause-second
returns-clause-second c = λ has.
    let ins = c.args.step.now in
    ap is_some (c.input_wire-second.ensures ∙ ap (wire_via c.args.ends.now.inputs) c.second.ensures)
    ∙ some_where c.args.ends.now (reads_rt ins.op) ins.rt has
