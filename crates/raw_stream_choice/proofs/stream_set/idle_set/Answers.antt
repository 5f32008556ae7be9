use Rattle.std.proofs.Common.{◌≡◌, [], ap, ◌∙◌}
use Rattle.raw_codegen.specs.Parts.{script_programs}
use Rattle.raw_grid.specs.Topology.{tile_count}
use Rattle.raw_cut.proofs.Copies.{some_so}
use Rattle.raw_stream_choice.proofs.Lawful.{PartsLaws, idle_is_set}
use Rattle.raw_stream_choice.proofs.stream_set.idle_set.Goals as goal

pub invariant_of-result : goal.invariant_of-result
invariant_of-result c =
    let s = c.args.stream.now in
    let laws : PartsLaws = record { programs = c.law_lawful_parts.ensures.programs; wires = c.law_lawful_parts.ensures.wires; cells = c.law_lawful_parts.ensures.cells; misses = c.law_lawful_parts.ensures.misses } in
    let topo = c.in-Ok-Some in
    let programs = c.in-Ok-Some-idle_programs in
    let made : programs.tiles.items ≡ script_programs (tile_count topo.topo) [] = some_so _ programs.field-0 programs.tiles programs.field-0-is programs.ensures.tiles ∙ ap (λ n. script_programs n []) c.tiles.ensures.value in
    idle_is_set s c.args.ports.items c.requires laws topo.topo programs.tiles.items c.new.result.items
    (some_so _ topo.field-0 topo.topo topo.field-0-is topo.ensures) c.tiles.ensures.valid made
    (some_so _ programs.field-0 programs.tiles programs.field-0-is programs.ensures.short) c.new.ensures.items
