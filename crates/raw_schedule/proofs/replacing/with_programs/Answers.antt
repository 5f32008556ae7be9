use Rattle.std.proofs.Common.{◌≡◌}
use Rattle.raw_model.specs.Program.{ProgramSet}
use Rattle.raw_schedule.proofs.Sets.{PartsLaws, replaced_is_set}
use Rattle.raw_schedule.proofs.replacing.with_programs.Goals as goal

pub invariant_of-result : goal.invariant_of-result
invariant_of-result c =
    let laws : PartsLaws = record { programs = c.law_lawful_parts.ensures.programs; wires = c.law_lawful_parts.ensures.wires; cells = c.law_lawful_parts.ensures.cells; misses = c.law_lawful_parts.ensures.misses } in
    let set : ProgramSet = record { topo = c.set.inside.topo; limit = c.set.inside.limit; depth = c.set.inside.depth; ports = c.set.inside.ports.items; tiles = c.set.inside.tiles.items; shows = c.set.inside.shows.items } in
    replaced_is_set laws set c.set.invariant c.in-Ok.tiles.items c.in-Ok.ensures
