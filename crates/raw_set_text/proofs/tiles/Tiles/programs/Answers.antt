use Rattle.std.proofs.Common.{map, ap, ◌∙◌}
use Rattle.std.proofs.lemmas.Iterator.Consumers.{YieldsList-end}
use Rattle.std.proofs.lemmas.Iterator.Adapters.{YieldsList-from_vec}
use Rattle.raw_model.specs.declared.limits.TheConstants.{MEMORY_WORDS}
use Rattle.raw_set_text.specs.Tiling.{program_of}
use Rattle.raw_set_text.proofs.Building.TilesProgram.{map_same, programs_are}
use Rattle.raw_set_text.proofs.tiles.Tiles.programs.Goals as goal

pub returns : goal.returns
returns c = λ entries stands.
    let all = YieldsList-end (YieldsList-from_vec c.args.self.parts.items (cc) (cc)) c.loop-parts.yielded c.loop-parts.parts-iterator c.loop-parts.yielded_by _ c.next.new.self c.in-None.is c.next.ensures.steps in
    c.loop-parts.invariant ∙ map_same (program_of MEMORY_WORDS) c.loop-parts.yielded ∙ ap (λ xs. map (program_of MEMORY_WORDS) xs) all.0 ∙ programs_are c.args.self entries stands
