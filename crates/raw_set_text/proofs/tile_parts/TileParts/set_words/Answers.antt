use Rattle.std.proofs.Common.{rules, ◌∙◌, arith}
use Rattle.std.proofs.lemmas.Grind.{common_steps}
use Rattle.raw_set_text.proofs.Building.TilesMemory.{written_free}
use Rattle.raw_set_text.proofs.tile_parts.TileParts.set_words.Goals as goal

pub returns : goal.returns
returns c = record {
  code = search rules;
  switch = search rules;
  memory = λ i. c.in_ok-write_words.ensures.words i ∙ written_free c.args.first i c.args.words.now c.args.self.now.memory c.requires.free;
  misses = grind (arith, common_steps);
}
