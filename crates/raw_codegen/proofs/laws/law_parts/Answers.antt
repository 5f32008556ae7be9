use Rattle.raw_codegen.proofs.Parts.{tile_part-append, switch_part-append, block_here, block_there, block_switch, switch_here, switch_there, switches_here, switches_tile}
use Rattle.raw_codegen.proofs.laws.law_parts.Goals as goal

pub returns : goal.returns
returns c = record {
  tile_append = tile_part-append;
  switch_append = switch_part-append;
  block = block_here;
  block_elsewhere = block_there;
  block_switch = block_switch;
  one_switch = switch_here;
  one_elsewhere = switch_there;
  switches = switches_here;
  switches_tile = switches_tile;
}
