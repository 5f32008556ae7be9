use Rattle.raw_flow.specs.Compiled.{compiled_at}
use Rattle.raw_flow.proofs.Given.{Wires, PartsLaws}
use Rattle.raw_flow.proofs.Lawful.{compiled_is_set}
use Rattle.raw_flow.proofs.laws.law_compiled_at.Goals as goal

pub returns : goal.returns
unfolding compiled_at
returns c = λ flow ports inputs is are given short.
    let wires : Wires = record {
      output_exists = c.law_wires.ensures.output_exists;
      output_owner = c.law_wires.ensures.output_owner;
      to_tile_one = c.law_ends.ensures.to_tile_one;
      from_tile_one = c.law_ends.ensures.from_tile_one;
      to_tile_two = c.law_ends.ensures.to_tile_two;
      from_tile_two = c.law_ends.ensures.from_tile_two;
      source = c.law_ends.ensures.source;
      sink = c.law_ends.ensures.sink;
      port_input = c.law_ends.ensures.port_input;
      port_output = c.law_ends.ensures.port_output;
    } in
    let laws : PartsLaws = record {
      wires = wires;
      few_ports = c.law_wires.ensures.few_ports;
      tile_append = c.law_parts.ensures.tile_append;
      tile_block = c.law_parts.ensures.block;
      append = c.law_lawful_parts.ensures.append;
      block = c.law_lawful_parts.ensures.block;
      programs = c.law_lawful_parts.ensures.programs;
      have_wires = c.law_lawful_parts.ensures.wires;
      cells = c.law_lawful_parts.ensures.cells;
      misses = c.law_lawful_parts.ensures.misses;
      li = c.law_lawful_parts.ensures.li;
      load_rules = c.law_lawful_parts.ensures.load;
      store_rules = c.law_lawful_parts.ensures.store;
      from_side = c.law_lawful_parts.ensures.from_side;
      to_side = c.law_lawful_parts.ensures.to_side;
      trees = c.law_tree_lawful.ensures.parts;
    } in
    compiled_is_set laws flow ports inputs is are given short
