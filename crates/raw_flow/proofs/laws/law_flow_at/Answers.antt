use Rattle.raw_flow.proofs.Given.{Stored, Rows, Wires, Scripts, Laws}
use Rattle.raw_flow.proofs.Whole.{each_flow_is_right}
use Rattle.raw_flow.proofs.laws.law_flow_at.Goals as goal

pub returns : goal.returns
returns c =
    let stored : Stored = record { there = c.law_stored_words.ensures.there; elsewhere = c.law_stored_words.ensures.elsewhere } in
    let rows : Rows = record {
      li = c.law_rows.ensures.li;
      load_send = c.law_rows.ensures.load_send;
      load_sender = c.law_rows.ensures.load_sender;
      store_take = c.law_rows.ensures.store_take;
      store_taker = c.law_rows.ensures.store_taker;
      load = c.law_rows.ensures.load;
      load_plain = c.law_rows.ensures.load_plain;
      store = c.law_rows.ensures.store;
      store_plain = c.law_rows.ensures.store_plain;
      register = c.law_rows.ensures.register;
      append = c.law_rows.ensures.append;
      from_side = c.law_rows.ensures.from_side;
      to_side = c.law_rows.ensures.to_side;
    } in
    let wires : Wires = record {
      output_exists = c.law_wires.ensures.output_exists;
      output_owner = c.law_wires.ensures.output_owner;
      to_tile_one = c.law_ends.ensures.to_tile_one;
      from_tile_one = c.law_ends.ensures.from_tile_one;
      to_tile_two = c.law_ends.ensures.to_tile_two;
      from_tile_two = c.law_ends.ensures.from_tile_two;
      source = c.law_ends.ensures.source;
      sink = c.law_ends.ensures.sink;
      port_input = c.law_ends.ensures.port_input;
      port_output = c.law_ends.ensures.port_output;
    } in
    let scripts : Scripts = record {
      start = c.law_blocks.ensures.start;
      start_idle = c.law_blocks.ensures.start_idle;
      start_ports = c.law_blocks.ensures.start_ports;
      block = c.law_blocks.ensures.block;
      send = c.law_blocks.ensures.send;
      take = c.law_blocks.ensures.take;
      pass = c.law_blocks.ensures.pass;
      tree = c.law_tree_runs.ensures;
      halts = c.law_halts.ensures;
    } in
    let laws : Laws = record {
      stored = stored;
      rows = rows;
      wires = wires;
      scripts = scripts;
      words = c.law_words.ensures.operations;
      end_fits = c.law_fits.ensures.end_fits;
      same_rest = c.law_same_rest.ensures.same_rest;
      step_send = c.law_single_steps.ensures.send;
      step_take = c.law_single_steps.ensures.take;
    } in
    each_flow_is_right laws
