use Rattle.raw_codegen.proofs.Lawful.{parts_append, block_parts, programs_lawful, programs_wired, no_cells, no_misses, load_rules, send_rules, load_ins_rules, store_ins_rules}
use Rattle.raw_codegen.proofs.SwitchRows.{from_side_part, to_side_part}
use Rattle.raw_codegen.proofs.laws.law_lawful_parts.Goals as goal

pub returns : goal.returns
returns c = record {
  append = parts_append;
  block = block_parts;
  programs = programs_lawful;
  wires = programs_wired;
  cells = no_cells;
  misses = no_misses;
  li = load_rules c.law_load.ensures;
  send = send_rules;
  load = load_ins_rules;
  store = store_ins_rules;
  from_side = from_side_part;
  to_side = to_side_part;
}
