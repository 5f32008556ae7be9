use Rattle.raw_codegen.proofs.Given.{Laws}
use Rattle.raw_codegen.proofs.Standing.{block_chunk, send_chunk, take_chunk, pass_chunk}
use Rattle.raw_codegen.proofs.Starting.{first_stands, first_idle, first_ports}
use Rattle.raw_codegen.proofs.laws.law_blocks.Goals as goal

pub returns : goal.returns
returns c =
    let laws : Laws =
    record {
      start_fits = c.law_fits.ensures.start_fits;
      end_fits = c.law_fits.ensures.end_fits;
      says = c.law_outcome.ensures.says;
      output_exists = c.law_wires.ensures.output_exists;
      to_tile_one = c.law_ends.ensures.to_tile_one;
      to_tile_two = c.law_ends.ensures.to_tile_two;
      from_tile_one = c.law_ends.ensures.from_tile_one;
      from_tile_two = c.law_ends.ensures.from_tile_two;
    } in
    record {
      start = λ set all script. first_stands set all script laws;
      start_idle = first_idle;
      start_ports = first_ports;
      block = block_chunk laws;
      send = λ set all parts rest t memories s. send_chunk laws set all parts rest t memories memories s;
      take = take_chunk laws;
      pass = λ set all parts rest t memories s. pass_chunk laws set all parts rest t memories memories s;
    }
