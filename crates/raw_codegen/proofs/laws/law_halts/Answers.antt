use Rattle.raw_codegen.proofs.AtRest.{comes_to_rest}
use Rattle.raw_codegen.proofs.Given.{Laws}
use Rattle.raw_codegen.proofs.laws.law_halts.Goals as goal

pub returns : goal.returns
returns c =
    let laws : Laws =
    record {
      start_fits = c.law_fits.ensures.start_fits;
      end_fits = c.law_fits.ensures.end_fits;
      says = c.law_outcome.ensures.says;
      output_exists = c.law_wires.ensures.output_exists;
      to_tile_one = c.law_ends.ensures.to_tile_one;
      to_tile_two = c.law_ends.ensures.to_tile_two;
      from_tile_one = c.law_ends.ensures.from_tile_one;
      from_tile_two = c.law_ends.ensures.from_tile_two;
    } in
    comes_to_rest laws
