use Rattle.raw_stream_choice.proofs.Placed.{compiled_meets}
use Rattle.raw_stream_choice.proofs.laws.law_compiled_meets.Goals as goal

pub returns : goal.returns
returns c =
    compiled_meets (record {
      placed = c.law_placed.ensures;
      right = c.law_streams.ensures;
      sets = c.law_stream_sets.ensures;
      rows = c.law_unrolled.ensures.rows;
      run = c.law_serial.ensures.run;
      start_fits = c.law_fits.ensures.start_fits;
      end_fits = c.law_fits.ensures.end_fits;
    })
