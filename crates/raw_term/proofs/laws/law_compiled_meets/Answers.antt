use Rattle.raw_term.proofs.CompiledFlows.{compiled_meets}
use Rattle.raw_term.proofs.laws.law_compiled_meets.Goals as goal

pub returns : goal.returns
returns c =
    compiled_meets (record {
      right = c.law_flow.ensures;
      sets = c.law_compiled.ensures;
      run = c.law_serial.ensures.run;
      start_fits = c.law_fits.ensures.start_fits;
      end_fits = c.law_fits.ensures.end_fits;
    })
