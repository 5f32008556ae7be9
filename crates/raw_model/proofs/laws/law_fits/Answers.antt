use Rattle.raw_model.proofs.Fitting.{step_fits, end_fits}
use Rattle.raw_model.proofs.Starting.{start_fits}
use Rattle.raw_model.proofs.laws.law_fits.Goals as goal

pub returns : goal.returns
returns c = record {
  start_fits = start_fits;
  step_fits = λ set s p valid. step_fits set valid s p;
  end_fits = λ set s h valid. end_fits set valid s h;
}
