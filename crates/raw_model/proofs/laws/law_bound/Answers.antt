use Rattle.raw_model.proofs.Finite.{no_longer, some_rest, some_run, lawful_short}
use Rattle.raw_model.proofs.laws.law_bound.Goals as goal

pub returns : goal.returns
returns c = record {
  most_steps = λ set h valid lawful. lawful_short set valid h lawful;
  no_longer = no_longer;
  some_run = some_run;
  some_rest = some_rest;
}
