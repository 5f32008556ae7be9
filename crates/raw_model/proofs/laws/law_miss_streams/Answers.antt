use Rattle.raw_model.proofs.Alike.{starts, run_alike, rest_alike}
use Rattle.raw_model.proofs.laws.law_miss_streams.Goals as goal

pub returns : goal.returns
returns c = record {
  start = starts;
  runs = λ a b steps alike. run_alike a b alike steps;
  rests = λ a b s alike. rest_alike a b alike s;
}
