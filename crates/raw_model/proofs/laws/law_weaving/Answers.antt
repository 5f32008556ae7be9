use Rattle.raw_model.proofs.Joining.{one_is_left, some_goes_on, all_spent, joined_alike}
use Rattle.raw_model.proofs.laws.law_weaving.Goals as goal

pub returns : goal.returns
returns c = record {
  taken = λ set s logs w p rest steps valid. one_is_left set s logs valid w p rest steps;
  goes_on = some_goes_on;
  spent = all_spent;
  same_end = λ set s logs h g valid. joined_alike set s logs valid h g;
}
