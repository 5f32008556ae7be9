use Rattle.raw_model.proofs.Needed.{takes_there, sends_there}
use Rattle.raw_model.proofs.Given.{all_named_given}
use Rattle.raw_model.proofs.laws.law_needs.Goals as goal

pub returns : goal.returns
returns c = record {
  takes = λ set p l end w below here. takes_there set p end w below (λ i j. c.law_wires.ensures.one_input set.topo p p i j w) l here;
  sends = λ set p l end w below here. sends_there set p end w below (λ i j. c.law_wires.ensures.one_output set.topo p p i j w) l here;
  given = λ set p l ins values valid. all_named_given set valid p l ins values;
}
