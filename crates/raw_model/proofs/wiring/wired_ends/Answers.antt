use Rattle.raw_model.proofs.EndTests.{wired_end}
use Rattle.raw_model.proofs.wiring.wired_ends.Goals as goal

pub returns : goal.returns
returns c = rw (← c.position_of-x.ensures.there) (record {
  inputs = λ end. wired_end c.ends_of.result.inputs end _ (c.ends_of.ensures.inputs end);
  outputs = λ end. wired_end c.ends_of.result.outputs end _ (c.ends_of.ensures.outputs end);
})
