use Rattle.std.proofs.lemmas.Result.{IfOk-weaker}
use Rattle.raw_lengths.proofs.seeking.go_to.Goals as goal

pub returns : goal.returns
returns c = IfOk-weaker c.go_along.result _ _ (λ goes kept e. kept e 0 c.requires) c.go_along.ensures.kept
