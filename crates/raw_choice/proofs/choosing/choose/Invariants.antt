use Rattle.raw_choice.proofs.Choices.{IsBestOf}
use Rattle.raw_choice.proofs.choosing.choose.Given as goal

abbrev pub invariant-candidates : goal.invariant-candidates
invariant-candidates l = IsBestOf l.flow l.inputs l.best.set l.best.cycles
