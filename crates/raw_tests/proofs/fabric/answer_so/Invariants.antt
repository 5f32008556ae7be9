use Rattle.raw_fabric.specs.Opened.{about_of, id_of, ArePasses}
use Rattle.raw_tests.proofs.fabric.answer_so.Given as goal

abbrev pub invariant-loop-entry : goal.invariant-loop-entry
invariant-loop-entry l = ArePasses (about_of l.fabric) (id_of l.fabric) l.passes
