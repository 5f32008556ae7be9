use Rattle.raw_fabric.specs.Opened.{about_of, id_of, ArePasses}
use Rattle.raw_tests.proofs.orders.sweep_fabric.Given as goal

abbrev pub invariant-loop : goal.invariant-loop
invariant-loop l = ArePasses (about_of l.fabric) (id_of l.fabric) l.passes
