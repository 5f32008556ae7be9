use Rattle.raw_fabric.specs.Opened.{about_of, id_of, IsPass}
use Rattle.raw_tests.proofs.orders.sweep_pass.Given as goal

abbrev pub invariant-loop : goal.invariant-loop
invariant-loop l = IsPass (about_of l.fabric) (id_of l.fabric) l.fn.pass.log.worker l.pass
