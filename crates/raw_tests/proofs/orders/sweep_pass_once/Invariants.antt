use Rattle.raw_fabric.specs.Opened.{about_of, id_of, IsPass}
use Rattle.raw_tests.proofs.orders.sweep_pass_once.Given as goal

abbrev pub invariant-loop-i : goal.invariant-loop-i
invariant-loop-i l = IsPass (about_of l.fabric) (id_of l.fabric) l.fn.pass.log.worker l.pass
