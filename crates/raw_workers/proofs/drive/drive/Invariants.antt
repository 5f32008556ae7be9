use Rattle.std.proofs.Common.{◌-◌, vec_len}
use Rattle.raw_fabric.specs.Opened.{about_of, id_of, IsPass}
use Rattle.raw_workers.proofs.drive.drive.Given as goal

abbrev pub invariant-steps : goal.invariant-steps
invariant-steps g l = IsPass (about_of l.fabric) (id_of l.fabric) l.fn.pass.log.worker l.pass

abbrev pub decreases-steps : goal.decreases-steps
decreases-steps g l = l.room - vec_len l.pass.log.steps
