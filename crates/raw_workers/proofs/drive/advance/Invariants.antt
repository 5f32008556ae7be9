use Rattle.std.proofs.Common.{◌≡◌, ◌+◌, ◌*◌, vec_len}
use Rattle.std.specs.Prelude.{if◌then◌else◌}
use Rattle.raw_fabric.specs.Opened.{about_of, id_of, IsPass}
use Rattle.raw_fabric.specs.Owing.{owing}
use Rattle.raw_workers.proofs.drive.advance.Given as goal

abbrev pub invariant-turns : goal.invariant-turns
invariant-turns g l =
    IsPass (about_of l.fabric) (id_of l.fabric) l.fn.pass.log.worker l.pass
    × (vec_len l.pass.log.steps ≡ vec_len l.fn.pass.log.steps)

abbrev pub decreases-turns : goal.decreases-turns
decreases-turns g l = 2 * owing l.pass + (if l.rests then 0 else 1)
