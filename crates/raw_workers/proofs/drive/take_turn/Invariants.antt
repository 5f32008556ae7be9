use Rattle.raw_fabric.specs.Opened.{about_of, id_of, IsPass}
use Rattle.raw_workers.specs.declared.swept.Swept.TheVariants.{Idle}
use Rattle.raw_workers.specs.Swept.{HasSwept}
use Rattle.raw_workers.proofs.drive.take_turn.Given as goal

abbrev pub invariant-loop-look : goal.invariant-loop-look
invariant-loop-look g l =
    IsPass (about_of l.fabric) (id_of l.fabric) l.fn.pass.log.worker l.pass
    × HasSwept Idle l.fn.pass l.pass
