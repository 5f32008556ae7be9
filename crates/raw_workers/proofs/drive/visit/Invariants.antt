use Rattle.raw_fabric.specs.Opened.{about_of, id_of, IsPass, Holds}
use Rattle.raw_workers.specs.Swept.{HasSwept}
use Rattle.raw_workers.proofs.drive.visit.Given as goal

abbrev pub invariant-loop-row : goal.invariant-loop-row
invariant-loop-row g l =
    IsPass (about_of l.fabric) (id_of l.fabric) l.fn.pass.log.worker l.pass
    × HasSwept l.swept l.fn.pass l.pass
    × Holds (about_of l.fabric) l.pass l.q.0
    × Holds (about_of l.fabric) l.pass l.p.0
