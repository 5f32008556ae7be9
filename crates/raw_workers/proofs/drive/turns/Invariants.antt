use Rattle.raw_fabric.specs.Opened.{about_of, id_of, IsPostOf, IsPass, Holds}
use Rattle.raw_workers.specs.Swept.{HasSwept}
use Rattle.raw_workers.proofs.drive.turns.Given as goal

abbrev pub invariant-loop-row : goal.invariant-loop-row
invariant-loop-row g l =
    IsPass (about_of l.fabric) (id_of l.fabric) l.fn.pass.log.worker l.pass
    × HasSwept l.swept l.fn.pass l.pass
    × IsPostOf l.fabric l.post
    × Holds (about_of l.fabric) l.pass l.post.p
