use Rattle.std.proofs.Common.{◌≡◌, ◌%◌, ◌-◌}
use Rattle.raw_fabric_rule.specs.ByEnds.{procs}
use Rattle.raw_fabric.specs.Opened.{about_of, id_of, IsPass}
use Rattle.raw_workers.specs.Swept.{HasSwept}
use Rattle.raw_workers.proofs.drive.sweep.Given as goal

abbrev pub invariant-processors : goal.invariant-processors
invariant-processors g l =
    IsPass (about_of l.fabric) (id_of l.fabric) l.fn.pass.log.worker l.pass
    × HasSwept l.swept l.fn.pass l.pass
    × (l.p % (about_of l.fabric).workers ≡ l.fn.pass.log.worker)

abbrev pub decreases-processors : goal.decreases-processors
decreases-processors g l = procs (about_of l.fabric).set - l.p
