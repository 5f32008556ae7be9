use Rattle.std.proofs.Common.{◌+◌, ◌%◌, ℕ, ap, ◌∙◌, subst}
use Rattle.std.proofs.Math.Nat.{add-mod_right}
use Rattle.raw_fabric.specs.Opened.{about_of, id_of, IsPass}
use Rattle.raw_workers.proofs.drive.sweep.Goals as goal

pub processors-preserved : goal.processors-preserved
processors-preserved g c =
    let a = about_of c.args.fabric.now in
    let inv = c.processors.invariant in
    let n : ℕ = a.workers in (
      subst (λ k. IsPass a (id_of c.args.fabric.now) k c.visit-next.new.pass) inv.0.worker_is c.visit-next.ensures.pass,
      c.then-swept.ensures c.args.pass.now c.processors.pass c.visit-next.new.pass inv.1 c.visit-next.ensures.swept,
      ap (λ k. (c.processors.p + k) % n) c.workers-workers.ensures.workers ∙ add-mod_right c.processors.p n ∙ inv.2,
    )
