use Rattle.std.proofs.Common.{subst}
use Rattle.raw_fabric.specs.Opened.{about_of, id_of}
use Rattle.raw_fabric.specs.Answers.{IsTurnOf}
use Rattle.raw_fabric.proofs.Early.{early_turn}
use Rattle.raw_fabric.proofs.fabric.Fabric.try_fire.Goals as goal

pub returns-clause-early : goal.returns-clause-early
returns-clause-early c =
    let r = c.requires.stands in
    let e = c.try_fire_at.ensures in
    early_turn (about_of c.args.self.now) (id_of c.args.self.now) c.args.p.0 c.try_fire_at.result c.args.pass.now c.try_fire_at.new.pass r.fabric.valid r.pass e.pass r.holds
    (subst (λ q. IsTurnOf (about_of c.args.self.now) q c.try_fire_at.result c.args.pass.now c.try_fire_at.new.pass) c.post.ensures.number e.turn)
