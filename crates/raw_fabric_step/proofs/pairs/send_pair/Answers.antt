use Rattle.std.proofs.Common.{sym, subst}
use Rattle.raw_fabric_step.specs.Units.{mine}
use Rattle.raw_fabric_step.specs.Fired.{IsHeldFor}
use Rattle.raw_fabric_step.proofs.Pairing.{held_stage}
use Rattle.raw_fabric_step.proofs.Turning.{kept_more, stands_held}
use Rattle.raw_fabric_step.proofs.pairs.send_pair.Goals as goal

pub stage_where-requires-2-clause-stands : goal.stage_where-requires-2-clause-stands
stage_where-requires-2-clause-stands c =
    let u = mine c.args.seat.now.me.0 c.args.post.now.index in
    stands_held c.requires.stands c.stage_where.ensures.kept (subst (IsHeldFor u) (sym c.stage_where.ensures.unit) (held_stage u 14 c.args.first))

pub returns-clause-kept : goal.returns-clause-kept
returns-clause-kept c = kept_more c.stage_where.ensures.kept c.stage_where-2.ensures.kept
