use Rattle.std.proofs.Common.{sym, subst}
use Rattle.std.specs.Prelude.{IfSome}
use Rattle.raw_fabric_step.specs.Units.{mine}
use Rattle.raw_fabric_step.specs.Causes.{ShowsOperand}
use Rattle.raw_fabric_step.specs.Fired.{IsHeldFor}
use Rattle.raw_fabric_step.proofs.Pairing.{held_fetch, first_operand, second_operand}
use Rattle.raw_fabric_step.proofs.Turning.{kept_more, stands_held}
use Rattle.raw_fabric_step.proofs.pairs.take_pair.Goals as goal

pub fetch_where-a-requires-clause-operand : goal.fetch_where-a-requires-clause-operand
fetch_where-a-requires-clause-operand c =
    let r = c.requires in
    first_operand c.args.words.now.key c.args.post.now.p c.args.first c.args.second (mine c.args.seat.now.me.0 c.args.post.now.index) r.may.shown r.takes

pub fetch_where-b-requires-clause-stands : goal.fetch_where-b-requires-clause-stands
fetch_where-b-requires-clause-stands c =
    let u = mine c.args.seat.now.me.0 c.args.post.now.index in
    stands_held c.requires.stands c.fetch_where-a.ensures.kept (subst (IsHeldFor u) (sym c.fetch_where-a.ensures.unit) (held_fetch u c.args.first 0 c.fetch_where-a.result))

pub fetch_where-b-requires-clause-operand : goal.fetch_where-b-requires-clause-operand
fetch_where-b-requires-clause-operand c =
    let r = c.requires in
    let a = c.args.words.now.key in
    let p = c.args.post.now.p in
    let u = mine c.args.seat.now.me.0 c.args.post.now.index in
    let z = mine c.fetch_where-a.new.seat.me.0 c.args.post.now.index in
    subst (λ n. IfSome c.args.second (λ e. ShowsOperand a p z e n)) (sym c.before_second.ensures.value)
    (second_operand a p c.args.first c.args.second u r.may.shown r.takes z (subst (IsHeldFor u) (sym c.fetch_where-a.ensures.unit) (held_fetch u c.args.first 0 c.fetch_where-a.result)))

pub returns-clause-kept : goal.returns-clause-kept
returns-clause-kept c = kept_more c.fetch_where-a.ensures.kept c.fetch_where-b.ensures.kept
