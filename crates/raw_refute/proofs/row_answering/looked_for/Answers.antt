use Rattle.std.proofs.Common.{◌≡◌, ◌∙◌, length, subst}
use Rattle.std.specs.Prelude.{IfSome}
use Rattle.raw_refute.proofs.RowConcluding.{own_count}
use Rattle.raw_refute.proofs.row_answering.looked_for.Goals as goal

pub refuted_by-requires-clause-each : goal.refuted_by-requires-clause-each
refuted_by-requires-clause-each c =
    subst (λ found. IfSome found (λ words. length words.items ≡ length c.args.own.now)) c.in-Some-found.is c.in_ok-found.ensures
    ∙ own_count c.args.set.now c.args.stream.now c.args.order.now c.args.own.now c.requires.right
