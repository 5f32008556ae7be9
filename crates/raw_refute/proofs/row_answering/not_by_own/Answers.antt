use Rattle.std.proofs.Common.{refl, subst}
use Rattle.raw_refute.specs.RowAnswers.{IsRowsTried}
use Rattle.raw_term.specs.declared.verdict.Verdict.TheVariants.{Proved}
use Rattle.raw_row_terms.specs.RowClaims.{IsRowsVerdict}
use Rattle.raw_refute.proofs.RowRefuting.{rows_done}
use Rattle.raw_refute.proofs.RowConcluding.{none_found, tried_is}
use Rattle.raw_refute.proofs.row_answering.not_by_own.Goals as goal

pub prove_rows-requires-clause-outcome : goal.prove_rows-requires-clause-outcome
prove_rows-requires-clause-outcome c = rows_done c.args.set.now c.args.stream.now c.args.order.now _ (c.requires.right.right c.requires.right.counts)

pub returns-in-Proved : goal.returns-in-Proved
returns-in-Proved c =
    let said : IsRowsVerdict c.args.set.now c.args.stream.now c.args.order.now (Proved c.in-Proved.outs) =
    subst (IsRowsVerdict c.args.set.now c.args.stream.now c.args.order.now) c.in-Proved.is c.in_ok-proof.ensures.verdict in
    record {
      verdict = said;
      met = record {
        meets = c.in_ok-proof.ensures.meets c.in-Proved.outs c.in-Proved.is;
        rows = c.law_rows_right.ensures.right c.args.set.now c.args.stream.now c.args.order.now c.in-Proved.outs c.requires.valid c.requires.claim.rows c.requires.claim.ports c.requires.claim.sinks said;
        own = c.requires.right.right;
        stays = refl;
      };
    }

pub returns-in-Some : goal.returns-in-Some
returns-in-Some c =
    tried_is c.args.set.now c.args.stream.now c.args.order.now c.looked_for.new.set c.in-Some.answer
    (subst (IsRowsTried c.args.set.now c.args.stream.now c.args.order.now c.looked_for.new.set) c.in-Some.is c.in_ok-found-in_default.ensures)

pub returns-in-None : goal.returns-in-None
returns-in-None c =
    none_found c.args.set.now c.args.stream.now c.args.order.now c.looked_for.new.set c.args.own.now c.in_ok-proof.proof.verdict c.requires.right c.in_ok-proof.ensures.verdict c.in_default.not-Proved
    (subst (IsRowsTried c.args.set.now c.args.stream.now c.args.order.now c.looked_for.new.set) c.in-None.is c.in_ok-found-in_default.ensures)
