use Rattle.std.proofs.Common.{◌∙◌, sym, ap, subst}
use Rattle.raw_model.specs.Program.{ProgramSet}
use Rattle.raw_model.specs.Bounds.{all_words}
use Rattle.raw_refute.specs.RowAnswers.{IsRowsTried}
use Rattle.raw_refute.specs.RowStanding.{OwnRowsStand}
use Rattle.raw_refute.proofs.RowConcluding.{own_count}
use Rattle.raw_refute.proofs.row_answering.by_runs.Goals as goal

pub refuted_by-requires-clause-stands : goal.refuted_by-requires-clause-stands
refuted_by-requires-clause-stands c = subst (λ (s : ProgramSet). OwnRowsStand s c.args.stream.now c.args.order.now c.args.own.now) (sym c.lists.invariant) c.requires

pub refuted_by-requires-clause-each : goal.refuted_by-requires-clause-each
refuted_by-requires-clause-each c = c.in_ok-words.ensures ∙ own_count c.args.set.now c.args.stream.now c.args.order.now c.args.own.now c.requires.right ∙ ap all_words (sym c.lists.invariant)

pub lists-preserved : goal.lists-preserved
lists-preserved c =
    subst (IsRowsTried c.lists.set c.args.stream.now c.args.order.now c.refuted_by.new.set) c.in-None.is c.in_ok-tried.ensures ∙ c.lists.invariant

pub returns-in-Some : goal.returns-in-Some
returns-in-Some c =
    subst (λ (s : ProgramSet). IsRowsTried s c.args.stream.now c.args.order.now c.refuted_by.new.set c.in_ok-tried.tried.answer) c.lists.invariant c.in_ok-tried.ensures
