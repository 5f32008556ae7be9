use Rattle.std.proofs.Common.{◌∙◌, sym, ap, subst}
use Rattle.raw_model.specs.Program.{ProgramSet}
use Rattle.raw_model.specs.Bounds.{all_words}
use Rattle.raw_refute.specs.Answers.{AreRight, IsTried}
use Rattle.raw_refute.proofs.Concluding.{own_count}
use Rattle.raw_refute.proofs.answering.by_runs.Goals as goal

pub refuted_by-requires-clause-right : goal.refuted_by-requires-clause-right
refuted_by-requires-clause-right c = subst (λ (s : ProgramSet). AreRight s c.args.claim.now c.args.places.now c.args.own.now) (sym c.lists.invariant) c.requires.right

pub refuted_by-requires-clause-each : goal.refuted_by-requires-clause-each
refuted_by-requires-clause-each c = c.in_ok-words.ensures ∙ own_count c.args.set.now c.args.claim.now c.args.places.now c.args.own.now c.requires.right ∙ ap all_words (sym c.lists.invariant)

pub lists-preserved : goal.lists-preserved
lists-preserved c =
    subst (IsTried c.lists.set c.args.claim.now c.args.places.now c.refuted_by.new.set) c.in-None.is c.in_ok-tried.ensures ∙ c.lists.invariant

pub returns-in-Some : goal.returns-in-Some
returns-in-Some c =
    subst (λ (s : ProgramSet). IsTried s c.args.claim.now c.args.places.now c.refuted_by.new.set c.in_ok-tried.tried.answer) c.lists.invariant c.in_ok-tried.ensures
