use Rattle.std.proofs.Common.{refl, subst}
use Rattle.raw_refute.specs.Answers.{IsTried}
use Rattle.raw_term.specs.Verdicts.{IsVerdict}
use Rattle.raw_refute.proofs.Refuting.{done_so}
use Rattle.raw_refute.proofs.Concluding.{none_found, tried_is}
use Rattle.raw_refute.proofs.answering.not_by_own.Goals as goal

pub prove-requires : goal.prove-requires
prove-requires c = record { outcome = done_so c.args.set.now c.args.claim.now c.args.places.now _ (c.requires.right.right c.requires.right.counts) }

pub returns-in-Proved : goal.returns-in-Proved
returns-in-Proved c = record {
  verdict = subst (IsVerdict c.args.set.now c.args.claim.now c.args.places.now) c.in-Proved.is c.in_ok-proof.ensures.verdict;
  meets = c.in_ok-proof.ensures.meets c.in-Proved.outs c.in-Proved.is;
  own = c.requires.right.right;
  stays = refl;
}

pub returns-in-Some : goal.returns-in-Some
returns-in-Some c =
    tried_is c.args.set.now c.args.claim.now c.args.places.now c.looked_for.new.set c.in-Some.answer
    (subst (IsTried c.args.set.now c.args.claim.now c.args.places.now c.looked_for.new.set) c.in-Some.is c.in_ok-found-in_default.ensures)

pub returns-in-None : goal.returns-in-None
returns-in-None c =
    none_found c.args.set.now c.args.claim.now c.args.places.now c.looked_for.new.set c.args.own.now c.in_ok-proof.proof.verdict c.requires.right c.in_ok-proof.ensures.verdict c.in_default.not-Proved
    (subst (IsTried c.args.set.now c.args.claim.now c.args.places.now c.looked_for.new.set) c.in-None.is c.in_ok-found-in_default.ensures)
