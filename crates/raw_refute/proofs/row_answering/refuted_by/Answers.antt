use Rattle.std.proofs.Common.{◌≡◌, ◌∙◌, ◌<◌, ◌^◌, inr, Option, Some, List, ℕ, length, sym, ap, subst, arith}
use Rattle.std.specs.List.{All}
use Rattle.raw_model.specs.Program.{ProgramSet}
use Rattle.raw_model.specs.Bounds.{all_words}
use Rattle.raw_model.specs.Fed.{fed}
use Rattle.raw_refute.specs.declared.fault.Fault.{Fault}
use Rattle.raw_refute.specs.RowJudged.{IsRowsJudged}
use Rattle.raw_refute.proofs.Fed.{own_each, own_again, fed_words}
use Rattle.raw_row_terms.proofs.Meeting.{words_are}
use Rattle.raw_row_terms.specs.RowClaims.{IsClaimOf}
use Rattle.raw_refute.proofs.RowConcluding.{claim_fed, refutation_so}
use Rattle.raw_refute.proofs.row_answering.refuted_by.Goals as goal

pub judge_rows-requires-clause-claim : goal.judge_rows-requires-clause-claim
judge_rows-requires-clause-claim c =
    let there : c.feed.new.set ≡ fed c.args.set.now c.args.words.items = c.feed.ensures ∙ ap (fed c.args.set.now) c.deref.ensures.value in
    subst (λ (s : ProgramSet). IsClaimOf s c.args.stream.now c.args.order.now) (sym there) (claim_fed c.args.set.now c.args.stream.now c.args.order.now c.args.words.items c.requires.stands.claim)

pub judge_rows-requires-clause-words : goal.judge_rows-requires-clause-words
judge_rows-requires-clause-words c =
    let all = words_are c.args.set.now c.args.stream.now c.requires.stands.claim.ports c.requires.stands.right.counts in
    record {
      few = omega (arith, all, c.requires.stands.valid.totals.words);
      each = ap length c.deref-2.ensures.value ∙ c.requires.each ∙ sym all;
    }

pub returns-in-Some : goal.returns-in-Some
returns-in-Some c =
    let there : c.feed.new.set ≡ fed c.args.set.now c.args.words.items = c.feed.ensures ∙ ap (fed c.args.set.now) c.deref.ensures.value in
    refutation_so c.args.set.now c.args.stream.now c.args.order.now c.feed.new.set c.args.words.items c.in-Some.fault c.requires.stands.claim c.requires.stands.right.counts c.requires.each
    (subst (λ (words : List ℕ). All (λ (word : ℕ). word < 2 ^ 32) words) c.deref-2.ensures.value c.judge_rows.ensures.words) (inr c.requires.stands.right.right) there c.judge_rows.ensures.valid
    (subst (λ (words : List ℕ). IsRowsJudged c.feed.new.set c.args.stream.now c.args.order.now words (Some c.in-Some.fault)) c.deref-2.ensures.value
    (subst (λ (fault : Option Fault). IsRowsJudged c.feed.new.set c.args.stream.now c.args.order.now c.deref-2.result.now fault) c.in-Some.is c.in_ok-ran.ensures.judged))

pub feed-requires-in-None : goal.feed-requires-in-None
feed-requires-in-None c =
    let there : c.feed.new.set ≡ fed c.args.set.now c.args.words.items = c.feed.ensures ∙ ap (fed c.args.set.now) c.deref.ensures.value in
    ap length c.requires.stands.right.are ∙ own_each c.args.set.now ∙ sym (ap all_words there ∙ fed_words c.args.set.now c.args.words.items c.requires.each)

pub returns-in-None : goal.returns-in-None
returns-in-None c =
    let there : c.feed.new.set ≡ fed c.args.set.now c.args.words.items = c.feed.ensures ∙ ap (fed c.args.set.now) c.deref.ensures.value in
    c.feed-in-None.ensures
    ∙ ap (λ (s : ProgramSet). fed s c.args.own.now) there
    ∙ ap (λ (own : List ℕ). fed (fed c.args.set.now c.args.words.items) own) c.requires.stands.right.are
    ∙ own_again c.args.set.now c.args.words.items c.requires.each
