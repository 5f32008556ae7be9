use Rattle.std.proofs.Common.{◌≡◌, ◌∙◌, ◌<◌, ◌^◌, inr, Option, Some, List, ℕ, length, sym, ap, subst}
use Rattle.std.specs.List.{All}
use Rattle.raw_model.specs.Program.{ProgramSet}
use Rattle.raw_model.specs.Bounds.{all_words}
use Rattle.raw_model.specs.Fed.{fed}
use Rattle.raw_refute.specs.declared.fault.Fault.{Fault}
use Rattle.raw_refute.specs.Judged.{IsJudged}
use Rattle.raw_refute.proofs.Fed.{own_each, own_again, fed_words}
use Rattle.raw_refute.proofs.Concluding.{refutation_so}
use Rattle.raw_refute.proofs.answering.refuted_by.Goals as goal

pub returns-in-Some : goal.returns-in-Some
returns-in-Some c =
    let there : c.feed.new.set ≡ fed c.args.set.now c.args.words.items = c.feed.ensures ∙ ap (fed c.args.set.now) c.deref.ensures.value in
    refutation_so c.args.set.now c.args.claim.now c.args.places.now c.feed.new.set c.args.words.items c.in-Some.fault c.requires.right.counts c.requires.each
    (subst (λ (words : List ℕ). All (λ (word : ℕ). word < 2 ^ 32) words) c.deref-2.ensures.value c.judge.ensures.words) (inr c.requires.right.right) there c.judge.ensures.valid
    (subst (λ (words : List ℕ). IsJudged c.feed.new.set c.args.claim.now c.args.places.now words (Some c.in-Some.fault)) c.deref-2.ensures.value
    (subst (λ (fault : Option Fault). IsJudged c.feed.new.set c.args.claim.now c.args.places.now c.deref-2.result.now fault) c.in-Some.is c.in_ok-ran.ensures.judged))

pub feed-requires-in-None : goal.feed-requires-in-None
feed-requires-in-None c =
    let there : c.feed.new.set ≡ fed c.args.set.now c.args.words.items = c.feed.ensures ∙ ap (fed c.args.set.now) c.deref.ensures.value in
    ap length c.requires.right.are ∙ own_each c.args.set.now ∙ sym (ap all_words there ∙ fed_words c.args.set.now c.args.words.items c.requires.each)

pub returns-in-None : goal.returns-in-None
returns-in-None c =
    let there : c.feed.new.set ≡ fed c.args.set.now c.args.words.items = c.feed.ensures ∙ ap (fed c.args.set.now) c.deref.ensures.value in
    c.feed-in-None.ensures
    ∙ ap (λ (s : ProgramSet). fed s c.args.own.now) there
    ∙ ap (λ (own : List ℕ). fed (fed c.args.set.now c.args.words.items) own) c.requires.right.are
    ∙ own_again c.args.set.now c.args.words.items c.requires.each
