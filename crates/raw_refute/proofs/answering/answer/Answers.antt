use Rattle.std.proofs.Common.{◌≡◌, ◌∙◌, ◌<◌, ◌^◌, Some, None, Option, List, ℕ, sym, ap, length, subst}
use Rattle.std.specs.List.{All}
use Rattle.raw_model.specs.Bounds.{all_words}
use Rattle.raw_refute.specs.declared.fault.Fault.{Fault}
use Rattle.raw_refute.specs.Judged.{IsJudged}
use Rattle.raw_refute.proofs.Fed.{own_each}
use Rattle.raw_refute.proofs.Concluding.{own_refutes, are_right, counts_differ}
use Rattle.raw_refute.proofs.answering.answer.Goals as goal

pub returns-then-inputs-len : goal.returns-then-inputs-len
returns-then-inputs-len c =
    let own : length c.in_ok-own.own.items ≡ all_words c.args.set.now = ap length c.in_ok-own.ensures ∙ own_each c.args.set.now in
    counts_differ c.args.set.now c.args.claim.now c.args.places.now c.input_count-inputs.result c.len-then-inputs-len.result c.input_count-inputs.ensures
    (c.len-then-inputs-len.ensures ∙ c.in_ok-own.own.ok.0 ∙ own)
    (λ e. c.if-inputs-len.true (e ∙ c.len-then-inputs-len.ensures ∙ sym c.len.ensures))

pub returns-in-Some : goal.returns-in-Some
returns-in-Some c =
    let own : length c.in_ok-own.own.items ≡ all_words c.args.set.now = ap length c.in_ok-own.ensures ∙ own_each c.args.set.now in
    own_refutes c.args.set.now c.args.claim.now c.args.places.now c.in_ok-own.own.items c.in-Some.fault
    (sym c.input_count-inputs.ensures ∙ c.if-inputs-len.false ∙ c.len.ensures ∙ c.in_ok-own.own.ok.0 ∙ own)
    c.in_ok-own.ensures
    (subst (λ (words : List ℕ). All (λ (word : ℕ). word < 2 ^ 32) words) c.deref.ensures.value c.judge.ensures.words) c.judge.ensures.valid
    (subst (λ (words : List ℕ). IsJudged c.args.set.now c.args.claim.now c.args.places.now words (Some c.in-Some.fault)) c.deref.ensures.value
    (subst (λ (fault : Option Fault). IsJudged c.args.set.now c.args.claim.now c.args.places.now c.deref.result.now fault) c.in-Some.is c.in_ok-ran.ensures.judged))

pub not_by_own-requires : goal.not_by_own-requires
not_by_own-requires c =
    let own : length c.in_ok-own.own.items ≡ all_words c.args.set.now = ap length c.in_ok-own.ensures ∙ own_each c.args.set.now in
    let again : c.deref-in-None.result.now ≡ c.in_ok-own.own.items = c.deref-in-None.ensures.value in
    record {
      right = are_right c.args.set.now c.args.claim.now c.args.places.now c.deref-in-None.result.now
          (sym c.input_count-inputs.ensures ∙ c.if-inputs-len.false ∙ c.len.ensures ∙ c.in_ok-own.own.ok.0 ∙ own)
          (again ∙ c.in_ok-own.ensures)
          (subst (λ (words : List ℕ). IsJudged c.args.set.now c.args.claim.now c.args.places.now words None) (c.deref.ensures.value ∙ sym again)
          (subst (λ (fault : Option Fault). IsJudged c.args.set.now c.args.claim.now c.args.places.now c.deref.result.now fault) c.in-None.is c.in_ok-ran.ensures.judged));
    }
