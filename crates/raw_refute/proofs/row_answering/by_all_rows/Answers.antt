use Rattle.std.proofs.Common.{◌≡◌, ◌∙◌, ◌<◌, ◌^◌, Some, None, Option, List, ℕ, sym, ap, length, subst, arith}
use Rattle.std.specs.List.{All}
use Rattle.raw_row_terms.proofs.Meeting.{words_are}
use Rattle.raw_refute.specs.declared.fault.Fault.{Fault}
use Rattle.raw_refute.specs.RowJudged.{IsRowsJudged}
use Rattle.raw_refute.proofs.Fed.{own_each}
use Rattle.raw_refute.proofs.RowConcluding.{own_refutes, are_right}
use Rattle.raw_refute.proofs.row_answering.by_all_rows.Goals as goal

pub judge_rows-requires-clause-words : goal.judge_rows-requires-clause-words
judge_rows-requires-clause-words c =
    let all = words_are c.args.set.now c.args.stream.now c.requires.claim.ports c.requires.counts in
    record {
      few = omega (arith, all, c.requires.valid.totals.words);
      each = ap length (c.deref.ensures.value ∙ c.in_ok-own.ensures) ∙ own_each c.args.set.now ∙ sym all;
    }

pub returns-in-Some : goal.returns-in-Some
returns-in-Some c =
    own_refutes c.args.set.now c.args.stream.now c.args.order.now c.in_ok-own.own.items c.in-Some.fault c.requires.claim c.requires.counts c.in_ok-own.ensures
    (subst (λ (words : List ℕ). All (λ (word : ℕ). word < 2 ^ 32) words) c.deref.ensures.value c.judge_rows.ensures.words) c.requires.valid
    (subst (λ (words : List ℕ). IsRowsJudged c.args.set.now c.args.stream.now c.args.order.now words (Some c.in-Some.fault)) c.deref.ensures.value
    (subst (λ (fault : Option Fault). IsRowsJudged c.args.set.now c.args.stream.now c.args.order.now c.deref.result.now fault) c.in-Some.is c.in_ok-ran.ensures.judged))

pub not_by_own-requires : goal.not_by_own-requires
not_by_own-requires c =
    let again : c.deref-in-None.result.now ≡ c.in_ok-own.own.items = c.deref-in-None.ensures.value in
    record {
      valid = c.requires.valid;
      claim = c.requires.claim;
      right = are_right c.args.set.now c.args.stream.now c.args.order.now c.deref-in-None.result.now c.requires.counts (again ∙ c.in_ok-own.ensures)
          (subst (λ (words : List ℕ). IsRowsJudged c.args.set.now c.args.stream.now c.args.order.now words None) (c.deref.ensures.value ∙ sym again)
          (subst (λ (fault : Option Fault). IsRowsJudged c.args.set.now c.args.stream.now c.args.order.now c.deref.result.now fault) c.in-None.is c.in_ok-ran.ensures.judged));
    }
