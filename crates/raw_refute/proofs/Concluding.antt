-- What is said of a claim, from what runs and the run with terms say.
use Rattle.std.proofs.Common.{◌≡◌, ◌⊎◌, inl, inr, ℕ, ◌^◌, ◌<◌, List, Option, Some, None, length, refl, ap, ◌∙◌, sym, subst}
use Rattle.std.specs.List.{All}
use Rattle.raw_model.specs.Program.{ProgramSet, IsSet}
use Rattle.raw_model.specs.Bounds.{all_words}
use Rattle.raw_model.specs.Fed.{fed}
use Rattle.raw_flow.specs.Flows.{Dataflow, inputs_in}
use Rattle.raw_term.specs.declared.verdict.Verdict.{Verdict}
use Rattle.raw_term.specs.declared.verdict.Verdict.TheVariants as verdict
use Rattle.raw_term.specs.declared.place.Place.{Place}
use Rattle.raw_term.specs.Claims.{AreWords}
use Rattle.raw_term.specs.Verdicts.{IsVerdict}
use Rattle.raw_prove.proofs.Judging.{no_run}
use Rattle.raw_refute.specs.declared.fault.Fault.{Fault}
use Rattle.raw_refute.specs.declared.said.Answer.{Answer}
use Rattle.raw_refute.specs.declared.said.Answer.TheVariants.{Proved, ProvedByRows, Refuted, Unproved}
use Rattle.raw_refute.specs.Judged.{IsJudged}
use Rattle.raw_refute.specs.Answers.{own_words, OwnWordsAreRight, AreRight, IsProof, IsRefutation, IsOpen, IsAnswer, IsTried}
use Rattle.raw_refute.proofs.Fed.{own_each, own_stays}
use Rattle.raw_refute.proofs.Refuting.{refuted_so}

-- a run with words that refutes the claim
pub refutation_so : (set : ProgramSet) (flow : Dataflow) (places : List Place) (left : ProgramSet) (words : List ℕ) (fault : Fault) → inputs_in flow.nodes ≡ all_words set → length words ≡ all_words set → All (λ word. word < 2 ^ 32) words
    → (words ≡ own_words set) ⊎ OwnWordsAreRight set flow places → left ≡ fed set words → IsSet left → IsJudged left flow places words (Some fault) → IsRefutation set flow places left words fault
refutation_so set flow places left words fault counts each small first is valid judged =
    let are : AreWords set words = record { each = each; words = small } in
    let there : IsJudged (fed set words) flow places words (Some fault) = subst (λ (s : ProgramSet). IsJudged s flow places words (Some fault)) is judged in
    record {
      counts = counts;
      are = are;
      first = first;
      judged = there;
      refuted = refuted_so set flow places words fault are (subst IsSet is valid) there;
      fed_so = is;
    }

-- the set's own words: they are its words already
pub own_refutes : (set : ProgramSet) (flow : Dataflow) (places : List Place) (own : List ℕ) (fault : Fault) → inputs_in flow.nodes ≡ all_words set → own ≡ own_words set → All (λ word. word < 2 ^ 32) own → IsSet set
    → IsJudged set flow places own (Some fault) → IsRefutation set flow places set own fault
own_refutes set flow places own fault counts e small valid judged =
    refutation_so set flow places set own fault counts (ap length e ∙ own_each set) small (inl e) (sym (ap (fed set) e ∙ own_stays set)) valid judged

pub are_right : (set : ProgramSet) (flow : Dataflow) (places : List Place) (own : List ℕ) → inputs_in flow.nodes ≡ all_words set → own ≡ own_words set → IsJudged set flow places own None → AreRight set flow places own
are_right set flow places own counts e judged = record {
  are = e;
  counts = counts;
  right = λ _. subst (λ (words : List ℕ). IsJudged set flow places words None) e judged;
}

pub own_count : (set : ProgramSet) (flow : Dataflow) (places : List Place) (own : List ℕ) → AreRight set flow places own → length own ≡ all_words set
own_count set flow places own right = ap length right.are ∙ own_each set

-- other counts: nothing is said of the words
abbrev IsOther : Verdict → Type 0
IsOther (verdict.Proved outs) = ⊥
IsOther _ = Unit {0}

pub counts_differ : (set : ProgramSet) (flow : Dataflow) (places : List Place) (inputs words : ℕ) → inputs ≡ inputs_in flow.nodes → words ≡ all_words set → (inputs ≡ words → ⊥) → IsOpen set flow places set (verdict.Inputs inputs words)
counts_differ set flow places inputs words ei ew other = record {
  verdict_is = no_run set flow places inputs words ei ew other;
  unproved = λ outs e. subst IsOther e tt;
  own = λ counts. absurd (other (ei ∙ counts ∙ sym ew));
  stays = refl;
}

-- where no words are found
pub none_found : (set : ProgramSet) (flow : Dataflow) (places : List Place) (left : ProgramSet) (own : List ℕ) (said : Verdict) → AreRight set flow places own → IsVerdict set flow places said → ((outs : ℕ) → said ≡ verdict.Proved outs → ⊥)
    → left ≡ set → IsOpen set flow places left said
none_found set flow places left own said right is unproved stays = record {
  verdict_is = is;
  unproved = unproved;
  own = right.right;
  stays = stays;
}

-- a refutation that was tried is an answer
pub tried_is : (set : ProgramSet) (flow : Dataflow) (places : List Place) (left : ProgramSet) (answer : Answer) → IsTried set flow places left (Some answer) → IsAnswer set flow places left answer
tried_is set flow places left (Proved outs) is = absurd is
tried_is set flow places left (ProvedByRows outs) is = absurd is
tried_is set flow places left (Refuted words fault) is = is
tried_is set flow places left (Unproved verdict) is = absurd is
