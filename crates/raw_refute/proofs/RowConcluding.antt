-- What is said of a stream, from what runs and the run with terms say.
use Rattle.std.proofs.Common.{◌≡◌, ◌⊎◌, inl, inr, ℕ, suc, ◌^◌, ◌<◌, List, [], ◌∷◌, Option, Some, None, length, drop, refl, ap, ◌∙◌, sym, subst}
use Rattle.std.specs.List.{All}
use Rattle.raw_model.specs.Program.{ProgramSet, PortProgram, IsPortProgram, IsSet}
use Rattle.raw_model.specs.Bounds.{all_words}
use Rattle.raw_model.specs.Fed.{fed, fed_ports}
use Rattle.raw_model.proofs.Fed.{all_at}
use Rattle.raw_stream.specs.Streams.{Stream}
use Rattle.raw_term.specs.declared.verdict.Verdict.{Verdict}
use Rattle.raw_term.specs.declared.verdict.Verdict.TheVariants as verdict
use Rattle.raw_term.specs.Claims.{AreWords}
use Rattle.raw_term.proofs.Own.{own_all}
use Rattle.raw_row_terms.specs.RowClaims.{has_words, takes_in_all, misfed, IsRowsVerdict}
use Rattle.raw_row_terms.specs.Right.{MeetsRows}
use Rattle.raw_prove.proofs.RowJudging.{no_run}
use Rattle.raw_refute.specs.declared.fault.Fault.{Fault}
use Rattle.raw_refute.specs.declared.said.Answer.{Answer}
use Rattle.raw_refute.specs.declared.said.Answer.TheVariants.{Proved, ProvedByRows, Refuted, Unproved}
use Rattle.raw_refute.specs.Answers.{own_words}
use Rattle.raw_refute.specs.RowJudged.{IsRowsJudged}
use Rattle.raw_row_terms.specs.RowClaims.{IsClaimOf}
use Rattle.raw_refute.specs.RowAnswers.{OwnRowsAreRight, AreRowsRight, IsRowsRefutation, IsRowsOpen, IsRowsAnswer, IsRowsTried}
use Rattle.raw_refute.proofs.Fed.{own_each, own_stays}
use Rattle.raw_refute.proofs.RowRefuting.{rows_met, rows_refuted}

-- other words are words of the same ports
port_count : (ports : List PortProgram) (words : List ℕ) → length (fed_ports ports words) ≡ length ports
port_count [] words = refl
port_count (port ∷ ports) words = ap (λ n. suc n) (port_count ports (drop (length port.words) words))

pub claim_fed : (set : ProgramSet) (s : Stream) (order words : List ℕ) → IsClaimOf set s order → IsClaimOf (fed set words) s order
claim_fed set s order words claim = record {
  rows = claim.rows;
  ports = record { sources = claim.ports.sources ∙ sym (port_count set.ports words); sinks = claim.ports.sinks ∙ sym (port_count set.ports words) };
  sinks = claim.sinks;
}

-- a run with words that refutes the stream
pub refutation_so : (set : ProgramSet) (s : Stream) (order : List ℕ) (left : ProgramSet) (words : List ℕ) (fault : Fault) → IsClaimOf set s order → misfed set s ≡ None → length words ≡ all_words set
    → All (λ word. word < 2 ^ 32) words → (words ≡ own_words set) ⊎ OwnRowsAreRight set s order → left ≡ fed set words → IsSet left → IsRowsJudged left s order words (Some fault)
    → IsRowsRefutation set s order left words fault
refutation_so set s order left words fault claim counts each small first is valid judged =
    let are : AreWords set words = record { each = each; words = small } in
    let there : IsRowsJudged (fed set words) s order words (Some fault) = subst (λ (g : ProgramSet). IsRowsJudged g s order words (Some fault)) is judged in
    record {
      counts = counts;
      are = are;
      first = first;
      judged = there;
      refuted = rows_refuted set s order words fault are (subst IsSet is valid) (claim_fed set s order words claim) there;
      fed_so = is;
    }

-- the set's own words: they are its words already
pub own_refutes : (set : ProgramSet) (s : Stream) (order own : List ℕ) (fault : Fault) → IsClaimOf set s order → misfed set s ≡ None → own ≡ own_words set → All (λ word. word < 2 ^ 32) own → IsSet set
    → IsRowsJudged set s order own (Some fault) → IsRowsRefutation set s order set own fault
own_refutes set s order own fault claim counts e small valid judged =
    refutation_so set s order set own fault claim counts (ap length e ∙ own_each set) small (inl e) (sym (ap (fed set) e ∙ own_stays set)) valid judged

-- a set that computes the rows of all words computes those of its own
pub own_met : (set : ProgramSet) (s : Stream) (order : List ℕ) → IsSet set → IsClaimOf set s order → MeetsRows set s → OwnRowsAreRight set s order
own_met set s order valid claim met = λ counts.
    let own : List ℕ = own_words set in
    let are : AreWords set own = record { each = own_each set; words = own_all set.ports (all_at IsPortProgram set.ports valid.port_programs) } in
    subst (λ (g : ProgramSet). IsRowsJudged g s order own None) (own_stays set) (rows_met set s order own (claim_fed set s order own claim) (met own are))

pub are_right : (set : ProgramSet) (s : Stream) (order own : List ℕ) → misfed set s ≡ None → own ≡ own_words set → IsRowsJudged set s order own None → AreRowsRight set s order own
are_right set s order own counts e judged = record {
  are = e;
  counts = counts;
  right = λ _. subst (λ (words : List ℕ). IsRowsJudged set s order words None) e judged;
}

pub own_count : (set : ProgramSet) (s : Stream) (order own : List ℕ) → AreRowsRight set s order own → length own ≡ all_words set
own_count set s order own right = ap length right.are ∙ own_each set

-- other counts: nothing is said of the words
abbrev IsOther : Verdict → Type 0
IsOther (verdict.Proved outs) = ⊥
IsOther _ = Unit {0}

some_none : (q : ℕ) → Some q ≡ None → ⊥
some_none q e = cc e

pub counts_differ : (set : ProgramSet) (s : Stream) (order : List ℕ) (q inputs words : ℕ) → misfed set s ≡ Some q → inputs ≡ takes_in_all s q → words ≡ has_words set q → IsRowsOpen set s order set (verdict.Inputs inputs words)
counts_differ set s order q inputs words e ei ew = record {
  verdict_is = no_run set s order q inputs words e ei ew;
  unproved = λ outs f. subst IsOther f tt;
  own = λ none. absurd (some_none q (sym e ∙ none));
  stays = refl;
}

-- where no words are found
pub none_found : (set : ProgramSet) (s : Stream) (order : List ℕ) (left : ProgramSet) (own : List ℕ) (said : Verdict) → AreRowsRight set s order own → IsRowsVerdict set s order said → ((outs : ℕ) → said ≡ verdict.Proved outs → ⊥)
    → left ≡ set → IsRowsOpen set s order left said
none_found set s order left own said right is unproved stays = record {
  verdict_is = is;
  unproved = unproved;
  own = right.right;
  stays = stays;
}

-- a refutation that was tried is an answer
pub tried_is : (set : ProgramSet) (s : Stream) (order : List ℕ) (left : ProgramSet) (answer : Answer) → IsRowsTried set s order left (Some answer) → IsRowsAnswer set s order left answer
tried_is set s order left (Proved outs) is = absurd is
tried_is set s order left (ProvedByRows outs) is = absurd is
tried_is set s order left (Refuted words fault) is = is
tried_is set s order left (Unproved verdict) is = absurd is
