-- What the ends of a run say of a stream.
use Rattle.std.proofs.Common.{◌≡◌, ℕ, List, Some, Ok, Err, refl, sym, subst}
use Rattle.std.specs.Prelude.{Result, IfOk}
use Rattle.raw_model.specs.Program.{ProgramSet, IsSet}
use Rattle.raw_model.specs.Waits.{waits_for}
use Rattle.raw_model.specs.Outcomes.{outcome}
use Rattle.raw_outcome.specs.declared.ends.Outcome.{Outcome as Answer}
use Rattle.raw_outcome.specs.declared.ends.Outcome.TheVariants as answer
use Rattle.raw_outcome.specs.Told.{told}
use Rattle.raw_stream.specs.Streams.{Stream}
use Rattle.raw_stream.specs.Unrolled.{unrolled}
use Rattle.raw_term.specs.declared.verdict.Verdict.{Verdict}
use Rattle.raw_term.specs.declared.verdict.Verdict.TheVariants.{Proved, Inputs, Rests}
use Rattle.raw_term.specs.TermMachine.{TermState, numbered}
use Rattle.raw_term.specs.Claims.{Meets}
use Rattle.raw_term.specs.Verdicts.{TermRun, HasEnded}
use Rattle.raw_row_terms.specs.RowClaims.{has_words, takes_in_all, misfed, misgot, IsOfRowCounts, IsSaidOfRows, IsOfRowsAtRest, IsOfRowsRun, IsRowsVerdictOfRun, IsRowsVerdictWhere, IsRowsVerdict, HasRows, HasPortsOf, AreSinksOf, EachRowsProvedAreMet}
use Rattle.raw_prove.specs.declared.machine.Machine.{Machine}
use Rattle.raw_prove.specs.declared.proof.Proof.{Proof}
use Rattle.raw_prove.specs.declared.running.End.TheVariants as run
use Rattle.raw_prove.specs.Units.{state_of}
use Rattle.raw_prove.specs.Runs.{RestsAt}

-- the counts of words by port
pub no_run : (set : ProgramSet) (s : Stream) (order : List ℕ) (q inputs words : ℕ) → misfed set s ≡ Some q → inputs ≡ takes_in_all s q → words ≡ has_words set q → IsRowsVerdict set s order (Inputs inputs words)
no_run set s order q inputs words e ei ew = subst (λ o. IsRowsVerdictWhere o set s order (Inputs inputs words)) (sym e) (λ k. Inputs (ei k) (ew k))

-- a run that rests
pub rests_so : (set : ProgramSet) (s : Stream) (order : List ℕ) (m : Machine) (verdict : Verdict) → RestsAt set m → IsOfRowsAtRest set s order (state_of m) verdict → IsRowsVerdictOfRun set s order verdict
rests_so set s order m verdict rests is = record {
  sweeps = rests.sweeps;
  ended = subst (λ (r : TermRun). HasEnded (numbered set) r r.broken) (sym rests.there) rests.quiet;
  is = subst (λ (r : TermRun). IsOfRowsRun set s order r verdict r.broken) (sym rests.there) is;
}

pub done_of : {E : Type 0} (set : ProgramSet) (s : Stream) (order : List ℕ) (at : TermState) (how : Answer) → told (waits_for (numbered set) at.state) how ≡ outcome (numbered set) at.state → how ≡ answer.Done
    → (result : Result Verdict E) → IfOk result (IsOfRowCounts (misgot set s at.state) set s order at) → IfOk result (IsOfRowsAtRest set s order at)
done_of set s order at how tells done (Err e) h = tt
done_of set s order at how tells done (Ok verdict) h = record { how = how; tells = tells; is = subst (λ (k : Answer). IsSaidOfRows k set s order at verdict) (sym done) h }

pub rest_of : (set : ProgramSet) (s : Stream) (order : List ℕ) (at : TermState) (how : Answer) → told (waits_for (numbered set) at.state) how ≡ outcome (numbered set) at.state → (how ≡ answer.Done → ⊥)
    → IsOfRowsAtRest set s order at (Rests how)
rest_of set s order at how tells other = record { how = how; tells = tells; is = by how other } where
  by : (k : Answer) → (k ≡ answer.Done → ⊥) → IsSaidOfRows k set s order at (Rests k)
  by answer.Done h = absurd (h refl)
  by (answer.Deadlock least many) h = refl
  by (answer.Trapped p) h = refl
  by (answer.Limit p) h = refl
  by (answer.Stuck p) h = refl

-- a stream that is proved is met
pub met_so : {E : Type 0} (set : ProgramSet) (s : Stream) (order : List ℕ) (result : Result Proof E) → EachRowsProvedAreMet → IsSet set → HasRows s → HasPortsOf set s → AreSinksOf s order
    → IfOk result (λ proof. IsRowsVerdict set s order proof.verdict) → IfOk result (λ proof. (n : ℕ) → proof.verdict ≡ Proved n → Meets set (unrolled s))
met_so set s order (Ok proof) law valid rows ports sinks h = λ n e. law set s order n valid rows ports sinks (subst (λ verdict. IsRowsVerdict set s order verdict) e h)
met_so set s order (Err e) law valid rows ports sinks h = tt
