-- Why a place is refused.
use Rattle.std.proofs.Common.{◌≡◌, ◌∙◌, ℕ, ◌+◌, ◌≤◌, Option, Result, Ok, Err, sym, subst}
use Rattle.std.specs.Prelude.{IfErr}
use Rattle.std.specs.Result.{IsErrAnd}
use Rattle.raw_answer.specs.Places.{AreFaultless, IsLeastFrom}
use Rattle.raw_set_text.specs.declared.kind.SetKind.{SetKind}
use Rattle.raw_set_text.specs.declared.kind.SetRefusal.{SetRefusal}
use Rattle.raw_set_text.specs.declared.kind.SetRefusal.TheVariants.{At, Memory}
use Rattle.raw_flow_text.specs.Causes.{IsCauseOf}
use Rattle.raw_flow_text.specs.Building.{Answers}

-- a refusal that is passed on
pub passed : {T : Type 0} (IsSo : SetRefusal → Type 0) (result : Result T SetRefusal) (refusal : SetRefusal) → IsErrAnd result (λ other. other ≡ refusal) → IsSo refusal → IfErr result IsSo
passed IsSo (Ok done) refusal is so = tt
passed IsSo (Err other) refusal is so = subst IsSo (sym is) so

-- a place is refused behind places without faults
pub refused_at : (fault : ℕ → Option SetKind) (last : ℕ) (T : Type 0) (from k number : ℕ) (refusal : SetRefusal) → number ≡ k + 1 + from → k ≤ last → AreFaultless fault k → Answers {T = T} (Err refusal) number (fault k)
    → IsCauseOf (IsLeastFrom fault last from) refusal
refused_at fault last T from k number (At line kind) is within before answers = (k, answers.0 ∙ is, record { within = within; here = answers.1; before = before })
refused_at fault last T from k number Memory is within before answers = tt
