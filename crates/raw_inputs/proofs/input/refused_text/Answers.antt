use Rattle.std.proofs.Common.{refl, sym, subst}
use Rattle.raw_text.specs.declared.lines.TextRefusal.{TextRefusal}
use Rattle.raw_text.specs.declared.lines.TextRefusal.TheVariants as text
use Rattle.raw_text.specs.Lines.{lines_of, first_fault, IsCause}
use Rattle.raw_set_text.specs.declared.kind.SetKind.TheVariants.{NotAscii, LineTooLong}
use Rattle.raw_inputs.specs.declared.form.InputForm.TheVariants as form
use Rattle.raw_inputs.specs.Flaws.{Failure}
use Rattle.raw_inputs.specs.Inputs.{IsRefusalOf}
use Rattle.raw_inputs.proofs.SaidClaims.{text_fault_so}
use Rattle.raw_inputs.proofs.input.refused_text.Goals as goal

pub returns-in-NotAscii-clause-claim : goal.returns-in-NotAscii-clause-claim
returns-in-NotAscii-clause-claim c = λ bytes cause.
    subst (λ (failure : Failure). IsRefusalOf form.Claim bytes failure) (sym c.refused_at.ensures)
    (text_fault_so bytes c.in-NotAscii.line NotAscii (text.NotAscii c.in-NotAscii.line)
    (subst (λ (r : TextRefusal). IsCause r (first_fault 1 (lines_of bytes))) c.in-NotAscii.is cause) (refl, refl))

pub returns-in-LineTooLong-clause-claim : goal.returns-in-LineTooLong-clause-claim
returns-in-LineTooLong-clause-claim c = λ bytes cause.
    subst (λ (failure : Failure). IsRefusalOf form.Claim bytes failure) (sym c.refused_at-in-LineTooLong.ensures)
    (text_fault_so bytes c.in-LineTooLong.line LineTooLong (text.LineTooLong c.in-LineTooLong.line)
    (subst (λ (r : TextRefusal). IsCause r (first_fault 1 (lines_of bytes))) c.in-LineTooLong.is cause) (refl, refl))
