use Rattle.std.proofs.Common.{refl}
use Rattle.raw_inputs.specs.declared.form.InputForm.TheVariants.{Text, Image, Plan, Flow, History, Script, Claim}
use Rattle.raw_inputs.proofs.Texts.{of_text, of_plan, of_flow, of_history, of_script}
use Rattle.raw_inputs.proofs.SaidClaims.{of_claim}
use Rattle.raw_inputs.proofs.laws.law_texts.Goals as goal

pub returns : goal.returns
returns c Text input other = of_text input (c.law_one_text.ensures input)
returns c Image input other = absurd (other refl)
returns c Plan input other = of_plan input (c.law_one_plan_text.ensures input) c.law_planned.ensures
returns c Flow input other = of_flow input (c.law_one_text-2.ensures input) c.law_compiled_at.ensures
returns c History input other = of_history c.law_one_answer.ensures input c.law_history.ensures.either c.law_history.ensures.one_bad c.law_history.ensures.not_both
returns c Script input other = of_script c.law_one_answer.ensures input
returns c Claim input other = of_claim input (c.law_one_text-3.ensures input) (c.law_one_text-4.ensures input)
