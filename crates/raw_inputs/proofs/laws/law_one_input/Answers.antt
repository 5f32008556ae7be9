use Rattle.raw_inputs.specs.declared.form.InputForm.TheVariants.{Text, Image, Plan, Flow, History, Script, Claim}
use Rattle.raw_inputs.proofs.Inputs.{one_input, of_image}
use Rattle.raw_inputs.proofs.laws.law_one_input.Goals as goal

pub returns : goal.returns
returns c Image input = of_image input c.law_one_answer.ensures.one_set c.law_one_answer.ensures.not_both
returns c Text input = one_input Text input (λ offset kind fault. fault) (c.law_texts.ensures Text input (λ same. cc same))
returns c Plan input = one_input Plan input (λ offset kind fault. fault) (c.law_texts.ensures Plan input (λ same. cc same))
returns c Flow input = one_input Flow input (λ offset kind fault. fault) (c.law_texts.ensures Flow input (λ same. cc same))
returns c History input = one_input History input (λ offset kind fault. fault) (c.law_texts.ensures History input (λ same. cc same))
returns c Script input = one_input Script input (λ offset kind fault. fault) (c.law_texts.ensures Script input (λ same. cc same))
returns c Claim input = one_input Claim input (λ offset kind fault. fault) (c.law_texts.ensures Claim input (λ same. cc same))
