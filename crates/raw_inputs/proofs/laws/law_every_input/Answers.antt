use Rattle.raw_inputs.specs.declared.form.InputForm.TheVariants.{Text, Image, Plan, Flow, History, Script, Claim}
use Rattle.raw_inputs.proofs.Inputs.{means_or_fails, one_fault, either_image, one_image}
use Rattle.raw_inputs.proofs.laws.law_every_input.Goals as goal

pub returns-clause-either : goal.returns-clause-either
returns-clause-either c Image input bytes = either_image input (c.law_one_answer.ensures.answer input bytes)
returns-clause-either c Text input bytes = means_or_fails Text input (λ offset kind fault. fault) (c.law_texts.ensures Text input (λ same. cc same))
returns-clause-either c Plan input bytes = means_or_fails Plan input (λ offset kind fault. fault) (c.law_texts.ensures Plan input (λ same. cc same))
returns-clause-either c Flow input bytes = means_or_fails Flow input (λ offset kind fault. fault) (c.law_texts.ensures Flow input (λ same. cc same))
returns-clause-either c History input bytes = means_or_fails History input (λ offset kind fault. fault) (c.law_texts.ensures History input (λ same. cc same))
returns-clause-either c Script input bytes = means_or_fails Script input (λ offset kind fault. fault) (c.law_texts.ensures Script input (λ same. cc same))
returns-clause-either c Claim input bytes = means_or_fails Claim input (λ offset kind fault. fault) (c.law_texts.ensures Claim input (λ same. cc same))

pub returns-clause-one_fault : goal.returns-clause-one_fault
returns-clause-one_fault c Image input bytes = one_image input (c.law_one_answer.ensures.answer input bytes)
returns-clause-one_fault c Text input bytes = one_fault Text input (λ offset kind fault. fault) (c.law_texts.ensures Text input (λ same. cc same))
returns-clause-one_fault c Plan input bytes = one_fault Plan input (λ offset kind fault. fault) (c.law_texts.ensures Plan input (λ same. cc same))
returns-clause-one_fault c Flow input bytes = one_fault Flow input (λ offset kind fault. fault) (c.law_texts.ensures Flow input (λ same. cc same))
returns-clause-one_fault c History input bytes = one_fault History input (λ offset kind fault. fault) (c.law_texts.ensures History input (λ same. cc same))
returns-clause-one_fault c Script input bytes = one_fault Script input (λ offset kind fault. fault) (c.law_texts.ensures Script input (λ same. cc same))
returns-clause-one_fault c Claim input bytes = one_fault Claim input (λ offset kind fault. fault) (c.law_texts.ensures Claim input (λ same. cc same))
