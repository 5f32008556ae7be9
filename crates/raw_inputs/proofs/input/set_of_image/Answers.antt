use Rattle.raw_inputs.proofs.input.set_of_image.Goals as goal

pub returns-in-Err-clause-cause : goal.returns-in-Err-clause-cause
returns-in-Err-clause-cause c = c.of_image.ensures c.args.bytes.now c.in-Err.ensures.cause
