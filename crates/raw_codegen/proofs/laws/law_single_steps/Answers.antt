use Rattle.raw_codegen.proofs.Moves.{plain_step, send_step, take_step, pass_step}
use Rattle.raw_codegen.proofs.laws.law_single_steps.Goals as goal

pub returns : goal.returns
returns c = record { plain = plain_step; send = send_step; take = take_step; pass = pass_step }
