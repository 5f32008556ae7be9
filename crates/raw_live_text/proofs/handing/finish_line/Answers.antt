use Rattle.std.proofs.Common.{Vec, Global, ℕ, ap}
use Rattle.raw_live_text.proofs.Feeds.{said_line, line_grows}
use Rattle.raw_live_text.specs.Feeding.{open_at}
use Rattle.raw_live_text.proofs.handing.finish_line.Goals as goal

pub returns-in-Ok-clause-handled : goal.returns-in-Ok-clause-handled
returns-in-Ok-clause-handled g c = said_line c.args.intake.now c.args.so_far.now.number c.args.to.now.items c.in-Ok.said c.args.so_far.now.line.items c.replace-line.result.items _ _ c.hand_on_said.result (ap (λ (v : Vec ℕ Global). v.items) c.replace-line.ensures.value) c.in-Ok.ensures c.hand_on_said.ensures.handled

pub returns-in-Err-clause-handled : goal.returns-in-Err-clause-handled
returns-in-Err-clause-handled g c = line_grows c.args.intake.now (open_at c.args.so_far.now.number c.args.to.now.items) c.args.so_far.now.line.items
