use Rattle.std.proofs.Common.{None}
use Rattle.raw_serial.proofs.telling.EventTells.tell_switch.Goals as goal

pub returns : goal.returns
returns c = λ i. record { from = c.list_inputs.ensures i; sent = c.list_routes.ensures i; touched = None; missed = None }
