use Rattle.std.proofs.Common.{refl}
use Rattle.raw_set_text.proofs.Building.PortsAdd.{ports_begin}
use Rattle.raw_set_text.proofs.ports.Ports.new.Goals as goal

pub returns-clause-stands : goal.returns-clause-stands
returns-clause-stands c = ports_begin _ c.args.columns c.args.rows c.in_ok-new_grid.ensures.value c.new.ensures.items refl refl
