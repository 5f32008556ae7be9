use Rattle.std.proofs.Common.{[]}
use Rattle.raw_serial.proofs.Items.{change_item}
use Rattle.raw_serial.proofs.wires.Wires.empty.Goals as goal

pub returns : goal.returns
returns c =
    change_item (λ q. q.items) (λ xs. []) c.self.inside.queues.items c.args.w c.index_mut.result.now c.clear.new.self c.args.self.now
    c.self.view_is c.requires c.index_mut.ensures.value c.clear.ensures
