use Rattle.std.proofs.Common.{[], ◌∷◌, ◌++◌}
use Rattle.raw_serial.proofs.Items.{change_item}
use Rattle.raw_serial.proofs.wires.Wires.put.Goals as goal

pub returns : goal.returns
returns c =
    change_item (λ q. q.items) (λ xs. xs ++ c.args.value ∷ []) c.self.inside.queues.items c.args.w c.index_mut.result.now c.push.new.self c.args.self.now
    c.self.view_is c.requires.there c.index_mut.ensures.value c.push.ensures.items
