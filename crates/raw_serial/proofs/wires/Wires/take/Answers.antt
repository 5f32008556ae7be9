use Rattle.std.proofs.Common.{drop, ◌∙◌}
use Rattle.raw_serial.proofs.Items.{change_item, remove_first, is_there}
use Rattle.raw_serial.proofs.wires.Wires.take.Goals as goal

pub returns-clause-rest : goal.returns-clause-rest
returns-clause-rest c =
    change_item (λ q. q.items) (λ xs. drop 1 xs) c.self.inside.queues.items c.args.w c.index_mut.result.now c.remove.new.self c.args.self.now
    c.self.view_is (is_there c.args.self.now c.args.w c.requires) c.index_mut.ensures.value (c.remove.ensures.items ∙ remove_first c.index_mut.result.now.items)
