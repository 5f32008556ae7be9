use Rattle.std.proofs.Common.{sym, ◌∙◌}
use Rattle.raw_workers.proofs.Onward.{kept_fresh}
use Rattle.raw_workers.proofs.record.kept_together.Goals as goal

pub rounds-init : goal.rounds-init
rounds-init g c =
    record {
      is_kept = kept_fresh c.args.set.now (record { machine = c.in_ok-open.field-0; steps = c.new.result }) c.in_ok-open.ensures c.new.ensures.items;
      other_set = c.in_ok-machine.ensures.set;
      same = c.in_ok-machine.ensures.state ∙ sym c.in_ok-open.ensures.state;
    }
