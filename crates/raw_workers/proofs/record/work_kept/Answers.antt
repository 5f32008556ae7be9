use Rattle.raw_workers.proofs.Onward.{kept_fresh}
use Rattle.raw_workers.proofs.record.work_kept.Goals as goal

pub sweeps-init : goal.sweeps-init
sweeps-init g c = kept_fresh c.args.set.now (record { machine = c.in_ok-open.field-0; steps = c.new.result }) c.in_ok-open.ensures c.new.ensures.items
