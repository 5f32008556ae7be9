use Rattle.raw_serial.proofs.Leading.{run_more}
use Rattle.raw_serial.proofs.machine.Machine.round.Goals as goal

pub marks-preserved : goal.marks-preserved
marks-preserved c =
    run_more c.args.self.now c.marks.self c.run_marked-left.new.self c.args.most c.marks.left c.run_marked-left.result c.marks.invariant c.run_marked-left.ensures
