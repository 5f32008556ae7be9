use Rattle.std.proofs.Common.{rules}
use Rattle.raw_processor.specs.Processor.{local_of}
use Rattle.raw_refute.proofs.Received.{received_more}
use Rattle.raw_refute.proofs.seeing.received.Goals as goal

pub loop-p-preserved : goal.loop-p-preserved
loop-p-preserved c =
    received_more c.loop-p.got.items _ _ c.args.machine.now.state.locals c.loop-p.p (local_of c.processor.result.now) c.processor.ensures.local (search rules) c.loop-p.invariant
