use Rattle.std.proofs.Common.{◌≤◌, sym, subst}
use Rattle.raw_processor.specs.Processor.{local_of}
use Rattle.raw_serial.proofs.Counting.{fit_few}
use Rattle.raw_serial.proofs.machine.Machine.count.Goals as goal

pub returns-clause-few : goal.returns-clause-few
returns-clause-few c =
    subst (λ n. n ≤ 10000000) (sym c.count.ensures)
    (fit_few c.args.self.now.set c.processor-processor.ensures.valid c.args.p.0 (local_of c.processor-processor.result.now) c.processor-processor.ensures.fits)
