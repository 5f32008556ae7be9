use Rattle.std.proofs.Common.{subst}
use Rattle.raw_io.specs.Writing.{Writes}
use Rattle.raw_owed.proofs.Fronts.{puts_front}
use Rattle.raw_owed.proofs.putting.ended.Goals as goal

pub returns-in-Ok : goal.returns-in-Ok
returns-in-Ok c = λ command input text out writes owed.
    record { output = text; owed = owed; put = (subst (λ put. Writes out.old out.new text put) c.in-Ok.is writes).ok; counted = writes.count }

pub returns-in-Err : goal.returns-in-Err
returns-in-Err c = λ command input text out writes owed.
    let failed = subst (λ put. Writes out.old out.new text put) c.in-Err.is writes in
    puts_front command input out text (c.args.ending, owed) failed.front failed.fault
