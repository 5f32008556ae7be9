use Rattle.raw_shell.specs.Answers.{err_line}
use Rattle.raw_shell.specs.Seen.{sink_seen}
use Rattle.raw_shell.proofs.Fronts.{says}
use Rattle.raw_shell.proofs.saying.say.Goals as goal

pub returns-in-Err : goal.returns-in-Err
returns-in-Err g c = rw c.in-Err.is (says (sink_seen g.E.Sink.sight c.args.err.now c.put_line.new.err) (err_line g.F.Flaw.line c.in-Err.failure) c.put_line.result c.put_line.ensures)
