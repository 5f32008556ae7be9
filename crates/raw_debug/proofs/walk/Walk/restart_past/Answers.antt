use Rattle.std.proofs.Common.{[]}
use Rattle.raw_debug.proofs.Walks.{fresh_done}
use Rattle.raw_debug.proofs.walk.Walk.restart_past.Goals as goal

pub returns-then-self-moment-clause-on : goal.returns-then-self-moment-clause-on
returns-then-self-moment-clause-on c = record {
  set = c.restart.ensures.set;
  under_way = ([], fresh_done c.args.self.now.machine.set c.restart.new.self c.restart.ensures);
}
