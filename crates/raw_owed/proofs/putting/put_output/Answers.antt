use Rattle.raw_shell.specs.Seen.{sink_seen}
use Rattle.raw_owed.proofs.putting.put_output.Goals as goal

pub returns : goal.returns
returns g c = λ command input owed.
    let put = c.put_all.ensures in
    c.ended.ensures command input c.args.output.now (sink_seen g.K.Sink.sight c.args.out.now c.put_all.new.sink)
    (record { ok = put.ok; front = put.front; fault = put.fault; count = put.count }) owed
