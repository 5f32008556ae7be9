use Rattle.std.proofs.Common.{inr}
use Rattle.raw_live_run.proofs.top.feed.Goals as goal

pub returns-in-Ok : goal.returns-in-Ok
returns-in-Ok g c = inr (record {
  between = g.S.Source.sight c.begin.new.source;
  begun = c.in-Ok.begun;
  begins = c.in-Ok.ensures.begun;
  fed = c.feed_on.ensures;
})
