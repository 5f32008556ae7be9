use Rattle.std.proofs.Common.{sym, subst, ◌∙◌}
use Rattle.raw_serial.specs.Leading.{Leads}
use Rattle.raw_serial.specs.Taken.{made_of}
use Rattle.raw_live.proofs.Growth.{whole_more}
use Rattle.raw_live.proofs.engine.feed.Goals as goal

pub settle-requires-clause-whole : goal.settle-requires-clause-whole
settle-requires-clause-whole g c κs within = whole_more _ _ c.args.engine.now.parts c.in_default.ensures.more c.requires.whole

pub returns-clause-fed : goal.returns-clause-fed
returns-clause-fed g c =
    let old = c.args.engine.now in
    let o = c.settle.ensures in record {
      set = o.set ∙ c.in_default.ensures.added;
      sent = o.sent;
      rest = o.rest;
      led = subst (λ g. Leads g (made_of g old.parts).state (made_of g c.settle.new.engine.parts).state) (sym o.set) o.led;
    }
