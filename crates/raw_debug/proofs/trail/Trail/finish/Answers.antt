use Rattle.std.proofs.Common.{ap, sym, ◌∙◌}
use Rattle.raw_debug.specs.Walking.{Instant, count_at, moment_of}
use Rattle.raw_debug.proofs.Leading.{count_at_end, stopped_already, stops_later}
use Rattle.raw_debug.proofs.trail.Trail.finish.Goals as goal

pub returns-then-before-all : goal.returns-then-before-all
returns-then-before-all c =
    let old = c.args.self.now in
    let p = c.args.proc.0 in
    let end = c.count-all.ensures.value ∙ ap (λ (i : Instant). count_at i.set p i.moment) c.go_to_rest.ensures ∙ count_at_end old.set p in
    record {
      set = ap (λ (i : Instant). i.set) c.go_to_rest.ensures;
      there = stopped_already old.set old.moment p c.count-before.result c.count-all.result c.count-before.ensures.value end c.if-before-all.true;
    }

pub returns : goal.returns
returns c =
    let old = c.args.self.now in
    let p = c.args.proc.0 in
    let all = c.count-all.result in
    let end = c.count-all.ensures.value ∙ ap (λ (i : Instant). count_at i.set p i.moment) c.go_to_rest.ensures ∙ count_at_end old.set p in
    record {
      set = c.go_to.ensures.set ∙ ap (λ (i : Instant). i.set) c.go_to_rest.ensures;
      there = stops_later old.set old.moment p c.count-before.result all c.count-before.ensures.value end c.if-before-all.false
          ∙ ap (λ (i : Instant). moment_of i.set p all) (sym c.go_to_rest.ensures)
          ∙ c.go_to.ensures.there;
    }
