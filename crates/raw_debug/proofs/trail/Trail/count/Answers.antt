use Rattle.std.proofs.Common.{◌≡◌, ◌<◌, sym, subst}
use Rattle.raw_grid.specs.Topology.{proc_count}
use Rattle.raw_debug.specs.Walking.{Instant, count_at}
use Rattle.raw_debug.proofs.Walks.{count_now}
use Rattle.raw_debug.proofs.trail.Trail.count.Goals as goal

pub returns-clause-value : goal.returns-clause-value
returns-clause-value c =
    let walk = c.self.inside.walk in
    let p = c.args.p.0 in
    let way = c.self.invariant.under_way in
    let there = subst (λ (i : Instant). p < proc_count i.set.topo) (sym c.self.view_is) c.requires in
    subst (λ (i : Instant). c.count.result ≡ count_at i.set p i.moment) c.self.view_is
    (count_now walk c.set-set.ensures.valid way.0 way.1 p c.count.result there c.count.ensures.value)
