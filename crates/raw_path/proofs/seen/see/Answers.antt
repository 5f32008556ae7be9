use Rattle.std.proofs.Common.{sym, subst}
use Rattle.raw_path.specs.Known.{AreHops}
use Rattle.raw_path.proofs.seen.see.Goals as goal

pub reach-requires-clause-hops : goal.reach-requires-clause-hops
reach-requires-clause-hops c = subst (λ s. AreHops s c.args.hops.now.items) (sym c.set.ensures.value) c.requires.hops

pub returns-clause-hops : goal.returns-clause-hops
returns-clause-hops c = subst (λ s. AreHops s c.reach.new.hops.items) c.set.ensures.value c.in_ok-end.ensures.hops
