use Rattle.std.proofs.Common.{◌≡◌, ◌∙◌, subst}
use Rattle.raw_model.specs.Program.{IsSet}
use Rattle.raw_clock.specs.Clock.{HasCycles}
use Rattle.raw_steady.proofs.counting.cycles_of.Goals as goal

pub returns-clause-count : goal.returns-clause-count
returns-clause-count c =
    let set = c.args.set.now in
    let same : c.run.new.machine.set ≡ set = c.run.ensures.set ∙ c.in_ok-machine.ensures.set in
    c.law_count.ensures.only set c.in_ok-ran.ran.cycles (subst IsSet c.set.view_is c.set.invariant)
    (subst (λ s. HasCycles s c.in_ok-ran.ran.cycles) same c.in_ok-ran.ensures.counted.cycles)
