use Rattle.std.proofs.Common.{◌≡◌, ℕ, Option, Some, None, [], refl, sym, ap, subst, ◌∙◌}
use Rattle.std.specs.Option.{option_or}
use Rattle.raw_debug.specs.Walking.{Instant}
use Rattle.raw_debug.specs.Stops.{last_up_to}
use Rattle.raw_debug.specs.Debugging.{CanAim}
use Rattle.raw_debug.proofs.Walks.{fresh_done}
use Rattle.raw_debug.proofs.Searching.{none_before}
use Rattle.raw_debug.proofs.trail.Trail.latest.Goals as goal

or_none : (o : Option ℕ) → option_or o None ≡ o
or_none None = refl
or_none (Some k) = refl

pub latest_up_to-requires-clause-seek : goal.latest_up_to-requires-clause-seek
latest_up_to-requires-clause-seek c =
    let same = c.restart.ensures.set ∙ ap (λ (i : Instant). i.set) c.self-2.view_is ∙ c.copies.invariant.same in
    record {
      under_way = ([], fresh_done c.self-2.inside.walk.machine.set c.restart.new.self c.restart.ensures);
      can = subst (λ set. CanAim set c.args.proc.0 c.args.aim) (sym same) c.requires;
    }

pub returns : goal.returns
returns c =
    let p = c.args.proc.0 in
    let mid = c.restart.new.self in
    let same = c.restart.ensures.set ∙ ap (λ (i : Instant). i.set) c.self-2.view_is ∙ c.copies.invariant.same in
    record {
      set = c.latest_up_to.ensures.on.set ∙ same;
      there = c.copies.invariant.latest
          ∙ ap (λ set. last_up_to set c.copies.high p c.args.aim) (sym same)
          ∙ c.latest_up_to.ensures.latest
          ∙ ap (option_or c.latest_up_to.result) (none_before mid.machine.set p mid.moment c.args.aim c.restart.ensures.moment)
          ∙ or_none c.latest_up_to.result;
    }
