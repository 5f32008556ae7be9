use Rattle.std.proofs.Common.{◌*◌, ap, ◌∙◌}
use Rattle.raw_route.proofs.Plans.{zero_counts}
use Rattle.raw_route.proofs.planning.programs_and_counts.Goals as goal

pub give_hauls-requires-clause-counts : goal.give_hauls-requires-clause-counts
give_hauls-requires-clause-counts c =
    zero_counts (c.args.cols * c.args.rows) (c.from.result * c.from-2.result) c.in_ok-counts.counts.items
    (ap (λ x. x * c.from-2.result) c.from.ensures ∙ ap (λ x. c.args.cols * x) c.from-2.ensures) (c.in_ok-counts.ensures.items_if_clones_equal (λ y e. e))
