use Rattle.std.proofs.Common.{◌∙◌}
use Rattle.raw_cut.proofs.Copies.{some_so}
use Rattle.raw_cut.proofs.Decided.{start_from}
use Rattle.raw_cut.proofs.deciding.start_of.Goals as goal

pub returns-in-Ok : goal.returns-in-Ok
returns-in-Ok c =
    c.in_ok-cut_at-in-Ok.ensures ∙ start_from c.args.set.now c.in-Some.seen c.args.stream.now 1 c.in-Ok.machine (some_so _ c.in_ok-seen.field-0 c.in-Some.seen c.in-Some.is c.in_ok-seen.ensures) c.in-Ok.ensures.opened
