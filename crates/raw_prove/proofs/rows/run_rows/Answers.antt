use Rattle.std.proofs.Common.{subst}
use Rattle.raw_prove.specs.declared.running.End.{End}
use Rattle.raw_prove.specs.Runs.{IsEnd}
use Rattle.raw_prove.proofs.RowJudging.{rests_so}
use Rattle.raw_prove.proofs.rows.run_rows.Goals as goal

pub returns-in_ok-difference-in-Rests : goal.returns-in_ok-difference-in-Rests
returns-in_ok-difference-in-Rests c =
    rests_so c.args.set.now c.args.stream.now c.args.order.now c.run.new.self c.in_ok-verdict-in-Rests.verdict
    (subst (λ (end : End). IsEnd c.args.set.now c.run.new.self end) c.in-Rests.is c.in_ok-run.ensures) c.in_ok-verdict-in-Rests.ensures
