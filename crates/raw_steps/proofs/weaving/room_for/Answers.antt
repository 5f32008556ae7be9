use Rattle.std.proofs.Common.{◌≡◌, ℕ, ◌+◌, ◌<◌, List, [], length, take, sym, ap, subst, ◌∙◌, arith}
use Rattle.std.specs.Option.{SomeIff}
use Rattle.std.proofs.lemmas.List.{length-map, get_or-map}
use Rattle.std.proofs.lemmas.List.Sums.{sum_by_more}
use Rattle.raw_grid.specs.declared.parts.ProcId.{ProcId}
use Rattle.raw_steps.specs.declared.log.PassLog.{PassLog}
use Rattle.raw_steps.specs.Taking.{numbers}
use Rattle.raw_steps.specs.Weaving.{steps_in}
use Rattle.raw_steps.specs.Left.{count_in}
use Rattle.raw_steps.proofs.weaving.room_for.Goals as goal

pub loop-log-preserved : goal.loop-log-preserved
loop-log-preserved c =
    let logs = c.args.logs.now in
    let log = c.log-item.result in
    let added = subst (λ o. SomeIff o (c.loop-log.entries + c.len.result < 18446744073709551616) (c.loop-log.entries + c.len.result)) c.in_ok-entries.ensures.ok_part c.checked_add.ensures in
    let at = get_or-map (λ (log : PassLog). numbers log.steps.items) logs c.loop-log.log-index log [] c.loop-log-test.true ∙ ap (λ (log : PassLog). numbers log.steps.items) (sym c.log-item.is) in
    let long = ap length at ∙ length-map log.steps.items (λ (p : ProcId). p.0) in
    let many = log.steps.ok in
    let there = length-map logs (λ (log : PassLog). numbers log.steps.items) in
    let more = sum_by_more (λ (xs : List ℕ). length xs) (steps_in logs) c.loop-log.log-index [] (omega (arith, there, c.loop-log-test.true)) in
    let now : c.in_ok-entries.entries ≡ count_in (take (c.loop-log.log-index + 1) (steps_in logs)) =
    omega (arith, added.1, c.loop-log.invariant, more, long, many.0, c.len.ensures) in
    now
