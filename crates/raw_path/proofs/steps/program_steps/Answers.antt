use Rattle.std.proofs.Common.{arith, ◌≡◌, ℕ, suc, ◌+◌, ap, subst}
use Rattle.std.specs.Prelude.{sum_by}
use Rattle.std.specs.List.{range_with_len}
use Rattle.raw_clock.specs.Clock.{is_fired, spent}
use Rattle.raw_clock.proofs.Tallying.{spent_le}
use Rattle.raw_clock.proofs.Counting.{sum_next}
use Rattle.raw_path.proofs.Counts.{steps_at}
use Rattle.raw_path.proofs.steps.program_steps.Goals as goal

pub overflow_add-steps : goal.overflow_add-steps
overflow_add-steps c =
    let set = c.args.set.now in
    let p = c.procs.p in
    let fired = steps_at set c.args.cycles c.args.account.now c.requires.account c.requires.over p c.index.result.now (omega (arith, c.procs-test.true, c.procs.invariant.0, c.tiles-p-end.ensures.few)) c.index.ensures in
    omega (arith, fired, spent_le set c.args.cycles p is_fired, c.procs.invariant.2, c.procs-test.true, c.tiles-p-end.ensures.few, c.requires.few)

pub procs-preserved : goal.procs-preserved
procs-preserved c =
    let set = c.args.set.now in
    let p = c.procs.p in
    let fired = steps_at set c.args.cycles c.args.account.now c.requires.account c.requires.over p c.index.result.now (omega (arith, c.procs-test.true, c.procs.invariant.0)) c.index.ensures in
    let f : ℕ → ℕ = λ q. spent set c.args.cycles q is_fired in
    let next : suc p ≡ p + 1 = omega arith in
    let more : sum_by f (range_with_len 0 (p + 1)) ≡ sum_by f (range_with_len 0 p) + f (0 + p) =
    subst (λ k. sum_by f (range_with_len 0 k) ≡ sum_by f (range_with_len 0 p) + f (0 + p)) next (sum_next f 0 p) in
    let same : f (0 + p) ≡ f p = let zero : 0 + p ≡ p = omega arith in ap f zero in (
      c.procs.invariant.0,
      omega (arith, c.procs.invariant.1, more, same, fired),
      omega (arith, fired, spent_le set c.args.cycles p is_fired, c.procs.invariant.2, c.requires.few),
    )
