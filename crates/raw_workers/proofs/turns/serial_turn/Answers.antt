use Rattle.std.proofs.Common.{◌≡◌, ℕ, ◌+◌, ◌<◌, ◌≤◌, ◌++◌, ◌∷◌, [], List, length, sym, ap, ◌∙◌, subst, arith}
use Rattle.std.specs.Prelude.{if◌then◌else◌, All}
use Rattle.arrayvec.specs.ArrayVec.{ArrayVec}
use Rattle.raw_grid.specs.Topology.{proc_count}
use Rattle.raw_serial.proofs.Leading.{quiet_is}
use Rattle.raw_serial.specs.Leading.{HasTaken}
use Rattle.raw_workers.proofs.Turning.{AreIdle, turn_more, idle_more, length_more, there_more}
use Rattle.raw_workers.proofs.turns.serial_turn.Goals.{then-take_step, else-take_step}
use Rattle.raw_workers.proofs.turns.serial_turn.Goals as goal

pub loop-p-preserved : goal.loop-p-preserved
loop-p-preserved c =
    let first = c.args.machine.now in
    let old = c.loop-p.machine in
    let new = c.take_step.new.m in
    let steps : List ℕ = c.loop-p.steps.items in
    let p : ℕ = c.loop-p.p in
    let fired = c.take_step.result in
    let inv = c.loop-p.invariant in
    let later : c.if-take_step.steps.items ≡ (if fired then steps ++ p ∷ [] else steps) =
    elim c.if-take_step.branch [
      | then-take_step w ↦ ap (λ (a : ArrayVec ℕ). a.items) w.steps-is ∙ w.push.ensures.items ∙ sym (ap (λ b. if b then steps ++ p ∷ [] else steps) w.if-take_step.true)
      | else-take_step w ↦ ap (λ (a : ArrayVec ℕ). a.items) w.steps-is ∙ sym (ap (λ b. if b then steps ++ p ∷ [] else steps) w.if-take_step.false)
    ] in
    let many = c.procs-p-end.ensures.value in
    let below = c.loop-p-test.true in (
      subst (HasTaken first new) (sym later) (turn_more first old new steps p fired inv.0 c.take_step.ensures.taken c.law_taken.ensures.both),
      subst (λ (l : List ℕ). length l ≤ p + 1) (sym later) (length_more steps p fired inv.1),
      subst (All (λ q. q < proc_count first.set.topo)) (sym later) (there_more (proc_count first.set.topo) steps p fired (omega arith) inv.2),
      subst (λ l. AreIdle new l (p + 1)) (sym later) (idle_more old new steps p fired c.take_step.ensures.taken c.take_step.ensures.enabled inv.3),
    )

pub returns-clause-quiet : goal.returns-clause-quiet
returns-clause-quiet c = λ none.
    let m = c.loop-p.machine in
    let inv = c.loop-p.invariant in
    let all = c.procs-procs.ensures in
    let same = ap (λ set. proc_count set.topo) inv.0.set in
    let count = c.procs-p-end.ensures.value in
    let over = c.loop-p-test.false in
    quiet_is m.set m.state c.procs-procs.result all.locals (λ q below. inv.3 none q (let within = all.value in omega arith))
