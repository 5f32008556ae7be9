use Rattle.std.proofs.Common.{◌≡◌, ◌<◌, ◌≤◌, false, sym, subst, ⊎_elim, arith}
use Rattle.std.proofs.lemmas.Bool.{cases_lt}
use Rattle.raw_model.specs.Rest.{enabled, IsQuiet}
use Rattle.raw_serial.proofs.Leading.{run_more, quiet_is}
use Rattle.raw_serial.proofs.machine.Machine.sweep.Goals as goal

pub loop-p-preserved : goal.loop-p-preserved
loop-p-preserved c =
    let before = c.loop-p.invariant.0 in
    let run = c.step_and_mark-left.ensures.run in
    let set = c.args.self.now.set in (
      run_more c.args.self.now c.loop-p.self c.step_and_mark-left.new.self c.args.most c.loop-p.left c.step_and_mark-left.result before run,
      λ some e.
          let same : c.loop-p.left ≡ c.args.most = omega (arith, e, before.few, run.few) in
          let stays : c.step_and_mark-left.result ≡ c.loop-p.left = omega (arith, e, same) in
          λ q below.
          ⊎_elim
          (λ (h : q < c.loop-p.p). c.loop-p.invariant.1 some same q h)
          (λ (h : c.loop-p.p ≤ q).
          let is : c.loop-p.p ≡ q = omega (arith, below, h) in
          subst (λ k. enabled set c.args.self.now.state k ≡ false) is
          (subst (λ s. enabled set s c.loop-p.p ≡ false) (before.stays same)
          (subst (λ g. enabled g c.loop-p.self.state c.loop-p.p ≡ false) before.set (c.step_and_mark-left.ensures.idle (omega (arith, e, some)) stays))))
          (cases_lt q c.loop-p.p),
    )

pub returns-clause-quiet : goal.returns-clause-quiet
returns-clause-quiet c = λ some none.
    subst (λ s. IsQuiet c.args.self.now.set s) (sym (c.loop-p.invariant.0.stays none))
    (quiet_is c.args.self.now.set c.args.self.now.state c.procs-p-end.result c.procs-p-end.ensures.locals
    (λ q below. c.loop-p.invariant.1 some none q (omega (arith, below, c.loop-p-test.false))))
