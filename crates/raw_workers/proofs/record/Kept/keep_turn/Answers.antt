use Rattle.std.proofs.Common.{◌≡◌, ℕ, ◌-◌, ◌<◌, ◌++◌, List, length, take, drop, sym, ap, ◌∙◌, subst, arith}
use Rattle.std.specs.Prelude.{All}
use Rattle.std.proofs.lemmas.List.{take_all}
use Rattle.raw_serial.specs.Running.{Running, IsRunBy}
use Rattle.raw_grid.specs.Topology.{proc_count}
use Rattle.raw_steps.specs.Taking.{numbers}
use Rattle.raw_serial.specs.Leading.{HasTaken}
use Rattle.raw_workers.proofs.Tails.{tail_is, there_by, checked_taken}
use Rattle.raw_workers.proofs.record.Kept.keep_turn.Goals as goal

pub check_run-requires : goal.check_run-requires
check_run-requires c =
    let old = c.args.self.now in
    let turn : List ℕ = c.args.turn.now.items in
    let inv = c.loop-i.invariant in
    let end = c.len-i-end.ensures.value in
    let over = c.loop-i-test.false in
    let long = c.args.self.now.steps.ok.0 in
    let before = c.len-before.ensures in
    let are : numbers c.deref-2.result.now ≡ numbers old.steps.items ++ turn =
    ap numbers c.deref-2.ensures.value ∙ inv.1 ∙ ap (λ l. numbers old.steps.items ++ l) (take_all c.loop-i.i turn (omega arith)) in
    there_by (proc_count c.loop-i.self.machine.set.topo) (take (length c.deref-2.result.now - c.len-before.result) (drop c.len-before.result c.deref-2.result.now)) turn
    (tail_is c.deref-2.result.now old.steps.items c.len-before.result turn are (omega arith))
    (subst (λ (m : Running). All (λ q. q < proc_count m.set.topo) turn) (sym inv.0) c.requires.there)

pub returns-clause-kept : goal.returns-clause-kept
returns-clause-kept c =
    let old = c.args.self.now in
    let turn : List ℕ = c.args.turn.now.items in
    let inv = c.loop-i.invariant in
    let end = c.len-i-end.ensures.value in
    let over = c.loop-i-test.false in
    let long = c.args.self.now.steps.ok.0 in
    let before = c.len-before.ensures in
    let all : numbers c.loop-i.self.steps.items ≡ numbers old.steps.items ++ turn =
    inv.1 ∙ ap (λ l. numbers old.steps.items ++ l) (take_all c.loop-i.i turn (omega arith)) in
    let are : numbers c.deref-2.result.now ≡ numbers old.steps.items ++ turn = ap numbers c.deref-2.ensures.value ∙ all in
    let taken : HasTaken old.machine c.check_run.new.m turn =
    checked_taken old.machine c.loop-i.self.machine c.check_run.new.m turn (take (length c.deref-2.result.now - c.len-before.result) (drop c.len-before.result c.deref-2.result.now)) c.check_run.result
    inv.0 (tail_is c.deref-2.result.now old.steps.items c.len-before.result turn are (omega arith)) c.requires.lawful c.check_run.ensures.lawful c.check_run.ensures.taken in
    record {
      set_is = taken.set;
      run = subst (IsRunBy c.check_run.new.m) (sym all) (taken.run (numbers old.steps.items) c.requires.kept.run);
    }

pub returns-clause-there : goal.returns-clause-there
returns-clause-there c =
    let old = c.args.self.now in
    let turn : List ℕ = c.args.turn.now.items in
    let inv = c.loop-i.invariant in
    let end = c.len-i-end.ensures.value in
    let over = c.loop-i-test.false in
    let long = c.args.self.now.steps.ok.0 in
    let before = c.len-before.ensures in
    let are : numbers c.deref-2.result.now ≡ numbers old.steps.items ++ turn =
    ap numbers c.deref-2.ensures.value ∙ inv.1 ∙ ap (λ l. numbers old.steps.items ++ l) (take_all c.loop-i.i turn (omega arith)) in
    let taken : HasTaken old.machine c.check_run.new.m turn =
    checked_taken old.machine c.loop-i.self.machine c.check_run.new.m turn (take (length c.deref-2.result.now - c.len-before.result) (drop c.len-before.result c.deref-2.result.now)) c.check_run.result
    inv.0 (tail_is c.deref-2.result.now old.steps.items c.len-before.result turn are (omega arith)) c.requires.lawful c.check_run.ensures.lawful c.check_run.ensures.taken in
    sym taken.led.there
