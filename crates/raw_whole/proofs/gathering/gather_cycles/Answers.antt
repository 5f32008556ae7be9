use Rattle.std.proofs.Common.{◌≡◌, ℕ, suc, ◌+◌, ◌*◌, ◌<◌, ◌≤◌, ◌^◌, length, refl, sym, ap, ◌∙◌, subst, arith}
use Rattle.raw_grid.specs.Topology.{proc_count}
use Rattle.raw_grid.specs.Wires.{wires_of}
use Rattle.raw_model.specs.Program.{ProgramSet, IsSet}
use Rattle.raw_clock.specs.Account.{IsAccount}
use Rattle.raw_whole.specs.Kept.{AreTurnsKept, AreTurnsIn, AreSendsKept}
use Rattle.raw_whole.proofs.Lists.{put_back}
use Rattle.raw_whole.proofs.Kept.{all_kept}
use Rattle.raw_whole.proofs.Stepped.{first_stepped, turns_in, account_in, sent_in, next_stepped}
use Rattle.raw_whole.proofs.gathering.gather_cycles.Goals as goal

pub cycles-init : goal.cycles-init
cycles-init c = (
  omega arith,
  first_stepped c.args.machine.now.set c.set-set.ensures.valid c.args.machine.now c.args.account.now c.args.passed.now refl c.requires.fresh c.requires.account c.requires.turns
      c.requires.passed,
  c.requires.kept_turns,
  c.requires.kept_sends,
)

pub step_cycle-requires : goal.step_cycle-requires
step_cycle-requires c =
    let was = c.cycles.invariant.1 in
    let few = c.requires.few in
    record {
      few = omega (arith, few, c.cycles-test.true, c.cycles.invariant.0);
      account = subst (λ h. IsAccount h c.cycles.k c.cycles.account) (sym was.same) was.account;
      stopped = λ p below. was.stopped p (subst (λ (h : ProgramSet). p < proc_count h.topo) was.same below);
      each = was.sent.each ∙ ap (λ (set : ProgramSet). length (wires_of set.topo)) (sym was.same);
      room = λ w. let many = was.few w in omega (arith, few, c.cycles-test.true, c.cycles.invariant.0, many);
    }

pub note_turns-requires-clause-turns : goal.note_turns-requires-clause-turns
note_turns-requires-clause-turns c =
    let g = c.args.machine.now.set in
    let did = c.step_cycle.ensures in
    let turns : AreTurnsIn g c.cycles.k c.step_cycle.new.account.turns.items =
    turns_in g c.set-set.ensures.valid c.cycles.k c.cycles.machine c.step_cycle.new.machine c.cycles.account c.step_cycle.new.account c.cycles.passed c.step_cycle.new.passed
    c.cycles.invariant.1 did.set did.cycle did.account did.turns did.tiles did.few in
    subst (λ ts. AreTurnsIn c.set-set.result.now c.cycles.k ts) (sym c.deref.ensures.value)
    (subst (λ s. AreTurnsIn s c.cycles.k c.step_cycle.new.account.turns.items) (sym c.set-set.ensures.value) turns)

pub cycles-preserved : goal.cycles-preserved
cycles-preserved c =
    let g = c.args.machine.now.set in
    let did = c.step_cycle.ensures in
    let turns = subst (λ s. AreTurnsKept s (c.cycles.k + 1) c.note_turns.new.all) c.set-set.ensures.value c.in_ok-note_turns.ensures in
    let sends = subst (λ s. AreSendsKept s (c.cycles.k + 1) c.note_sends.new.all) c.set-set.ensures.value c.in_ok-note_sends.ensures in (
      omega (arith, c.cycles-test.true),
      next_stepped g c.set-set.ensures.valid c.cycles.k c.cycles.machine c.step_cycle.new.machine c.cycles.account c.step_cycle.new.account c.cycles.passed c.step_cycle.new.passed
          c.cycles.invariant.1 did.set did.cycle did.account did.turns did.tiles did.few,
      subst (AreTurnsKept g (c.cycles.k + 1)) (sym (put_back _ c.note_turns.new.all c.cycles.whole.turns.items (sym (turns.each ∙ sym c.cycles.invariant.2.each ∙ sym c.cycles.whole.turns.ok.0)))) turns,
      subst (AreSendsKept g (c.cycles.k + 1)) (sym (put_back _ c.note_sends.new.all c.cycles.whole.sends.items (sym (sends.each ∙ sym c.cycles.invariant.3.each ∙ sym c.cycles.whole.sends.ok.0)))) sends,
    )

pub returns-clause-whole : goal.returns-clause-whole
returns-clause-whole c =
    let g = c.args.machine.now.set in
    let most = c.cycles.invariant.0 in
    let end : c.cycles.k ≡ suc c.args.cycles = omega (arith, most, c.cycles-test.false) in
    all_kept g c.set-set.ensures.valid c.args.cycles c.cycles.whole c.requires.cycles.over
    (subst (λ k. AreTurnsKept g k c.cycles.whole.turns.items) end c.cycles.invariant.2)
    (subst (λ k. AreSendsKept g k c.cycles.whole.sends.items) end c.cycles.invariant.3)
