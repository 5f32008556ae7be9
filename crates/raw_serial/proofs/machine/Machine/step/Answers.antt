use Rattle.std.proofs.Common.{◌≡◌, ◌<◌, length, ap, sym, subst, ◌∙◌, arith}
use Rattle.raw_grid.specs.Topology.{proc_count, kind_at}
use Rattle.raw_model.specs.Program.{ProgramSet}
use Rattle.raw_serial.specs.declared.turn.Turn.TheVariants.{Stalled}
use Rattle.raw_serial.specs.Running.{Running, turn_of, IsStep}
use Rattle.raw_serial.specs.Standing.{IsOfKind}
use Rattle.raw_serial.specs.Leading.{past_stalls}
use Rattle.raw_serial.proofs.Taking.{past_taken, step_taken}
use Rattle.raw_serial.proofs.Leading.{past_one, past_none, stalled_going, on_is, idle_is}
use Rattle.raw_serial.proofs.machine.Machine.step.Goals as goal
use Rattle.raw_serial.proofs.machine.Machine.step.Goals.{After-try_step_as}

pub try_step_as-requires : goal.try_step_as-requires
try_step_as-requires c =
    let kind = sym (ap (λ (m : Running). kind_at m.set.topo c.args.p.0) c.self.view_is) ∙ sym (ap (λ (s : ProgramSet). kind_at s.topo c.args.p.0) c.set.view_is) ∙ c.kind_of-kind.ensures in
    subst (λ (g : ProgramSet). IsOfKind g.topo c.args.p.0 c.kind_of-kind.result) (sym c.stalls.invariant.0) (record { proc = c.requires; kind = kind })

pub stalls-preserved : goal.stalls-preserved
stalls-preserved c = (
  c.try_step_as.ensures.set ∙ c.stalls.invariant.0,
  ap (λ (m : Running). past_stalls m c.args.p.0) (c.try_step_as.ensures.stalled c.in-Stalled.is)
      ∙ past_one c.stalls.self c.args.p.0 (stalled_going _ _ _ (sym c.in-Stalled.is ∙ c.try_step_as.ensures.answer))
      ∙ c.stalls.invariant.1,
)

-- the processor is there
within : (c : After-try_step_as) → c.args.p.0 < length c.args.self.now.state.locals
within c =
    let many = sym (ap (λ (m : Running). length m.state.locals) c.self.view_is) ∙ c.self.invariant.fits.processors ∙ ap (λ (m : Running). proc_count m.set.topo) c.self.view_is in
    omega (arith, many, c.requires)

-- past the stall turns
same : (c : After-try_step_as) → (c.try_step_as.result ≡ Stalled → ⊥) → past_stalls c.args.self.now c.args.p.0 ≡ c.stalls.self
same c past = sym c.stalls.invariant.1 ∙ past_none c.stalls.self c.args.p.0 c.try_step_as.result c.try_step_as.ensures.answer past

pub returns-in-Fired : goal.returns-in-Fired
returns-in-Fired c =
    let after = (goal.at.returns-in-Fired c).After-try_step_as in
    let past = sym (same after (λ e. absurd (cc (sym e ∙ c.in-Fired.is)))) in
    let answer = subst (λ (m : Running). c.try_step_as.result ≡ turn_of m c.args.p.0) past c.try_step_as.ensures.answer in
    let on = on_is c.args.self.now.set c.args.self.now.state c.args.p.0 (within after) _ (sym c.in-Fired.is ∙ answer) in
    let one = subst (λ (m : Running). IsStep m c.try_step_as.new.self c.args.p.0) past (c.try_step_as.ensures.fired c.in-Fired.is) in
    record {
      set = c.try_step_as.ensures.set ∙ c.stalls.invariant.0;
      enabled = sym on;
      fired = λ e. one;
      step = λ e. one.state;
      passed = λ e. absurd (cc e);
      stays = λ e. absurd (cc e);
      taken = step_taken c.args.self.now c.try_step_as.new.self c.args.p.0 on one;
    }

pub returns-in_default : goal.returns-in_default
returns-in_default c =
    let after = (goal.at.returns-in_default c).After-try_step_as in
    let past = sym (same after c.in_default.not-Stalled) in
    let answer = subst (λ (m : Running). c.try_step_as.result ≡ turn_of m c.args.p.0) past c.try_step_as.ensures.answer in
    let stays = c.try_step_as.ensures.stays c.in_default.not-Fired c.in_default.not-Stalled ∙ past in
    record {
      set = c.try_step_as.ensures.set ∙ c.stalls.invariant.0;
      enabled = sym (idle_is c.args.self.now.set c.args.self.now.state c.args.p.0 (within after) _ c.try_step_as.result answer c.in_default.not-Fired c.in_default.not-Stalled);
      fired = λ e. absurd (cc e);
      step = λ e. absurd (cc e);
      passed = λ e. stays;
      stays = λ e. ap (λ (m : Running). m.state) stays;
      taken = past_taken c.args.self.now c.try_step_as.new.self c.args.p.0 stays;
    }
