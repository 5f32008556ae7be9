use Rattle.std.proofs.Common.{◌<◌, ◌++◌, [], ◌∷◌, length, sym, ap, subst, ◌∙◌, arith}
use Rattle.std.specs.Prelude.{slice_get}
use Rattle.std.specs.Option.{option_to_list}
use Rattle.raw_network.specs.Network.{values_on}
use Rattle.raw_grid.specs.Wires.{wires_of}
use Rattle.raw_model.specs.Program.{ProgramSet, IsSet}
use Rattle.raw_debug.specs.Walking.{sent_by}
use Rattle.raw_debug.specs.Sending.{IsSent}
use Rattle.raw_debug.proofs.Walks.{fresh_done, gone_done, not_at_rest, moment_within, rests_on}
use Rattle.raw_debug.proofs.Searching.{sent_start, sent_next, sends_next}
use Rattle.raw_debug.proofs.walk.Walk.sent_on.Goals as goal

pub steps-init : goal.steps-init
steps-init c =
    let none = sent_start c.restart.new.self.machine.set c.restart.new.self.moment c.args.wire.0 c.restart.ensures.moment in
    record {
      same = c.restart.ensures.set;
      under_way = ([], fresh_done c.args.self.now.machine.set c.restart.new.self c.restart.ensures);
      upto = omega (arith, c.restart.ensures.moment);
      sent = subst (λ values. IsSent c.new-sent.result values) (sym none) c.new-sent.ensures;
      few = omega (arith, c.new-sent.ensures.count);
    }

pub returns-in_default-clause-moment : goal.returns-in_default-clause-moment
returns-in_default-clause-moment c =
    let at = c.steps.invariant in
    let valid = c.set-set.ensures.valid in
    let way = c.requires.under_way in
    absurd (not_at_rest c.args.self.now.machine.set c.steps.self c.advance.new.self at.same valid at.under_way
    c.advance.ensures.set (c.advance.ensures.rests c.in_default.is) (c.advance.ensures.stays c.in_default.is) c.args.self.now.moment
    (moment_within c.args.self.now (subst IsSet at.same valid) way.0 way.1) c.steps-test.true)

pub returns-in_default-clause-sent : goal.returns-in_default-clause-sent
returns-in_default-clause-sent c =
    let at = c.steps.invariant in
    let valid = c.set-set.ensures.valid in
    let way = c.requires.under_way in
    absurd (not_at_rest c.args.self.now.machine.set c.steps.self c.advance.new.self at.same valid at.under_way
    c.advance.ensures.set (c.advance.ensures.rests c.in_default.is) (c.advance.ensures.stays c.in_default.is) c.args.self.now.moment
    (moment_within c.args.self.now (subst IsSet at.same valid) way.0 way.1) c.steps-test.true)

pub steps-preserved : goal.steps-preserved
steps-preserved c =
    let at = c.steps.invariant in
    let walk = c.steps.self in
    let new = c.advance.new.self in
    let own = walk.machine.set in
    let valid = c.set-set.ensures.valid in
    let q = c.in-Some._stepped.0 in
    let w = c.args.wire.0 in
    let done = at.under_way.0 in
    let gone = c.in-Some.ensures.gone done at.under_way.1.at in
    let there = subst (λ (g : ProgramSet). w < length (wires_of g.topo)) (sym at.same) c.requires.there in
    let next = sent_next walk new valid c.advance.ensures.set done at.under_way.1 q gone c.in-Some.ensures.counted c.law_steps.ensures.passed w in
    let sends = sends_next walk new valid c.advance.ensures.set done at.under_way.1 q gone c.in-Some.ensures.counted (c.law_wired.ensures.wired own valid)
    (c.law_wired.ensures.sends_once own) (c.law_queues.ensures.queue own) c.set-set.ensures.fits w there in
    let value = ap (slice_get (values_on new.machine.state.wires w)) (sym c.held-before.ensures) ∙ sym c.value_behind.ensures in
    let is = sym (next ∙ ap (λ xs. sent_by own walk.moment w ++ xs) (sends ∙ ap option_to_list value)) in
    record {
      same = c.advance.ensures.set ∙ at.same;
      under_way = (done ++ q ∷ [], gone_done walk new c.advance.ensures.set q done gone c.in-Some.ensures.counted at.under_way.1);
      upto = omega (arith, c.steps-test.true, c.in-Some.ensures.counted);
      sent = subst (λ values. IsSent c.note.new.self values) is (c.note.ensures.sent (sent_by own walk.moment w) at.sent);
      few = omega (arith, c.note.ensures.few, at.few, c.in-Some.ensures.counted);
    }

pub returns-in_default-clause-on : goal.returns-in_default-clause-on
returns-in_default-clause-on c = record {
  set = c.advance.ensures.set ∙ c.steps.invariant.same;
  under_way = rests_on c.steps.self c.advance.new.self c.advance.ensures.set c.steps.invariant.under_way
      (c.advance.ensures.rests c.in_default.is) (c.advance.ensures.stays c.in_default.is);
}
