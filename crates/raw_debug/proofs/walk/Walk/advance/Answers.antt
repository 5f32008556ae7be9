use Rattle.std.proofs.Common.{◌≡◌, ◌+◌, ◌-◌, true, sym, subst, ◌∙◌, arith, rules}
use Rattle.std.proofs.lemmas.Bool.{eqb-true}
use Rattle.raw_serial.specs.Within.{IsWithin}
use Rattle.raw_debug.specs.Walking.{NoneElse, HasStepped}
use Rattle.raw_debug.proofs.Walks.{stepped_on, stepped_later, rests_later, counts_fit}
use Rattle.raw_debug.proofs.Alone.{alone_again}
use Rattle.raw_debug.proofs.Standing.{passes_passed}
use Rattle.raw_debug.proofs.walk.Walk.advance.Goals as goal
use Rattle.raw_debug.proofs.walk.Walk.advance.Goals.{then-within, else-within}

pub overflow_add-self : goal.overflow_add-self
overflow_add-self c =
    let fits = counts_fit c.args.self.now c.set-set.ensures.valid c.law_serial.ensures.run c.law_bound.ensures.most_steps c.requires in
    omega (arith, fits, c.sweep_on.ensures.moment)

pub returns-in-Some : goal.returns-in-Some
returns-in-Some c = record {
  set = c.sweep_on.ensures.set;
  gone = λ done at.
      let gone = stepped_on c.args.self.now c.sweep_on.new.self c.sweep_on.ensures.set c.in-Some.stepped.0 c.in-Some.ensures.fired
      (c.sweep_on.ensures.alone ∙ c.if-self.false) done at in
      record { at = record { place = gone.at.place; passing = gone.at.passing; alone = gone.at.alone }; ready = gone.ready; stepped = gone.stepped };
  rests = λ e. absurd (cc e);
  counted = search rules;
  stays = λ e. absurd (cc e);
}

pub returns-in_err-stepped : goal.returns-in_err-stepped
returns-in_err-stepped c = record {
  set = c.sweep_on-2.ensures.set ∙ c.sweep_on.ensures.set;
  gone = search rules;
  rests = λ e done at.
      rests_later c.args.self.now c.sweep_on.new.self c.sweep_on-2.new.self c.sweep_on.ensures.set c.sweep_on-2.ensures.set
      (c.sweep_on.ensures.idle c.in_default.is) (c.sweep_on-2.ensures.idle c.in_err-stepped.was)
      (c.sweep_on-2.ensures.alone ∙ c.sweep_on.ensures.alone ∙ c.if-self.false) c.set-set.ensures.fits done at;
  counted = search rules;
  stays = λ e. c.sweep_on-2.ensures.moment ∙ c.sweep_on.ensures.moment;
}

pub overflow_add-self-2 : goal.overflow_add-self-2
overflow_add-self-2 c =
    let fits = counts_fit c.args.self.now c.set-set.ensures.valid c.law_serial.ensures.run c.law_bound.ensures.most_steps c.requires in
    omega (arith, fits, c.sweep_on.ensures.moment, c.sweep_on-2.ensures.moment)

pub returns : goal.returns
returns c = record {
  set = c.sweep_on-2.ensures.set ∙ c.sweep_on.ensures.set;
  gone = λ done at.
      let old = c.args.self.now in
      let mid = c.sweep_on.new.self in
      let new = record c.sweep_on-2.new.self { alone = c.if-within.self } in
      let p = c.in_ok-stepped.stepped.0 in
      let passed = c.sweep_on.ensures.idle c.in_default.is in
      let fired = c.in_ok-stepped.ensures.fired in
      let by : HasStepped mid new p = record {
        from = fired.from;
        there = fired.there;
        before = fired.before;
        ready = fired.ready;
        stepped = fired.stepped;
        next = fired.next;
        passing = fired.passing;
      } in
      let first = c.sweep_on.ensures.set in
      let second = c.sweep_on-2.ensures.set in
      let alone : new.alone ≡ true → NoneElse new.machine.set new.machine.state new.next = elim c.if-within.branch [
        | then-within w ↦ λ on.
            let last : p + 1 ≡ old.next = eqb-true (p + 1) old.next (sym w.self-is ∙ on) in
            let place : old.next - 1 ≡ p = omega (arith, last) in
            alone_again old mid new first second passed (c.law_wired.ensures.sends_once mid.machine.set) p by (sym last)
            (subst (IsWithin mid.machine.set mid.machine.state) place (c.is_within_before-within.ensures w.if-within.true))
        | else-within w ↦ λ on. absurd (cc (sym w.self-is ∙ on))
      ] in
      let gone = stepped_later old mid new first second passed p by alone done at in
      record { at = record { place = gone.at.place; passing = gone.at.passing; alone = gone.at.alone }; ready = gone.ready; stepped = gone.stepped };
  rests = λ e. absurd (cc e);
  counted = search rules;
  stays = λ e. absurd (cc e);
}

pub sweep_on-requires-clause-within : goal.sweep_on-requires-clause-within
sweep_on-requires-clause-within c = c.requires.1.at.place.within

pub sweep_on-requires-clause-passing : goal.sweep_on-requires-clause-passing
sweep_on-requires-clause-passing c = c.requires.1.at.passing

pub sweep_on-requires-2-clause-passing : goal.sweep_on-requires-2-clause-passing
sweep_on-requires-2-clause-passing c = passes_passed c.args.self.now c.sweep_on.new.self c.sweep_on.ensures.set c.requires.1.at.passing (c.sweep_on.ensures.idle c.in_default.is)
