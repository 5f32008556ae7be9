use Rattle.std.proofs.Common.{◌≡◌, ◌+◌, ◌-◌, ◌<◌, true, refl, sym, ◌∙◌, arith, rules}
use Rattle.raw_grid.specs.Topology.{proc_count}
use Rattle.raw_debug.proofs.Walks.{counts_fit}
use Rattle.raw_debug.proofs.Alone.{goes_alone}
use Rattle.raw_debug.proofs.walk.Walk.advance_alone.Goals as goal

pub overflow_add-self : goal.overflow_add-self
overflow_add-self c =
    let fits = counts_fit c.args.self.now c.set-set.ensures.valid c.law_serial.ensures.run c.law_bound.ensures.most_steps c.requires.under_way in
    omega (arith, fits)

pub returns : goal.returns
returns c = record {
  set = c.step.ensures.set;
  gone = λ done at.
      let old = c.args.self.now in
      let none = at.alone c.requires.alone in
      let last : old.next ≡ old.next - 1 + 1 = omega (arith, none.some) in
      let there : old.next - 1 < proc_count old.machine.set.topo = omega (arith, at.place.within, none.some) in
      let fired : c.step.result ≡ true = c.if-not-step.false in
      let gone = goes_alone old (record old { machine = c.step.new.self; alone = c.is_within-within.result }) c.step.ensures.set refl refl (old.next - 1) last none
      (c.law_wired.ensures.sends_once old.machine.set) there (sym c.step.ensures.enabled ∙ fired) (c.step.ensures.step fired) c.is_within-within.ensures done at in
      record { at = record { place = gone.at.place; passing = gone.at.passing; alone = gone.at.alone }; ready = gone.ready; stepped = gone.stepped };
  rests = λ e. absurd (cc e);
  counted = search rules;
  stays = λ e. absurd (cc e);
}
