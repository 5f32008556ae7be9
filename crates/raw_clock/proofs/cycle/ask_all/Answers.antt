use Rattle.std.proofs.Common.{arith, ◌<◌, ◌+◌, length, MatchBool, sym, ap, ◌∙◌, subst}
use Rattle.std.specs.Prelude.{slice_index}
use Rattle.raw_grid.specs.Topology.{tile_count}
use Rattle.raw_clock.specs.Clock.{goes}
use Rattle.raw_clock.specs.Engine.{SomeGoes, NoneGoes}
use Rattle.raw_clock.proofs.Asking.{set_turns, more_goes, more_tiles}
use Rattle.raw_clock.proofs.cycle.ask_all.Goals as goal

pub procs-preserved : goal.procs-preserved
procs-preserved c =
    let m = c.args.machine.now in
    let there : c.procs.p < length c.procs.turns = omega (arith, c.procs-test.true, c.procs.invariant.0, c.procs.auto.turns, c.requires) in (
      c.procs.invariant.0,
      set_turns m c.procs.turns c.procs.p c.ask-turn.result there c.procs.invariant.1 c.ask-turn.ensures.answer,
      more_tiles m (tile_count m.set.topo) c.procs.p (λ q. slice_index m.owed q) c.procs.invariant.2 c.ask-turn.ensures.tiles,
      subst (λ b. MatchBool b (SomeGoes m (c.procs.p + 1)) (NoneGoes m (c.procs.p + 1))) (sym c.either-some.ensures)
          (more_goes m c.procs.p c.procs.some c.goes.result c.procs.invariant.3 (c.goes.ensures ∙ ap goes c.ask-turn.ensures.answer)),
    )
