use Rattle.std.proofs.Common.{◌≡◌, Some, slice_get, length, refl, ap, sym, ◌∙◌, arith}
use Rattle.std.proofs.lemmas.Option.{slice_get_read, slice_get_within}
use Rattle.raw_grid.specs.Topology.{proc_count}
use Rattle.raw_model.specs.Program.{ProgramSet}
use Rattle.raw_serial.specs.Fresh.{IsFirst}
use Rattle.raw_serial.proofs.Resets.{reset_more}
use Rattle.raw_serial.proofs.resetting.reset_processors.Goals as goal
use Rattle.raw_serial.proofs.resetting.reset_processors.Goals.{After-index-processors-p}

-- the processor at the loop's place
here : (c : After-index-processors-p) → slice_get c.loop-p.processors c.loop-p.p ≡ Some c.index-processors-p.result
here c =
    let procs = c.procs-p-end.ensures.value ∙ ap (λ (s : ProgramSet). proc_count s.topo) c.set.view_is in
    slice_get_read c.loop-p.processors (length c.loop-p.processors) c.loop-p.p c.index-processors-p.result refl
    (omega (arith, procs, c.requires.many, c.loop-p.auto.processors, c.loop-p-test.true)) c.index-processors-p.is

pub reset_processor-requires-clause-kept : goal.reset_processor-requires-clause-kept
reset_processor-requires-clause-kept c =
    c.requires.kept c.loop-p.p _ (sym (c.loop-p.invariant.rest c.loop-p.p (omega arith)) ∙ here c ∙ ap Some c.index-processors-p.is)

pub reset_processor-requires-clause-fits : goal.reset_processor-requires-clause-fits
reset_processor-requires-clause-fits c =
    c.requires.fits c.loop-p.p _ (sym (c.loop-p.invariant.rest c.loop-p.p (omega arith)) ∙ here c ∙ ap Some c.index-processors-p.is)

pub loop-p-preserved : goal.loop-p-preserved
loop-p-preserved c =
    reset_more (IsFirst c.args.set.now) c.args.processors.now c.loop-p.processors c.loop-p.p c.index-processors-p.result c.reset_processor.new.processor
    c.loop-p.invariant (here (goal.at.loop-p-preserved c).After-index-processors-p) c.reset_processor.ensures

pub returns : goal.returns
returns c =
    let procs = c.procs-p-end.ensures.value ∙ ap (λ (s : ProgramSet). proc_count s.topo) c.set.view_is in
    record {
      each = c.loop-p.auto.processors ∙ c.requires.many;
      first = λ q x here.
          let within = slice_get_within c.loop-p.processors q x here in
          c.loop-p.invariant.first q x (omega (arith, within, procs, c.requires.many, c.loop-p.auto.processors, c.loop-p-test.false)) here;
    }
