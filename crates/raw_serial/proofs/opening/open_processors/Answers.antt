use Rattle.std.proofs.Common.{length, List, ap, sym, subst, ◌∙◌, arith}
use Rattle.std.specs.Prelude.{slice_get}
use Rattle.std.proofs.lemmas.List.{length_push}
use Rattle.raw_grid.specs.Topology.{proc_count}
use Rattle.raw_model.specs.Program.{ProgramSet}
use Rattle.raw_processor.specs.declared.processor.Processor.{Processor}
use Rattle.raw_serial.specs.Fresh.{IsFirst}
use Rattle.raw_serial.proofs.Fields.{each_more}
use Rattle.raw_serial.proofs.opening.open_processors.Goals as goal

pub loop-p-preserved : goal.loop-p-preserved
loop-p-preserved c =
    let many = length_push c.loop-p.processors.items c.in_ok-processor.processor in
    let pushed = ap length c.in_ok-push.ensures.items in (
      omega (arith, many, pushed, c.loop-p.invariant.0),
      λ q x here.
          each_more (IsFirst c.args.set.now) c.loop-p.processors.items c.in_ok-processor.processor c.loop-p.invariant.1
          (subst (λ n. IsFirst c.args.set.now n c.in_ok-processor.processor) (sym c.loop-p.invariant.0) c.in_ok-processor.ensures)
          q x (ap (λ (xs : List Processor). slice_get xs q) (sym c.in_ok-push.ensures.items) ∙ here),
    )

pub returns : goal.returns
returns c =
    let procs = c.procs-procs.ensures.value ∙ ap (λ (s : ProgramSet). proc_count s.topo) c.set.view_is in
    record {
      each = omega (arith, procs, c.loop-p.invariant.0, c.loop-p-test.false, c.loop-p.auto.p-end);
      first = c.loop-p.invariant.1;
    }
