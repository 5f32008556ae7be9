use Rattle.std.proofs.Common.{◌+◌, ap}
use Rattle.raw_state_text.proofs.Sections.{one_more, failed, same_text}
use Rattle.raw_depths.proofs.Verdicts.{lines_next}
use Rattle.raw_depths.proofs.writing.put_rests.Goals as goal

pub returns-in_err-put_line : goal.returns-in_err-put_line
returns-in_err-put_line g c =
    failed _ _ _ _ _ _ _ c.loop-rest.invariant.begun
    (lines_next c.as_slice-rest-items.result.now c.args.found.now.rests.items c.loop-rest.rest-index c.loop-rest.depth _ c.as_slice-rest-items.ensures.value c.loop-rest-test.true) _
    c.from_residual.result c.from_residual.ensures.0 (same_text _ _ _ _ _ c.depth_line.ensures c.in_err-put_line.ensures)

pub loop-rest-preserved : goal.loop-rest-preserved
loop-rest-preserved g c =
    record {
      depth = ap (λ n. n + 1) c.loop-rest.invariant.depth;
      begun = one_more _ _ _ _ _ _ _ c.loop-rest.invariant.begun
          (lines_next c.as_slice-rest-items.result.now c.args.found.now.rests.items c.loop-rest.rest-index c.loop-rest.depth _ c.as_slice-rest-items.ensures.value c.loop-rest-test.true) _
          (same_text _ _ _ _ _ c.depth_line.ensures c.in_ok-put_line.ensures);
    }
