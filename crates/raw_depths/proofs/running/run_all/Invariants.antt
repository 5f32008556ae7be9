use Rattle.std.proofs.Common.{◌≡◌, ◌-◌, ◌<◌}
use Rattle.raw_depth.specs.Depth.{at_depth}
use Rattle.raw_depths.specs.Text.{report_at}
use Rattle.raw_depths.specs.Found.{IsFoundTo}
use Rattle.raw_depths.proofs.running.run_all.Given as goal

abbrev pub invariant-loop-depth : goal.invariant-loop-depth
invariant-loop-depth l =
    record {
      found : IsFoundTo l.fn.set (l.depth - 1) l.found;
      first : l.depth ≡ 1 → l.found.same_from ≡ 1;
      last : 1 < l.depth → l.last.items ≡ report_at l.fn.set (l.depth - 1);
      set : l.set ≡ at_depth l.fn.set l.set.depth;
    }
