use Rattle.std.proofs.Common.{◌≡◌, ◌*◌, [], take}
use Rattle.raw_codegen.specs.Parts.{programs_of}
use Rattle.raw_route.specs.Planned.{sendings, parts_from}
use Rattle.raw_route.specs.Counts.{AreCounts}
use Rattle.raw_route.proofs.planning.give_hauls.Given as goal

-- the hauls so far have given their parts, and have been counted
abbrev pub invariant-loop-i : goal.invariant-loop-i
invariant-loop-i l = record {
  programs : l.programs ≡ programs_of (l.cols * l.rows) (parts_from l.cols l.rows [] (take l.i (sendings l.hauls l.words)));
  counts : AreCounts (l.cols * l.rows) l.counts.items (take l.i (sendings l.hauls l.words));
}
