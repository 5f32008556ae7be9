use Rattle.std.proofs.Common.{◌≡◌, map, drop}
use Rattle.std.specs.Prelude.{slice_index}
use Rattle.raw_term.specs.Verdicts.{compared}
use Rattle.raw_prove.proofs.comparing.compared_classes.Given as goal

abbrev pub invariant-loop-k : goal.invariant-loop-k
invariant-loop-k l =
    compared l.table l.k (map (slice_index l.classes) (drop l.k l.got)) (map (slice_index l.classes) (drop l.k l.claimed))
    ≡ compared l.table 0 (map (slice_index l.classes) l.got) (map (slice_index l.classes) l.claimed)
