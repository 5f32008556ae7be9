use Rattle.std.proofs.Common.{◌≡◌, ◌+◌, drop}
use Rattle.raw_state_text.proofs.Sections.{Begun}
use Rattle.raw_depths.specs.Found.{lines_of}
use Rattle.raw_depths.proofs.writing.put_rests.Given as goal

abbrev pub invariant-loop-rest : goal.invariant-loop-rest
invariant-loop-rest g l =
    record {
      depth : l.depth ≡ l.rest-index + 1;
      begun : Begun (g.K.Sink.sight l.fn.out) (g.K.Sink.sight l.out) (lines_of l.depth (drop l.rest-index l.found.rests.items)) (lines_of 1 l.found.rests.items);
    }
