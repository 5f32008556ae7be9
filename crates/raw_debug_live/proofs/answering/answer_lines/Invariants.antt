use Rattle.std.proofs.Common.{◌≡◌, ℕ, ◌+◌, ◌-◌, ◌≤◌, List, length}
use Rattle.std.specs.Io.KnownBytes.{Consumes}
use Rattle.raw_lines.specs.LabelsOf.{places_in}
use Rattle.raw_debug_live.specs.Answering.{At}
use Rattle.raw_debug_live.proofs.answering.answer_lines.Given as goal

abbrev pub invariant-bytes : goal.invariant-bytes
invariant-bytes g l = record {
  read : (bytes : List ℕ) × Consumes (g.S.Source.sight l.fn.source).left (g.S.Source.sight l.source).left bytes × (length bytes ≡ l.count)
      × At (places_in l.labels) l.fn.debugger.set bytes (g.K.Sink.sight l.fn.out) (g.K.Sink.sight l.out) l.debugger l.line;
  within : l.count ≤ l.most;
  counted : (g.S.Source.sight l.source).given ≡ (g.S.Source.sight l.fn.source).given + l.count;
  later : (g.S.Source.sight l.fn.source).faults ≤ (g.S.Source.sight l.source).faults;
}

abbrev pub decreases-bytes : goal.decreases-bytes
decreases-bytes g l = l.most - l.count
