use Rattle.std.proofs.Common.{◌≤◌, take, ◌++◌}
use Rattle.std.specs.Prelude.{codes, decimal}
use Rattle.std.specs.List.{flat_map}
use Rattle.std.specs.Io.KnownBytes.{Appends}
use Rattle.raw_report.proofs.history.write_history.Given as goal

abbrev pub invariant-loop-step : goal.invariant-loop-step
invariant-loop-step g l = record {
  appended : Appends (g.K.Sink.sight l.fn.out).bytes (g.K.Sink.sight l.out).bytes (codes "history\n" ++ flat_map (λ p. decimal p.0 ++ codes "\n") (take l.step-index l.steps));
  later : (g.K.Sink.sight l.fn.out).faults ≤ (g.K.Sink.sight l.out).faults;
}
