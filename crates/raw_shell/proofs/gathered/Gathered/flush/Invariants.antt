use Rattle.std.proofs.Common.{◌≤◌, length}
use Rattle.std.specs.Io.KnownBytes.{Keeps}
use Rattle.raw_shell.specs.Gathered.{gathered, behind, told}
use Rattle.raw_shell.proofs.gathered.Gathered.flush.Given as goal

abbrev pub invariant-loop-self : goal.invariant-loop-self
invariant-loop-self g l = record {
  keeps : Keeps (told g.K.Sink.sight l.fn.self).bytes (told g.K.Sink.sight l.self).bytes;
  later : (behind g.K.Sink.sight l.fn.self).faults ≤ (behind g.K.Sink.sight l.self).faults;
}

abbrev pub decreases-loop-self : goal.decreases-loop-self
decreases-loop-self g l = length (gathered l.self)
