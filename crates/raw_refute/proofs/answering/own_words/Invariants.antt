use Rattle.std.proofs.Common.{◌≡◌, ◌++◌, drop}
use Rattle.std.specs.List.{flat_map}
use Rattle.raw_model.specs.Program.{PortProgram}
use Rattle.raw_refute.specs.Answers.{own_words}
use Rattle.raw_refute.proofs.answering.own_words.Given as goal

abbrev pub invariant-loop-port : goal.invariant-loop-port
invariant-loop-port l = l.words.items ++ flat_map (λ (port : PortProgram). port.words) (drop l.port-index l.set.ports) ≡ own_words l.set
