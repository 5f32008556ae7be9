use Rattle.std.proofs.Common.{◌≡◌, length, take, sum_by}
use Rattle.raw_model.specs.Program.{PortProgram}
use Rattle.raw_live.proofs.judging.count_words.Given as goal

abbrev pub invariant-loop-port : goal.invariant-loop-port
invariant-loop-port l = l.count ≡ sum_by (λ (port : PortProgram). length port.words) (take l.port-index l.ports)
