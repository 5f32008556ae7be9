use Rattle.std.proofs.Common.{◌≡◌, map, take}
use Rattle.raw_stream_choice.specs.PortNumbers.{out_behind}
use Rattle.raw_stream_choice.proofs.numbered.outs_behind.Given as goal

abbrev pub invariant-loop-out : goal.invariant-loop-out
invariant-loop-out l = l.behind.items ≡ map (out_behind l.ports) (take l.out-index l.outs)
