use Rattle.std.proofs.Common.{◌≡◌, map, take}
use Rattle.raw_stream.specs.Streams.{valued}
use Rattle.raw_cut.proofs.arriving.are_wires_at.Given as goal

abbrev pub invariant-loop-w : goal.invariant-loop-w
invariant-loop-w l = take l.w l.wires ≡ map (valued l.numbers) (map (λ wire. wire.items) (take l.w l.cuts))
