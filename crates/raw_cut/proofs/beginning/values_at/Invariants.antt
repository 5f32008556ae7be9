use Rattle.std.proofs.Common.{◌≡◌, map, take}
use Rattle.raw_stream.specs.Streams.{valued}
use Rattle.raw_cut.proofs.beginning.values_at.Given as goal

abbrev pub invariant-loop-cut : goal.invariant-loop-cut
invariant-loop-cut l = map (λ wire. wire.items) l.values.items ≡ map (valued l.numbers) (map (λ wire. wire.items) (take l.cut-index l.cuts))
