use Rattle.std.proofs.Common.{◌≡◌, take}
use Rattle.raw_stream.specs.Streams.{valued}
use Rattle.raw_cut.proofs.numbers.valued.Given as goal

abbrev pub invariant-loop-place : goal.invariant-loop-place
invariant-loop-place l = l.found.items ≡ valued l.numbers (take l.place-index l.places)
