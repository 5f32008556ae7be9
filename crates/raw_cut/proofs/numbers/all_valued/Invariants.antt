use Rattle.std.proofs.Common.{◌≡◌, length, take}
use Rattle.raw_stream.specs.Streams.{valued}
use Rattle.raw_cut.proofs.numbers.all_valued.Given as goal

abbrev pub invariant-loop-i : goal.invariant-loop-i
invariant-loop-i g l = record {
  many : length l.found ≡ length l.places;
  same : take l.i l.found ≡ valued l.numbers (take l.i l.places);
}
