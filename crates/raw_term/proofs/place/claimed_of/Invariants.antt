use Rattle.std.proofs.Common.{◌≡◌, take}
use Rattle.raw_term.specs.Seen.{claimed_of}
use Rattle.raw_term.proofs.place.claimed_of.Given as goal

abbrev pub invariant-loop-place : goal.invariant-loop-place
invariant-loop-place l = l.count ≡ claimed_of (take l.place-index l.places) l.sink
