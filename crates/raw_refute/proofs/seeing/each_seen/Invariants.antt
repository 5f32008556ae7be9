use Rattle.std.proofs.Common.{◌≡◌, map, take}
use Rattle.raw_term.specs.Seen.{word_seen, word_of_bytes}
use Rattle.raw_refute.proofs.seeing.each_seen.Given as goal

abbrev pub invariant-loop-place : goal.invariant-loop-place
invariant-loop-place l = l.words.items ≡ map (word_seen word_of_bytes l.machine.state.locals) (take l.place-index l.places)
