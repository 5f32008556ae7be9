use Rattle.std.proofs.Common.{◌≡◌, map, take}
use Rattle.std.specs.Prelude.{slice_index}
use Rattle.raw_term.specs.Seen.{word_seen}
use Rattle.raw_prove.specs.Units.{local_of}
use Rattle.raw_prove.proofs.machine.Machine.each_seen.Given as goal

abbrev pub invariant-loop-place : goal.invariant-loop-place
invariant-loop-place l = l.terms.items ≡ map (word_seen slice_index (map local_of l.self.units.items)) (take l.place-index l.places)
