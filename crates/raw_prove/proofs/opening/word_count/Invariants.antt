use Rattle.std.proofs.Common.{◌≡◌, ◌+◌, drop}
use Rattle.raw_prove.proofs.Starting.{words_in}
use Rattle.raw_prove.proofs.opening.word_count.Given as goal
use Rattle.raw_model.specs.Bounds.{all_words}

abbrev pub invariant-loop-port : goal.invariant-loop-port
invariant-loop-port l = l.count + words_in (drop l.port-index l.set.ports) ≡ all_words l.set
