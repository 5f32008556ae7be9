use Rattle.std.proofs.Common.{◌≡◌, ◌-◌, ◌++◌}
use Rattle.raw_generated.specs.Generated.{words_from}
use Rattle.raw_generated.proofs.ports.words_from.Given as goal

abbrev pub invariant-loop : goal.invariant-loop
invariant-loop l = l.words.items ++ words_from (l.count - l.counter) l.word ≡ words_from l.count l.first
