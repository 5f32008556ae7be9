use Rattle.std.proofs.Common.{◌≡◌, ◌++◌, take}
use Rattle.raw_set_text.proofs.tile_parts.push_turns.Given as goal

abbrev pub invariant-loop-n : goal.invariant-loop-n
invariant-loop-n l = l.misses.items ≡ l.initial.misses.items ++ take l.n-index l.turns
