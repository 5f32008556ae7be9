use Rattle.std.proofs.Common.{ℕ}
use Rattle.raw_codegen.specs.Parts.{halts_to, Gives}
use Rattle.raw_codegen.proofs.programs.push_halts.Given as goal

-- the tiles so far have got their 'halt'
abbrev pub invariant-loop-tile : goal.invariant-loop-tile
invariant-loop-tile l = (n : ℕ) → Gives n (halts_to l.tile) l.initial.tiles.items l.tiles.items
