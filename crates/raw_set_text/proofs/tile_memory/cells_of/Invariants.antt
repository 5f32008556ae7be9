use Rattle.std.proofs.Common.{◌≡◌, ℕ, ◌<◌, ◌++◌, map}
use Rattle.std.specs.List.{AllByRecursion}
use Rattle.raw_model.specs.declared.limits.TheConstants.{MEMORY_WORDS}
use Rattle.raw_set_text.proofs.Building.TilesCells.{entry_cell}
use Rattle.raw_set_text.proofs.tile_memory.cells_of.Given as goal

abbrev pub invariant-loop-place : goal.invariant-loop-place
invariant-loop-place l = record {
  cells : l.cells.items ++ map entry_cell l.place-iterator ≡ map entry_cell l.memory.entries;
  inside : AllByRecursion (λ (e : ℕ × ℕ). e.0 < MEMORY_WORDS) l.place-iterator;
}
