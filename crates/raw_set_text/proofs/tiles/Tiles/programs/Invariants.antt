use Rattle.std.proofs.Common.{◌≡◌, map}
use Rattle.raw_model.specs.declared.limits.TheConstants.{MEMORY_WORDS}
use Rattle.raw_set_text.specs.Tiling.{program_of}
use Rattle.raw_set_text.proofs.tiles.Tiles.programs.Given as goal

abbrev pub invariant-loop-parts : goal.invariant-loop-parts
invariant-loop-parts l = l.programs.items ≡ map (program_of MEMORY_WORDS) l.yielded
