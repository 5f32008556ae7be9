use Rattle.std.proofs.Common.{◌≡◌, []}
use Rattle.raw_codegen.specs.Parts.{programs_of}
use Rattle.raw_codegen.proofs.programs.blank.Given as goal

abbrev pub invariant-loop : goal.invariant-loop
invariant-loop l = l.tiles.items ≡ programs_of l.counter []
