-- What the lines that programs have mean.
use Rattle.std.specs.Prelude.{◌≡◌, ℕ, List, [], Option, Some, None, slice_get}
use Rattle.raw_tile_isa.specs.Instruction.{Instruction}
use Rattle.raw_switch_isa.specs.Instruction.{SwitchInstruction}
use Rattle.raw_grid.specs.declared.parts.Ends.{Ends}
use Rattle.raw_model.specs.Program.{ProgramSet, TileProgram}
use Rattle.raw_asm.specs.Section.{IsMeaning}
use Rattle.raw_tile_asm.specs.Language.{tile_language}
use Rattle.raw_switch_asm.specs.Language.{switch_language}
use Rattle.raw_lines.specs.declared.kind.ProgramKind.TheVariants.{Tile, Switch}
use Rattle.raw_lines.specs.Sections.{sections_in, part_for}

-- lines mean this program of a tile, or of a switch with wires at some ends
abbrev pub MeanTile : List (List (List ℕ)) → List Instruction → Type 0
MeanTile lines code = IsMeaning tile_language lines code

abbrev pub MeanSwitch : List (List (List ℕ)) → List SwitchInstruction → Type 0
MeanSwitch lines code = (ends : Ends) × IsMeaning (switch_language ends) lines code

-- the lines that a program has mean it; one without lines is empty
abbrev pub Gives : {I : Type 0} → (List (List (List ℕ)) → List I → Type 0) → List I → Option (ℕ × List (List (List ℕ))) → Type 0
Gives Mean code None = code ≡ []
Gives Mean code (Some part) = Mean part.1 code

-- the lines that each program of the set has mean that program, and one without lines is empty
pub record ArePrograms (lines : List (List (List ℕ))) (set : ProgramSet) : Type 0 where
  pub tiles : (t : ℕ) (program : TileProgram) → slice_get set.tiles t ≡ Some program → Gives MeanTile program.code (part_for lines (sections_in lines) Tile set.topo t)
  pub switches : (t : ℕ) (program : TileProgram) → slice_get set.tiles t ≡ Some program → Gives MeanSwitch program.switch (part_for lines (sections_in lines) Switch set.topo t)
