-- The language of tiles.
use Rattle.std.specs.Prelude.{ℕ, List, [], ◌∷◌, Option, Result, Ok, codes, slice_index_or, if◌then◌else◌}
use Rattle.std.specs.Str.{bytes_eq}
use Rattle.raw_text.specs.Number.{number_of}
use Rattle.raw_asm.specs.declared.kind.AsmKind.{AsmKind}
use Rattle.raw_asm.specs.Language.{Language}
use Rattle.raw_tile_isa.specs.declared.limits.TheConstants.{MAX_TILE_CODE}
use Rattle.raw_tile_isa.specs.Instruction.{Instruction}
use Rattle.raw_tile_asm.specs.Form.{form_named}
use Rattle.raw_tile_asm.specs.Statement.{load_statement, load_size, word_statement, named_code}

-- the instructions of a statement at a place
abbrev pub statement_code : (List ℕ → Option ℕ) → ℕ → List (List ℕ) → Result (List Instruction) AsmKind
statement_code labels place [] = Ok []
statement_code labels place (name ∷ operands) =
    if bytes_eq name (codes "li") then load_statement operands
    else (if bytes_eq name (codes ".word") then word_statement operands
    else named_code labels place (form_named name) operands)

-- how many instructions a statement gives
abbrev pub statement_size : List (List ℕ) → ℕ
statement_size [] = 0
statement_size (name ∷ operands) = if bytes_eq name (codes "li") then load_size (number_of (slice_index_or operands 1 [])) else 1

-- tile text, and how many instructions a program has at most
abbrev pub tile_language : Language Instruction
tile_language = record { size = statement_size; code = statement_code; most = MAX_TILE_CODE }
