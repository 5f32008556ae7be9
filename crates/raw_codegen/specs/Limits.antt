-- When programs are within the limits of a set.
use Rattle.std.specs.Prelude.{◌≡◌, ℕ, ◌<◌, ◌≤◌, ◌⊎◌, List, ◌++◌, length, sum_by, All}
use Rattle.raw_tile_isa.specs.declared.limits.TheConstants.{MAX_TILE_CODE}
use Rattle.raw_switch_isa.specs.declared.limits.TheConstants.{MAX_SWITCH_CODE}
use Rattle.raw_model.specs.declared.limits.TheConstants.{MAX_ALL_CODE, MAX_ALL_SWITCH_CODE}
use Rattle.raw_model.specs.Program.{TileProgram}
use Rattle.raw_codegen.specs.Parts.{Part, tile_part, switch_part, programs_of}

-- the programs of a tile and of its switch are short enough for them
pub record IsShort (tile : TileProgram) : Type 0 where
  pub code : length tile.code ≤ MAX_TILE_CODE
  pub switch : length tile.switch ≤ MAX_SWITCH_CODE

-- each is, and all together are
pub record AreShort (tiles : List TileProgram) : Type 0 where
  pub each : All IsShort tiles
  pub all_code : sum_by (λ (tile : TileProgram). length tile.code) tiles ≤ MAX_ALL_CODE
  pub all_switch : sum_by (λ (tile : TileProgram). length tile.switch) tiles ≤ MAX_ALL_SWITCH_CODE

-- with these parts and 'halt' behind them the program of some tile among n, or of its switch, is longer than that
abbrev pub IsTooLong : ℕ → List Part → Type 0
IsTooLong n parts =
    (t : ℕ) × (t < n) × ((MAX_TILE_CODE ≤ length (tile_part t parts)) ⊎ (MAX_SWITCH_CODE ≤ length (switch_part t parts)))

-- the programs of n tiles get too long by these parts more
abbrev pub Overflows : ℕ → List Part → List TileProgram → Type 0
Overflows n chunk old = (parts : List Part) → old ≡ programs_of n parts → IsTooLong n (parts ++ chunk)
