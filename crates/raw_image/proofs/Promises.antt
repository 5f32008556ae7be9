-- What the crates below promise of the words of instructions and of grids.
use Rattle.std.proofs.Common.{◌≡◌, ℕ, ◌+◌, ◌*◌, ◌^◌, ◌<◌, ◌≤◌, length, Some}
use Rattle.std.specs.Prelude.{IfSome}
use Rattle.raw_tile_isa.specs.Instruction.{Instruction, IsTileIns, TileCode, code_of, decode_of}
use Rattle.raw_grid.specs.declared.limits.TheConstants.{MAX_TILES}
use Rattle.raw_grid.specs.Topology.{Topology, IsTopology, tile_count}

pub record Promises : Type 0 where
  pub small : (ins : Instruction) → IsTileIns ins → code_of ins < 2 ^ 32
  pub decodes : (ins : Instruction) (word : ℕ) → TileCode ins word → decode_of word ≡ Some ins
  pub encodes : (word : ℕ) → IfSome (decode_of word) (λ ins. TileCode ins word)
  pub tiles : (t : Topology) → IsTopology t → tile_count t ≤ MAX_TILES
  pub ports : (t : Topology) → IsTopology t → length t.places ≤ 8 * (t.cols + t.rows)
