-- Entries that have nothing for any tile.
use Rattle.std.proofs.Common.{◌≡◌, ℕ, List, [], None}
use Rattle.raw_set_text.specs.declared.tiles.Tiles.{Tiles}
use Rattle.raw_set_text.specs.Entry.{Entry}
use Rattle.raw_set_text.specs.Entries.{code_in, switch_in, word_in, misses_in, columns_of}
use Rattle.raw_set_text.specs.Faults.{cells_in, turns_in, instructions_in, routed_in}
use Rattle.raw_set_text.specs.Answers.{with_entry}
use Rattle.raw_set_text.specs.Building.{TilesStand}
use Rattle.raw_set_text.proofs.Building.TilesNext.{tiles_same}

-- an entry that has no program, word or number for a tile, and adds to none of the totals, leaves the tiles as they are
pub tiles_keep : (tiles : Tiles) (entries : List Entry) (entry : Entry) → ((columns t : ℕ) → code_in columns t entry ≡ None) → ((columns t : ℕ) → switch_in columns t entry ≡ None) → ((columns t address : ℕ) → word_in columns t address entry ≡ None) → ((columns t : ℕ) → misses_in columns t entry ≡ []) → cells_in entry ≡ 0 → turns_in entry ≡ 0 → instructions_in entry ≡ 0 → routed_in entry ≡ 0 → TilesStand tiles entries → TilesStand tiles (with_entry entries entry)
tiles_keep tiles entries entry code switch word misses cells turns instructions routed stands =
    tiles_same tiles entries entry stands
    (λ u. record { code = code (columns_of entries) u; switch = switch (columns_of entries) u; word = word (columns_of entries) u; misses = misses (columns_of entries) u })
    cells turns instructions routed
