-- Entries that may each stand where they do declare a lawful set.
use Rattle.std.proofs.Common.{◌≡◌, ℕ, ◌≤◌, List, length, arith}
use Rattle.std.specs.List.{All, range_with_len}
use Rattle.std.proofs.lemmas.List.Elements.{All-map}
use Rattle.std.proofs.lemmas.List.FromFn.{length-map-range_with_len}
use Rattle.raw_grid.specs.Topology.{IsSize, tile_count}
use Rattle.raw_model.specs.declared.limits.TheConstants.{MAX_STEPS, MEMORY_WORDS}
use Rattle.raw_model.specs.Program.{TileProgram, IsTileProgram, AreWithinTotals, IsSet}
use Rattle.raw_set_text.specs.Entry.{Entry}
use Rattle.raw_set_text.specs.Entries.{topology_of, tile_of, tiles_of, set_of}
use Rattle.raw_set_text.proofs.Lawful.Lists.{sum_map}
use Rattle.raw_set_text.proofs.Lawful.Entries.{whole, Good, all_plain}
use Rattle.raw_set_text.proofs.Lawful.Ports.{lawful_topology, each_port, port_programs, port_kinds, words_total, capacities_total}
use Rattle.raw_set_text.proofs.Lawful.Totals.{all_few, lawful_depth, lawful_shows, shows_total, shown_total}
use Rattle.raw_set_text.proofs.Lawful.Tiles.{lawful_code, lawful_switch, lawful_misses, lawful_cells, rising_cells}
use Rattle.raw_set_text.proofs.Lawful.Sums.{codes_total, switches_total, misses_total, cells_total}
use Rattle.raw_set_text.proofs.Lawful.Wires.{lawful_wires}

-- a tile is given a lawful program
tile_lawful : (columns rows limit : ℕ) (rest : List Entry) → Good columns rows limit rest → (t : ℕ) → IsTileProgram (tile_of (whole columns rows limit rest) t)
unfolding tile_of
tile_lawful columns rows limit rest good t =
    let entries = whole columns rows limit rest in
    let all = all_plain columns rows limit rest good in
    let code = lawful_code columns rows t entries all in
    let switch = lawful_switch columns rows t entries all in
    record {
      instructions = code.each;
      few = code.few;
      switch_instructions = switch.0;
      few_switch = switch.1;
      cells = lawful_cells columns rows t MEMORY_WORDS entries (omega arith) all;
      rising = rising_cells columns t MEMORY_WORDS entries;
      misses = lawful_misses columns rows t entries all;
    }

tiles_lawful : (columns rows limit : ℕ) (rest : List Entry) → Good columns rows limit rest → All IsTileProgram (tiles_of (whole columns rows limit rest))
unfolding tiles_of
tiles_lawful columns rows limit rest good =
    All-map IsTileProgram (tile_of (whole columns rows limit rest)) (range_with_len 0 (tile_count (topology_of (whole columns rows limit rest)))) (λ k d l. tile_lawful columns rows limit rest good _)

tiles_count : (entries : List Entry) → length (tiles_of entries) ≡ tile_count (topology_of entries)
unfolding tiles_of
tiles_count entries = length-map-range_with_len (tile_of entries) 0 (tile_count (topology_of entries))

totals : (columns rows limit : ℕ) (rest : List Entry) → IsSize columns rows → Good columns rows limit rest → AreWithinTotals (set_of (whole columns rows limit rest))
unfolding set_of tiles_of tile_of
totals columns rows limit rest size good =
    let entries = whole columns rows limit rest in
    let all = all_plain columns rows limit rest good in
    let few = all_few columns rows limit rest good in
    let n = tile_count (topology_of entries) in
    let ts = range_with_len 0 n in
    record {
      instructions = omega (arith, sum_map (λ (tile : TileProgram). length tile.code) (tile_of entries) ts, codes_total columns rows n entries all, few.instructions);
      switch_instructions = omega (arith, sum_map (λ (tile : TileProgram). length tile.switch) (tile_of entries) ts, switches_total columns rows n entries all, few.routed);
      cells = omega (arith, sum_map (λ (tile : TileProgram). length tile.cells) (tile_of entries) ts, cells_total columns rows MEMORY_WORDS n entries all, few.cells);
      misses = omega (arith, sum_map (λ (tile : TileProgram). length tile.misses) (tile_of entries) ts, misses_total columns rows n entries all, few.turns);
      words = omega (arith, words_total columns rows entries all (lawful_topology columns rows limit rest size good), few.fed);
      capacities = omega (arith, capacities_total entries, few.capacity);
      shows = omega (arith, shows_total columns rows limit rest, few.shows);
      shown = omega (arith, shown_total columns rows limit rest, few.shown);
    }

-- a limit that a set may have
abbrev pub IsLimit : ℕ → Type 0
IsLimit limit = (1 ≤ limit) × (limit ≤ MAX_STEPS)

pub lawful_whole : (columns rows limit : ℕ) (rest : List Entry) → IsSize columns rows → IsLimit limit → Good columns rows limit rest → IsSet (set_of (whole columns rows limit rest))
unfolding set_of
lawful_whole columns rows limit rest size steps good =
    let entries = whole columns rows limit rest in
    let all = all_plain columns rows limit rest good in
    let depth = lawful_depth columns rows entries all in
    record {
      topology = lawful_topology columns rows limit rest size good;
      some_steps = steps.0;
      few_steps = steps.1;
      some_depth = depth.0;
      small_depth = depth.1;
      each_port = each_port entries;
      each_tile = tiles_count entries;
      port_programs = port_programs columns rows entries all;
      port_kinds = port_kinds columns rows entries all;
      tile_programs = tiles_lawful columns rows limit rest good;
      wires = lawful_wires columns rows limit rest good;
      shows = lawful_shows columns rows limit rest good;
      totals = totals columns rows limit rest size good;
    }
