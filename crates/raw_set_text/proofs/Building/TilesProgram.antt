-- The program of a tile from its parts.
use Rattle.std.proofs.Common.{◌≡◌, ℕ, ◌+◌, ◌*◌, List, [], ◌∷◌, suc, map, length, Some, refl, ap, ◌∙◌, arith}
use Rattle.std.specs.Option.{option_map}
use Rattle.std.specs.List.{slice_get, filter_map, range_with_len}
use Rattle.raw_tile_isa.specs.Instruction.{Instruction}
use Rattle.raw_switch_isa.specs.Instruction.{SwitchInstruction}
use Rattle.raw_model.specs.declared.program.DataWord.{DataWord}
use Rattle.raw_model.specs.Program.{TileProgram}
use Rattle.raw_model.specs.declared.limits.TheConstants.{MEMORY_WORDS}
use Rattle.raw_set_text.specs.declared.tile_parts.TileParts.{TileParts}
use Rattle.raw_set_text.specs.declared.tiles.Tiles.{Tiles}
use Rattle.raw_set_text.specs.Entry.{Entry}
use Rattle.raw_set_text.specs.Entries.{addresses, cell_of, tile_of, tiles_of, codes_of, switches_of}
use Rattle.raw_set_text.specs.Building.{TileStands, TilesStand}
use Rattle.raw_set_text.specs.Memory.{cells_within}
use Rattle.raw_set_text.specs.Tiling.{program_of}
use Rattle.raw_set_text.proofs.Building.TilesLists.{unwrap_first}
use Rattle.raw_set_text.proofs.Building.TilesMemory.{cells_same}

abbrev pub tile_program : List Instruction → List SwitchInstruction → List DataWord → List ℕ → TileProgram
tile_program code switch cells misses = record { code = code; switch = switch; cells = cells; misses = misses }

pub same_program : (code code' : List Instruction) (switch switch' : List SwitchInstruction) (cells cells' : List DataWord) (misses misses' : List ℕ) → code ≡ code' → switch ≡ switch' → cells ≡ cells' → misses ≡ misses' → tile_program code switch cells misses ≡ tile_program code' switch' cells' misses'
same_program code code' switch switch' cells cells' misses misses' a b c d =
    ap (λ x. tile_program x switch cells misses) a ∙ ap (λ x. tile_program code' x cells misses) b
    ∙ ap (λ x. tile_program code' switch' x misses) c ∙ ap (λ x. tile_program code' switch' cells' x) d

-- the cells of a tile
tile_cells : (parts : TileParts) (entries : List Entry) (t : ℕ) → TileStands parts entries t → cells_within MEMORY_WORDS parts.memory ≡ filter_map (cell_of entries t) addresses
unfolding cells_within
tile_cells parts entries t stands =
    cells_same MEMORY_WORDS 0 parts.memory (cell_of entries t) (λ i low high. ap (option_map (λ word. record { address = 4 * i; word = word })) (stands.memory i (omega (arith, high))))

-- the program of a tile is what the entries declare for it
tile_is : (parts : TileParts) (entries : List Entry) (t : ℕ) → TileStands parts entries t → program_of MEMORY_WORDS parts ≡ tile_of entries t
unfolding program_of tile_of
tile_is parts entries t stands =
    same_program _ _ _ _ _ _ _ _ (unwrap_first _ (codes_of entries t) [] stands.code) (unwrap_first _ (switches_of entries t) [] stands.switch) (tile_cells parts entries t stands) stands.misses

by_place : {A B : Type 0} (f : A → B) (g : ℕ → B) (xs : List A) (a : ℕ) → ((t : ℕ) (x : A) → slice_get xs t ≡ Some x → f x ≡ g (a + t)) → map f xs ≡ map g (range_with_len a (length xs))
by_place f g [] a h = refl
by_place f g (x ∷ xs) a h =
    let here : a + 0 ≡ a = omega arith in
    ap (λ y. y ∷ map f xs) (h 0 x refl ∙ ap g here)
    ∙ ap (λ ys. g a ∷ ys) (by_place f g xs (a + 1) (λ t y k. let place : a + suc t ≡ a + 1 + t = omega arith in h (suc t) y k ∙ ap g place))

pub programs_are : (tiles : Tiles) (entries : List Entry) → TilesStand tiles entries → map (program_of MEMORY_WORDS) tiles.parts.items ≡ tiles_of entries
unfolding tiles_of
programs_are tiles entries stands =
    by_place (program_of MEMORY_WORDS) (tile_of entries) tiles.parts.items 0
    (λ t parts h. let place : t ≡ 0 + t = omega arith in tile_is parts entries t (stands.each t parts h) ∙ ap (tile_of entries) place)
    ∙ ap (λ n. map (tile_of entries) (range_with_len 0 n)) stands.count

pub map_same : {A B : Type 0} (f : A → B) (xs : List A) → map f xs ≡ map f (map (λ x. x) xs)
map_same f [] = refl
map_same f (x ∷ xs) = ap (λ ys. f x ∷ ys) (map_same f xs)
