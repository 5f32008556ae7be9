-- What an entry has for the tile that it names, and for the others.
use Rattle.std.proofs.Common.{◌≡◌, ℕ, ◌+◌, ◌*◌, ◌<◌, ◌≤◌, true, false, ◌++◌, cond, ltb, leb, ◌&&◌, List, [], length, slice_index, ◌-◌, ◌/◌, Some, None, refl, sym, ap, ◌∙◌, arith, slice_index_or}
use Rattle.std.specs.Option.{option_map, option_or}
use Rattle.std.proofs.Math.ListN.{set}
use Rattle.std.proofs.lemmas.Bool.{eq-eqb, ne_eqb, cond-true, cond-false, le-ltb, and_right}
use Rattle.std.proofs.lemmas.Option.{slice_get_read}
use Rattle.raw_tile_isa.specs.Instruction.{Instruction}
use Rattle.raw_switch_isa.specs.Instruction.{SwitchInstruction}
use Rattle.raw_model.specs.Program.{memory_size}
use Rattle.raw_model.specs.declared.limits.TheConstants.{MEMORY_WORDS}
use Rattle.raw_set_text.specs.declared.declaration.Position.{Position}
use Rattle.raw_set_text.specs.declared.tile_parts.TileParts.{TileParts}
use Rattle.raw_set_text.specs.declared.tiles.Tiles.{Tiles}
use Rattle.raw_set_text.specs.Entry.{Entry}
use Rattle.raw_set_text.specs.Entry.Entry.{Data, Misses, Tile, Switch}
use Rattle.raw_set_text.specs.Entries.{columns_of, is_tile, word_in, word_at}
use Rattle.raw_set_text.specs.Faults.{number_of_tile}
use Rattle.raw_set_text.specs.Answers.{with_entry}
use Rattle.raw_set_text.specs.Building.{TilesStand}
use Rattle.raw_set_text.specs.Memory.{word_of, word_from}
use Rattle.raw_set_text.specs.Tiling.{Gains}
use Rattle.raw_set_text.proofs.Building.TilesMemory.{word_placed}
use Rattle.raw_set_text.proofs.Building.TilesNext.{AddsTotals, tiles_next}

-- the tile that a position names, and another
named : (columns t : ℕ) (at : Position) → t ≡ at.y * columns + at.x → is_tile columns t at ≡ true
named columns t at e = eq-eqb _ _ (sym e)

other : (columns u t : ℕ) (at : Position) → t ≡ at.y * columns + at.x → (u ≡ t → ⊥) → is_tile columns u at ≡ false
other columns u t at e h = ne_eqb _ _ (λ f. h (sym (e ∙ f)))

-- a program of a tile
pub code_stands : (old new : Tiles) (entries : List Entry) (at : Position) (code : List Instruction) (t : ℕ) (before after : TileParts) → TilesStand old entries → t ≡ number_of_tile entries at → t < length old.parts.items → before ≡ slice_index_or old.parts.items t before → new.parts.items ≡ set old.parts.items t after → Gains before after (Some code) None (λ i. None) [] → AddsTotals old new (Tile at code) → TilesStand new (with_entry entries (Tile at code))
code_stands old new entries at code t before after stands e there here written gains totals =
    let columns = columns_of entries in
    tiles_next old new entries (Tile at code) t before after stands (slice_get_read _ _ _ _ refl there here) written
    (record {
      code = gains.code ∙ ap (λ p. option_or (option_map (λ code. code.items) before.code) p) (sym (cond-true (is_tile columns t at) (Some code) None (named columns t at e)));
      switch = gains.switch;
      memory = gains.memory;
      misses = gains.misses;
    })
    (λ u h. record { code = cond-false (is_tile columns u at) (Some code) None (other columns u t at e h); switch = refl; word = λ address. refl; misses = refl })
    (λ u address h. refl)
    totals

-- a program of a switch
pub switch_stands : (old new : Tiles) (entries : List Entry) (at : Position) (code : List SwitchInstruction) (t : ℕ) (before after : TileParts) → TilesStand old entries → t ≡ number_of_tile entries at → t < length old.parts.items → before ≡ slice_index_or old.parts.items t before → new.parts.items ≡ set old.parts.items t after → Gains before after None (Some code) (λ i. None) [] → AddsTotals old new (Switch at code) → TilesStand new (with_entry entries (Switch at code))
switch_stands old new entries at code t before after stands e there here written gains totals =
    let columns = columns_of entries in
    tiles_next old new entries (Switch at code) t before after stands (slice_get_read _ _ _ _ refl there here) written
    (record {
      code = gains.code;
      switch = gains.switch ∙ ap (λ p. option_or (option_map (λ code. code.items) before.switch) p) (sym (cond-true (is_tile columns t at) (Some code) None (named columns t at e)));
      memory = gains.memory;
      misses = gains.misses;
    })
    (λ u h. record { code = refl; switch = cond-false (is_tile columns u at) (Some code) None (other columns u t at e h); word = λ address. refl; misses = refl })
    (λ u address h. refl)
    totals

-- numbers of a miss stream
pub misses_stand : (old new : Tiles) (entries : List Entry) (at : Position) (turns : List ℕ) (t : ℕ) (before after : TileParts) → TilesStand old entries → t ≡ number_of_tile entries at → t < length old.parts.items → before ≡ slice_index_or old.parts.items t before → new.parts.items ≡ set old.parts.items t after → Gains before after None None (λ i. None) turns → AddsTotals old new (Misses at turns) → TilesStand new (with_entry entries (Misses at turns))
misses_stand old new entries at turns t before after stands e there here written gains totals =
    let columns = columns_of entries in
    tiles_next old new entries (Misses at turns) t before after stands (slice_get_read _ _ _ _ refl there here) written
    (record {
      code = gains.code;
      switch = gains.switch;
      memory = gains.memory;
      misses = gains.misses ∙ ap (λ more. before.misses.items ++ more) (sym (cond-true (is_tile columns t at) turns [] (named columns t at e)));
    })
    (λ u h. record { code = refl; switch = refl; word = λ address. refl; misses = cond-false (is_tile columns u at) turns [] (other columns u t at e h) })
    (λ u address h. refl)
    totals

-- no word stands past words that end within the memory
word_past : (address start : ℕ) (words : List ℕ) → start + 4 * length words ≤ address → word_at address start words ≡ None
word_past address start words h =
    cond-false (leb start address && ltb address (start + 4 * length words)) (Some (slice_index words ((address - start) / 4))) None (and_right (leb start address) _ (le-ltb _ _ h))

none_either : (columns t address start : ℕ) (at : Position) (words : List ℕ) → word_at address start words ≡ None → word_in columns t address (Data at start words) ≡ None
none_either columns t address start at words h =
    elim (is_tile columns t at) as (λ b. cond b (word_at address start words) None ≡ None) [ true ↦ h | false ↦ refl ]

-- words of a memory
pub data_stands : (old new : Tiles) (entries : List Entry) (at : Position) (start first : ℕ) (words : List ℕ) (t : ℕ) (before after : TileParts) → TilesStand old entries → t ≡ number_of_tile entries at → t < length old.parts.items → start ≡ 4 * first → first + length words ≤ MEMORY_WORDS → before ≡ slice_index_or old.parts.items t before → new.parts.items ≡ set old.parts.items t after → Gains before after None None (word_from first words) [] → AddsTotals old new (Data at start words) → TilesStand new (with_entry entries (Data at start words))
unfolding memory_size
data_stands old new entries at start first words t before after stands e there aligned fits here written gains totals =
    let columns = columns_of entries in
    tiles_next old new entries (Data at start words) t before after stands (slice_get_read _ _ _ _ refl there here) written
    (record {
      code = gains.code;
      switch = gains.switch;
      memory = λ i. gains.memory i ∙ ap (λ p. option_or (word_of before.memory i) p) (sym (cond-true (is_tile columns t at) (word_at (4 * i) start words) None (named columns t at e) ∙ word_placed first i start words aligned));
      misses = gains.misses;
    })
    (λ u h. record { code = refl; switch = refl; word = λ address. cond-false (is_tile columns u at) (word_at address start words) None (other columns u t at e h); misses = refl })
    (λ u address h. none_either columns u address start at words (word_past address start words (omega arith)))
    totals
