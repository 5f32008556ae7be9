-- What tiles are given, when one entry more is read.
use Rattle.std.proofs.Common.{◌≡◌, ℕ, ◌+◌, ◌*◌, ◌<◌, ◌≤◌, List, [], ◌∷◌, ◌++◌, length, length-append, length-set, Some, None, sym, ap, ◌∙◌, append-nil, subst, ⊎_elim, arith}
use Rattle.std.specs.List.{filter_map, flat_map, cons_option, slice_get, sum_by}
use Rattle.std.proofs.Math.ListN.{set}
use Rattle.std.proofs.lemmas.Bool.{cases_eq}
use Rattle.std.proofs.lemmas.Grind.{flat_map-append}
use Rattle.std.proofs.lemmas.List.Elements.{filter_map-append}
use Rattle.std.proofs.lemmas.List.Sums.{sum_by_push}
use Rattle.raw_grid.specs.Topology.{tile_count}
use Rattle.raw_model.specs.Program.{memory_size}
use Rattle.raw_set_text.specs.declared.tile_parts.TileParts.{TileParts}
use Rattle.raw_set_text.specs.declared.tiles.Tiles.{Tiles}
use Rattle.raw_set_text.specs.Entry.{Entry}
use Rattle.raw_set_text.specs.Entries.{size_in, sizes_of, first_or, columns_of, topology_of, code_in, switch_in, word_in, misses_in, given_at}
use Rattle.raw_set_text.specs.Faults.{cells_in, turns_in, instructions_in, routed_in}
use Rattle.raw_set_text.specs.Answers.{with_entry}
use Rattle.raw_set_text.specs.Building.{TileStands, TilesStand, AreInside}
use Rattle.raw_set_text.specs.Tiling.{Gains}
use Rattle.raw_set_text.proofs.Building.TilesLists.{first_kept, head_kept, or_none, get_set_same, get_set_other}

-- the size stays
size_kept : (entries : List Entry) (entry : Entry) → 0 < length (sizes_of entries) → first_or (0, 0) (sizes_of (with_entry entries entry)) ≡ first_or (0, 0) (sizes_of entries)
size_kept entries entry h =
    ap (λ sizes. first_or (0, 0) sizes) (filter_map-append size_in entries (entry ∷ [])) ∙ head_kept (sizes_of entries) (sizes_of (entry ∷ [])) (0, 0) h

pub columns_kept : (entries : List Entry) (entry : Entry) → 0 < length (sizes_of entries) → columns_of (with_entry entries entry) ≡ columns_of entries
columns_kept entries entry h = ap (λ (size : ℕ × ℕ). size.0) (size_kept entries entry h)

pub count_kept : (entries : List Entry) (entry : Entry) → 0 < length (sizes_of entries) → tile_count (topology_of (with_entry entries entry)) ≡ tile_count (topology_of entries)
unfolding topology_of
count_kept entries entry h = ap (λ (size : ℕ × ℕ). size.0 * size.1) (size_kept entries entry h)

pub sized_kept : (entries : List Entry) (entry : Entry) → 0 < length (sizes_of entries) → 0 < length (sizes_of (with_entry entries entry))
sized_kept entries entry h =
    omega (arith, h, ap (λ (sizes : List (ℕ × ℕ)). length sizes) (filter_map-append size_in entries (entry ∷ [])), length-append (sizes_of entries) (sizes_of (entry ∷ [])))

misses_more : (entries : List Entry) (entry : Entry) (f g : Entry → List ℕ) → g ≡ f → flat_map f entries ++ f entry ≡ flat_map g (with_entry entries entry)
misses_more entries entry f g same =
    ap (λ turns. flat_map f entries ++ turns) (sym (append-nil (f entry))) ∙ sym (flat_map-append f entries (entry ∷ [])) ∙ ap (λ k. flat_map k (with_entry entries entry)) (sym same)

-- one tile that is given what an entry has for it
pub tile_next : (entries : List Entry) (entry : Entry) (t : ℕ) (before after : TileParts) → 0 < length (sizes_of entries) → TileStands before entries t → Gains before after (code_in (columns_of entries) t entry) (switch_in (columns_of entries) t entry) (λ i. word_in (columns_of entries) t (4 * i) entry) (misses_in (columns_of entries) t entry) → TileStands after (with_entry entries entry) t
tile_next entries entry t before after sized stands gains =
    let same = columns_kept entries entry sized in
    let columns = columns_of entries in
    record {
      code = first_kept (code_in columns t) (code_in (columns_of (with_entry entries entry)) t) entries entry _ _ (ap (λ c. code_in c t) same) stands.code gains.code;
      switch = first_kept (switch_in columns t) (switch_in (columns_of (with_entry entries entry)) t) entries entry _ _ (ap (λ c. switch_in c t) same) stands.switch gains.switch;
      memory = λ i h. first_kept (word_in columns t (4 * i)) (word_in (columns_of (with_entry entries entry)) t (4 * i)) entries entry _ _ (ap (λ c. word_in c t (4 * i)) same) (stands.memory i h) (gains.memory i);
      misses = gains.misses ∙ ap (λ turns. turns ++ misses_in columns t entry) stands.misses ∙ misses_more entries entry (misses_in columns t) (misses_in (columns_of (with_entry entries entry)) t) (ap (λ c. misses_in c t) same);
    }

-- an entry has nothing for tile t
pub record IsBarren (columns t : ℕ) (entry : Entry) : Type 0 where
  pub code : code_in columns t entry ≡ None
  pub switch : switch_in columns t entry ≡ None
  pub word : (address : ℕ) → word_in columns t address entry ≡ None
  pub misses : misses_in columns t entry ≡ []

gains_nothing : (parts : TileParts) (columns t : ℕ) (entry : Entry) → IsBarren columns t entry → Gains parts parts (code_in columns t entry) (switch_in columns t entry) (λ i. word_in columns t (4 * i) entry) (misses_in columns t entry)
gains_nothing parts columns t entry barren = record {
  code = or_none _ _ barren.code;
  switch = or_none _ _ barren.switch;
  memory = λ i. or_none _ _ (barren.word (4 * i));
  misses = sym (ap (λ turns. parts.misses.items ++ turns) barren.misses ∙ append-nil parts.misses.items);
}

-- what an entry adds to the totals of all tiles
pub record AddsTotals (old new : Tiles) (entry : Entry) : Type 0 where
  pub cells : new.cells ≡ old.cells + cells_in entry
  pub turns : new.turns ≡ old.turns + turns_in entry
  pub instructions : new.instructions ≡ old.instructions + instructions_in entry
  pub routed : new.routed ≡ old.routed + routed_in entry

sum_next : (adds : Entry → ℕ) (entries : List Entry) (entry : Entry) (total more : ℕ) → total ≡ sum_by adds entries → more ≡ total + adds entry → more ≡ sum_by adds (with_entry entries entry)
sum_next adds entries entry total more h e = e ∙ ap (λ n. n + adds entry) h ∙ sym (sum_by_push adds entries entry)

-- an entry whose words are within the memory keeps all words within it
inside_next : (entries : List Entry) (entry : Entry) → 0 < length (sizes_of entries) → AreInside entries → ((t address : ℕ) → memory_size ≤ address → word_in (columns_of entries) t address entry ≡ None) → AreInside (with_entry entries entry)
inside_next entries entry sized inside none t address h =
    let columns = columns_of entries in
    ap (λ c. filter_map (word_in c t address) (with_entry entries entry)) (columns_kept entries entry sized)
    ∙ filter_map-append (word_in columns t address) entries (entry ∷ [])
    ∙ ap (λ o. given_at entries t address ++ cons_option o []) (none t address h)
    ∙ append-nil (given_at entries t address) ∙ inside t address h

-- tiles of which one is given what an entry has for it
pub tiles_next : (old new : Tiles) (entries : List Entry) (entry : Entry) (t : ℕ) (before after : TileParts) → TilesStand old entries → slice_get old.parts.items t ≡ Some before → new.parts.items ≡ set old.parts.items t after → Gains before after (code_in (columns_of entries) t entry) (switch_in (columns_of entries) t entry) (λ i. word_in (columns_of entries) t (4 * i) entry) (misses_in (columns_of entries) t entry) → ((u : ℕ) → (u ≡ t → ⊥) → IsBarren (columns_of entries) u entry) → ((u address : ℕ) → memory_size ≤ address → word_in (columns_of entries) u address entry ≡ None) → AddsTotals old new entry → TilesStand new (with_entry entries entry)
tiles_next old new entries entry t before after stands here written gains barren inside totals = record {
  sized = sized_kept entries entry stands.sized;
  count = ap (λ (xs : List TileParts). length xs) written ∙ length-set old.parts.items t after ∙ stands.count ∙ sym (count_kept entries entry stands.sized);
  each = λ u parts h. each u parts (sym (ap (λ xs. slice_get xs u) written) ∙ h);
  cells = sum_next cells_in entries entry _ _ stands.cells totals.cells;
  turns = sum_next turns_in entries entry _ _ stands.turns totals.turns;
  instructions = sum_next instructions_in entries entry _ _ stands.instructions totals.instructions;
  routed = sum_next routed_in entries entry _ _ stands.routed totals.routed;
  inside = inside_next entries entry stands.sized stands.inside inside;
}
  where
    changed : (parts : TileParts) → parts ≡ after → TileStands parts (with_entry entries entry) t
    changed parts e = subst (λ p. TileStands p (with_entry entries entry) t) (sym e) (tile_next entries entry t before after stands.sized (stands.each t before here) gains)

    each : (u : ℕ) (parts : TileParts) → slice_get (set old.parts.items t after) u ≡ Some parts → TileStands parts (with_entry entries entry) u
    each u parts h =
        ⊎_elim
        (λ (e : u ≡ t). subst (λ v. TileStands parts (with_entry entries entry) v) (sym e) (changed parts (get_set_same old.parts.items t after parts (ap (λ v. slice_get (set old.parts.items t after) v) (sym e) ∙ h))))
        (λ (e : u ≡ t → ⊥). tile_next entries entry u parts parts stands.sized (stands.each u parts (sym (get_set_other old.parts.items t u after e) ∙ h)) (gains_nothing parts (columns_of entries) u entry (barren u e)))
        (cases_eq u t)

-- tiles stay as they are where an entry has nothing for any of them
pub tiles_same : (tiles : Tiles) (entries : List Entry) (entry : Entry) → TilesStand tiles entries → ((u : ℕ) → IsBarren (columns_of entries) u entry) → cells_in entry ≡ 0 → turns_in entry ≡ 0 → instructions_in entry ≡ 0 → routed_in entry ≡ 0 → TilesStand tiles (with_entry entries entry)
tiles_same tiles entries entry stands barren cells turns instructions routed = record {
  sized = sized_kept entries entry stands.sized;
  count = stands.count ∙ sym (count_kept entries entry stands.sized);
  each = λ u parts h. tile_next entries entry u parts parts stands.sized (stands.each u parts h) (gains_nothing parts (columns_of entries) u entry (barren u));
  cells = sum_next cells_in entries entry _ _ stands.cells (omega (arith, cells));
  turns = sum_next turns_in entries entry _ _ stands.turns (omega (arith, turns));
  instructions = sum_next instructions_in entries entry _ _ stands.instructions (omega (arith, instructions));
  routed = sum_next routed_in entries entry _ _ stands.routed (omega (arith, routed));
  inside = inside_next entries entry stands.sized stands.inside (λ u address h. (barren u).word address);
}
