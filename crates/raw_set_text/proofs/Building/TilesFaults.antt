-- What is wrong with an entry of a tile, from the parts of the tile.
use Rattle.std.proofs.Common.{◌≡◌, ◌⊎◌, ℕ, ◌+◌, ◌*◌, ◌<◌, ◌≤◌, Bool, true, false, cond, nat_lt, nat_le, List, length, Some, None, refl, sym, ap, ◌∙◌, ⊎_elim, inl, inr, arith, slice_index_or}
use Rattle.std.specs.Option.{is_some}
use Rattle.std.specs.List.{list_any, range_with_len, slice_get, sum_by}
use Rattle.std.proofs.lemmas.Bool.{cases_lt, lt-ltb, le-ltb, leb-true, leb-false}
use Rattle.std.proofs.lemmas.Option.{same_Some, slice_get_cases, slice_get_read}
use Rattle.raw_model.specs.Program.{memory_size}
use Rattle.raw_model.specs.declared.limits.TheConstants.{MEMORY_WORDS}
use Rattle.raw_set_text.specs.declared.kind.SetKind.TheVariants.{Repeated, OverLimit}
use Rattle.raw_set_text.specs.declared.declaration.Position.{Position}
use Rattle.raw_set_text.specs.declared.tile_parts.TileParts.{TileParts}
use Rattle.raw_set_text.specs.declared.tiles.Tiles.{Tiles}
use Rattle.raw_set_text.specs.Entry.{Entry}
use Rattle.raw_set_text.specs.Entries.{codes_of, switches_of, given_at}
use Rattle.raw_set_text.specs.Faults.{are_some, fault_if, is_past, number_of_tile}
use Rattle.raw_set_text.specs.Building.{TileStands, TilesStand}
use Rattle.raw_set_text.specs.Answers.{sum_within}
use Rattle.raw_set_text.specs.Memory.{word_of}
use Rattle.raw_set_text.specs.Tiling.{HasNoCode, HasNoSwitch}
use Rattle.raw_set_text.proofs.Building.TilesLists.{no_value, some_first, some_head}
use Rattle.raw_set_text.proofs.Building.TilesMemory.{any_alike}
use Rattle.raw_set_text.proofs.Building.TilesCells.{none_past}

-- the faults in their order
pub repeated : (again past : Bool) → again ≡ true → fault_if again Repeated (fault_if past OverLimit None) ≡ Some Repeated
repeated true past h = refl
repeated false past h = cc

pub over_limit : (again past : Bool) → again ≡ false → past ≡ true → fault_if again Repeated (fault_if past OverLimit None) ≡ Some OverLimit
over_limit false true h k = refl
over_limit false false h k = cc
over_limit true past h k = cc

pub faultless : (again past : Bool) → again ≡ false → past ≡ false → fault_if again Repeated (fault_if past OverLimit None) ≡ None
faultless false false h k = refl
faultless false true h k = cc
faultless true past h k = cc

-- whether a total is past its most
pub sum_none : (most total added : ℕ) → sum_within most total added ≡ None → nat_lt most (total + added) ≡ true
sum_none most total added h = by_test (nat_lt most (total + added)) h
  where
    by_test : (b : Bool) → cond b None (Some (total + added)) ≡ None → b ≡ true
    by_test true k = refl
    by_test false k = cc

pub sum_some : (most total added sum : ℕ) → sum_within most total added ≡ Some sum → (nat_lt most (total + added) ≡ false) × (sum ≡ total + added)
sum_some most total added sum h = by_test (nat_lt most (total + added)) h
  where
    by_test : (b : Bool) → cond b None (Some (total + added)) ≡ Some sum → (b ≡ false) × (sum ≡ total + added)
    by_test true k = cc
    by_test false k = (refl, cc)

-- an entry brings its total past its most
pub past_total : (adds : Entry → ℕ) (most : ℕ) (entries : List Entry) (entry : Entry) (total added : ℕ) → total ≡ sum_by adds entries → added ≡ adds entry → is_past adds most entries entry ≡ nat_lt most (total + added)
past_total adds most entries entry total added h e = ap (λ n. nat_lt most (n + adds entry)) (sym h) ∙ ap (λ n. nat_lt most (total + n)) (sym e)

-- the parts of a tile of the grid
pub tile_stands : (tiles : Tiles) (entries : List Entry) (t : ℕ) (parts : TileParts) → TilesStand tiles entries → t < length tiles.parts.items → parts ≡ slice_index_or tiles.parts.items t parts → TileStands parts entries t
tile_stands tiles entries t parts stands there here = stands.each t parts (slice_get_read _ _ _ _ refl there here)

-- a program was given
pub code_given : (tiles : Tiles) (entries : List Entry) (at : Position) (t : ℕ) (parts : TileParts) → TilesStand tiles entries → t ≡ number_of_tile entries at → t < length tiles.parts.items → parts ≡ slice_index_or tiles.parts.items t parts → is_some parts.code ≡ are_some (codes_of entries (number_of_tile entries at))
code_given tiles entries at t parts stands e there here =
    some_first (λ code. code.items) parts.code (codes_of entries t) (tile_stands tiles entries t parts stands there here).code ∙ ap (λ n. are_some (codes_of entries n)) e

pub switch_given : (tiles : Tiles) (entries : List Entry) (at : Position) (t : ℕ) (parts : TileParts) → TilesStand tiles entries → t ≡ number_of_tile entries at → t < length tiles.parts.items → parts ≡ slice_index_or tiles.parts.items t parts → is_some parts.switch ≡ are_some (switches_of entries (number_of_tile entries at))
switch_given tiles entries at t parts stands e there here =
    some_first (λ code. code.items) parts.switch (switches_of entries t) (tile_stands tiles entries t parts stands there here).switch ∙ ap (λ n. are_some (switches_of entries n)) e

-- a tile in whose parts there is no program
pub no_code : (tiles : Tiles) (t : ℕ) (parts : TileParts) → t < length tiles.parts.items → parts ≡ slice_index_or tiles.parts.items t parts → is_some parts.code ≡ false → HasNoCode tiles t
no_code tiles t parts there here none other at =
    ap (λ (p : TileParts). p.code) (same_Some other parts (sym at ∙ slice_get_read _ _ _ _ refl there here)) ∙ no_value parts.code none

pub no_switch : (tiles : Tiles) (t : ℕ) (parts : TileParts) → t < length tiles.parts.items → parts ≡ slice_index_or tiles.parts.items t parts → is_some parts.switch ≡ false → HasNoSwitch tiles t
no_switch tiles t parts there here none other at =
    ap (λ (p : TileParts). p.switch) (same_Some other parts (sym at ∙ slice_get_read _ _ _ _ refl there here)) ∙ no_value parts.switch none

-- a tile of the grid has parts
parts_at : (tiles : Tiles) (t : ℕ) → t < length tiles.parts.items → (parts : TileParts) × (slice_get tiles.parts.items t ≡ Some parts) × (slice_index_or tiles.parts.items t parts ≡ parts)
parts_at tiles t there = case (slice_get_cases tiles.parts.items t).1
  where
    case : ((parts : TileParts) × (t < length tiles.parts.items) × (slice_get tiles.parts.items t ≡ Some parts) × (slice_index_or tiles.parts.items t parts ≡ parts)) ⊎ ((length tiles.parts.items ≤ t) × (slice_get tiles.parts.items t ≡ None)) → (parts : TileParts) × (slice_get tiles.parts.items t ≡ Some parts) × (slice_index_or tiles.parts.items t parts ≡ parts)
    case (inl found) = (found.0, found.2, found.3)
    case (inr past) = absurd (omega (arith, there, past.0))

-- no entry declares a program of a tile that has none
pub code_free : (tiles : Tiles) (entries : List Entry) (at : Position) (t : ℕ) → TilesStand tiles entries → t ≡ number_of_tile entries at → t < length tiles.parts.items → HasNoCode tiles t → are_some (codes_of entries (number_of_tile entries at)) ≡ false
code_free tiles entries at t stands e there free =
    let found = parts_at tiles t there in
    sym (code_given tiles entries at t found.0 stands e there (sym found.2)) ∙ ap is_some (free found.0 found.1)

pub switch_free : (tiles : Tiles) (entries : List Entry) (at : Position) (t : ℕ) → TilesStand tiles entries → t ≡ number_of_tile entries at → t < length tiles.parts.items → HasNoSwitch tiles t → are_some (switches_of entries (number_of_tile entries at)) ≡ false
switch_free tiles entries at t stands e there free =
    let found = parts_at tiles t there in
    sym (switch_given tiles entries at t found.0 stands e there (sym found.2)) ∙ ap is_some (free found.0 found.1)

-- a word was given, at a place within the memory or past it
word_given : (tiles : Tiles) (entries : List Entry) (t i address : ℕ) (parts : TileParts) → TilesStand tiles entries → TileStands parts entries t → address ≡ 4 * i → is_some (word_of parts.memory i) ≡ are_some (given_at entries t address)
unfolding memory_size
word_given tiles entries t i address parts stands tile e =
    ⊎_elim
    (λ (h : i < MEMORY_WORDS). ap is_some (tile.memory i h) ∙ some_head (given_at entries t (4 * i)) ∙ ap (λ a. are_some (given_at entries t a)) (sym e))
    (λ (h : MEMORY_WORDS ≤ i). ap is_some (none_past parts.memory i parts.inside h) ∙ sym (ap are_some (stands.inside t address (omega arith))))
    (cases_lt i MEMORY_WORDS)

-- a word was given at one of the addresses
pub data_given : (tiles : Tiles) (entries : List Entry) (at : Position) (t address first count : ℕ) (parts : TileParts) → TilesStand tiles entries → t ≡ number_of_tile entries at → t < length tiles.parts.items → parts ≡ slice_index_or tiles.parts.items t parts → address ≡ 4 * first → list_any (λ i. is_some (word_of parts.memory (first + i))) (range_with_len 0 count) ≡ list_any (λ i. are_some (given_at entries (number_of_tile entries at) (address + 4 * i))) (range_with_len 0 count)
data_given tiles entries at t address first count parts stands e there here aligned =
    any_alike _ _ (range_with_len 0 count) (λ i. let place : address + 4 * i ≡ 4 * (first + i) = omega arith in word_given tiles entries t (first + i) (address + 4 * i) parts stands (tile_stands tiles entries t parts stands there here) place)
    ∙ ap (λ n. list_any (λ i. are_some (given_at entries n (address + 4 * i))) (range_with_len 0 count)) e

-- words end within the memory or past it
pub past_memory : (address first count : ℕ) → address ≡ 4 * first → nat_le (first + count) MEMORY_WORDS ≡ false → nat_lt memory_size (address + 4 * count) ≡ true
unfolding memory_size
past_memory address first count e h = lt-ltb _ _ (omega (arith, e, leb-false (first + count) MEMORY_WORDS h))

pub within_memory : (address first count : ℕ) → address ≡ 4 * first → nat_le (first + count) MEMORY_WORDS ≡ true → nat_lt memory_size (address + 4 * count) ≡ false
unfolding memory_size
within_memory address first count e h = le-ltb _ _ (omega (arith, e, leb-true (first + count) MEMORY_WORDS h))
