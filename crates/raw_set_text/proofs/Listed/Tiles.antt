-- The entries of a set declare what each of its tiles is given.
use Rattle.std.proofs.Common.{◌≡◌, ℕ, ◌+◌, ◌-◌, ◌<◌, Bool, true, false, List, [], ◌∷◌, length, get_or, map, refl, ap, ◌∙◌, arith, append-nil}
use Rattle.std.specs.Prelude.{◌==◌, if◌then◌else◌}
use Rattle.std.specs.Option.{option_to_list}
use Rattle.std.specs.List.{flat_map, enumerate_from}
use Rattle.std.proofs.lemmas.Grind.{flat_map-append}
use Rattle.std.proofs.lemmas.Nat.{div-add-mod'}
use Rattle.raw_tile_isa.specs.Instruction.{Instruction}
use Rattle.raw_switch_isa.specs.Instruction.{SwitchInstruction}
use Rattle.raw_model.specs.declared.program.DataWord.{DataWord}
use Rattle.raw_model.specs.Program.{ProgramSet, TileProgram}
use Rattle.raw_set_text.specs.Entry.{Entry}
use Rattle.raw_set_text.specs.Entry.Entry.{Misses}
use Rattle.raw_set_text.specs.Entries.{first_or, is_tile, code_in, switch_in, word_at, word_in, misses_in, codes_of, switches_of, given_at}
use Rattle.raw_set_text.specs.Listing.{pieces}
use Rattle.raw_set_text.proofs.Listed.Lists.{is_itself}
use Rattle.raw_set_text.proofs.Listed.Entries.{tile_at, data_entry_of, memory_entries, code_entries, switch_entries, program_entries, set_entries}
use Rattle.raw_set_text.proofs.Listed.Parts.{flat_flat, flat_same, flat_none, flat_of_map, filter_map_is, only_memory, only_programs, pick, pieces_join}

-- a tile stands at its own place alone
pub own_tile : (columns t j : ℕ) → is_tile columns t (tile_at columns j) ≡ (j == t)
own_tile columns t j = ap (λ n. n == t) (div-add-mod' j columns)

-- a program that is not empty
abbrev pub some_code : {I : Type 0} → List I → List (List I)
some_code [] = []
some_code (i ∷ code) = (i ∷ code) ∷ []

pub first_code : {I : Type 0} (code : List I) → first_or [] (some_code code) ≡ code
first_code [] = refl
first_code (i ∷ code) = refl

-- what a word in memory gives at an address
abbrev pub hit : ℕ → DataWord → List ℕ
hit address cell = option_to_list (word_at address cell.address (cell.word ∷ []))

module _ (columns t : ℕ) where
  abbrev code_list : Entry → List (List Instruction)
  code_list entry = option_to_list (code_in columns t entry)

  abbrev switch_list : Entry → List (List SwitchInstruction)
  switch_list entry = option_to_list (switch_in columns t entry)

  code_by : (j : ℕ) (test : Bool) (tile : TileProgram) → (j == t) ≡ test → flat_map code_list (program_entries columns (j, tile)) ≡ (if test then some_code tile.code else [])
  code_by j test tile e =
      flat_map-append code_list (code_entries (tile_at columns j) tile.code) (switch_entries (tile_at columns j) tile.switch)
      ∙ rw (of_code tile.code test e, of_switch tile.switch) (append-nil (if test then some_code tile.code else []))
    where
      of_code : (code : List Instruction) (is : Bool) → (j == t) ≡ is → flat_map code_list (code_entries (tile_at columns j) code) ≡ (if is then some_code code else [])
      of_code [] true e = refl
      of_code [] false e = refl
      of_code (i ∷ code) true e = rw (own_tile columns t j, e) refl
      of_code (i ∷ code) false e = rw (own_tile columns t j, e) refl

      of_switch : (code : List SwitchInstruction) → flat_map code_list (switch_entries (tile_at columns j) code) ≡ []
      of_switch [] = refl
      of_switch (i ∷ code) = refl

  switch_by : (j : ℕ) (test : Bool) (tile : TileProgram) → (j == t) ≡ test → flat_map switch_list (program_entries columns (j, tile)) ≡ (if test then some_code tile.switch else [])
  switch_by j test tile e =
      flat_map-append switch_list (code_entries (tile_at columns j) tile.code) (switch_entries (tile_at columns j) tile.switch)
      ∙ rw (of_code tile.code, of_switch tile.switch test e) refl
    where
      of_switch : (code : List SwitchInstruction) (is : Bool) → (j == t) ≡ is → flat_map switch_list (switch_entries (tile_at columns j) code) ≡ (if is then some_code code else [])
      of_switch [] true e = refl
      of_switch [] false e = refl
      of_switch (i ∷ code) true e = rw (own_tile columns t j, e) refl
      of_switch (i ∷ code) false e = rw (own_tile columns t j, e) refl

      of_code : (code : List Instruction) → flat_map switch_list (code_entries (tile_at columns j) code) ≡ []
      of_code [] = refl
      of_code (i ∷ code) = refl

  abbrev word_list : ℕ → Entry → List ℕ
  word_list address entry = option_to_list (word_in columns t address entry)

  word_by : (address j : ℕ) (test : Bool) (tile : TileProgram) → (j == t) ≡ test
      → flat_map (word_list address) (memory_entries columns (j, tile)) ≡ (if test then flat_map (hit address) tile.cells else [])
  word_by address j test tile e =
      flat_map-append (word_list address) (map (data_entry_of columns j) tile.cells) (map (Misses (tile_at columns j)) (pieces 16 tile.misses))
      ∙ rw (
        flat_of_map (word_list address) (data_entry_of columns j) tile.cells,
        flat_of_map (word_list address) (Misses (tile_at columns j)) (pieces 16 tile.misses),
        flat_none (λ turns. word_list address (Misses (tile_at columns j) turns)) (λ turns. refl) (pieces 16 tile.misses),
      )
      (append-nil (flat_map (λ cell. word_list address (data_entry_of columns j cell)) tile.cells) ∙ of_cells test e)
    where
      of_cells : (is : Bool) → (j == t) ≡ is → flat_map (λ cell. word_list address (data_entry_of columns j cell)) tile.cells ≡ (if is then flat_map (hit address) tile.cells else [])
      of_cells true e = flat_same (λ cell. word_list address (data_entry_of columns j cell)) (hit address) (λ cell. rw (own_tile columns t j, e) refl) tile.cells
      of_cells false e = flat_none (λ cell. word_list address (data_entry_of columns j cell)) (λ cell. rw (own_tile columns t j, e) refl) tile.cells

  misses_by : (j : ℕ) (test : Bool) (tile : TileProgram) → (j == t) ≡ test → flat_map (misses_in columns t) (memory_entries columns (j, tile)) ≡ (if test then tile.misses else [])
  misses_by j test tile e =
      flat_map-append (misses_in columns t) (map (data_entry_of columns j) tile.cells) (map (Misses (tile_at columns j)) (pieces 16 tile.misses))
      ∙ rw (
        flat_of_map (misses_in columns t) (data_entry_of columns j) tile.cells,
        flat_none (λ cell. misses_in columns t (data_entry_of columns j cell)) (λ cell. refl) tile.cells,
        flat_of_map (misses_in columns t) (Misses (tile_at columns j)) (pieces 16 tile.misses),
      )
      (of_turns test e)
    where
      of_turns : (is : Bool) → (j == t) ≡ is → flat_map (λ turns. misses_in columns t (Misses (tile_at columns j) turns)) (pieces 16 tile.misses) ≡ (if is then tile.misses else [])
      of_turns true e =
          flat_same (λ turns. misses_in columns t (Misses (tile_at columns j) turns)) (λ turns. turns) (λ turns. rw (own_tile columns t j, e) refl) (pieces 16 tile.misses)
          ∙ pieces_join 16 tile.misses (omega arith)
      of_turns false e = flat_none (λ turns. misses_in columns t (Misses (tile_at columns j) turns)) (λ turns. rw (own_tile columns t j, e) refl) (pieces 16 tile.misses)

-- what the entries of a set say of tile t
module _ (set : ProgramSet) (t : ℕ) (lt : t < length set.tiles) (d : TileProgram) where
  c : ℕ
  c = set.topo.cols

  tile : TileProgram
  tile = get_or set.tiles t d

  there : t < 0 + length set.tiles
  there = omega arith

  picked : get_or set.tiles (t - 0) d ≡ tile
  unfolding tile
  picked = let e : t - 0 ≡ t = omega arith in ap (λ n. get_or set.tiles n d) e

  pub codes_are : codes_of (set_entries set) t ≡ some_code (get_or set.tiles t d).code
  unfolding c tile
  codes_are =
      filter_map_is (code_in c t) (set_entries set)
      ∙ only_programs (code_list c t) set refl (λ d. refl) (λ p w. refl) (λ p w. refl) (λ t a w. refl) (λ t w. refl) (λ t a n. refl)
      ∙ flat_flat (code_list c t) (program_entries c) (enumerate_from 0 set.tiles)
      ∙ pick (λ x. flat_map (code_list c t) (program_entries c x)) set.tiles 0 t d (λ j x e. code_by c t j false x e) (omega arith) there
      ∙ code_by c t t true (get_or set.tiles (t - 0) d) (is_itself t) ∙ ap (λ (x : TileProgram). some_code x.code) picked

  pub switches_are : switches_of (set_entries set) t ≡ some_code (get_or set.tiles t d).switch
  unfolding c tile
  switches_are =
      filter_map_is (switch_in c t) (set_entries set)
      ∙ only_programs (switch_list c t) set refl (λ d. refl) (λ p w. refl) (λ p w. refl) (λ t a w. refl) (λ t w. refl) (λ t a n. refl)
      ∙ flat_flat (switch_list c t) (program_entries c) (enumerate_from 0 set.tiles)
      ∙ pick (λ x. flat_map (switch_list c t) (program_entries c x)) set.tiles 0 t d (λ j x e. switch_by c t j false x e) (omega arith) there
      ∙ switch_by c t t true (get_or set.tiles (t - 0) d) (is_itself t) ∙ ap (λ (x : TileProgram). some_code x.switch) picked

  pub given_are : (address : ℕ) → given_at (set_entries set) t address ≡ flat_map (hit address) (get_or set.tiles t d).cells
  unfolding c tile
  given_are address =
      filter_map_is (word_in c t address) (set_entries set)
      ∙ only_memory (word_list c t address) set refl (λ d. refl) (λ p w. refl) (λ p w. refl) (λ t a n. refl) (λ t w. refl) (λ t w. refl)
      ∙ flat_flat (word_list c t address) (memory_entries c) (enumerate_from 0 set.tiles)
      ∙ pick (λ x. flat_map (word_list c t address) (memory_entries c x)) set.tiles 0 t d (λ j x e. word_by c t address j false x e) (omega arith) there
      ∙ word_by c t address t true (get_or set.tiles (t - 0) d) (is_itself t) ∙ ap (λ (x : TileProgram). flat_map (hit address) x.cells) picked

  pub misses_are : flat_map (misses_in set.topo.cols t) (set_entries set) ≡ (get_or set.tiles t d).misses
  unfolding c tile
  misses_are =
      only_memory (misses_in c t) set refl (λ d. refl) (λ p w. refl) (λ p w. refl) (λ t a n. refl) (λ t w. refl) (λ t w. refl)
      ∙ flat_flat (misses_in c t) (memory_entries c) (enumerate_from 0 set.tiles)
      ∙ pick (λ x. flat_map (misses_in c t) (memory_entries c x)) set.tiles 0 t d (λ j x e. misses_by c t j false x e) (omega arith) there
      ∙ misses_by c t t true (get_or set.tiles (t - 0) d) (is_itself t) ∙ ap (λ (x : TileProgram). x.misses) picked
