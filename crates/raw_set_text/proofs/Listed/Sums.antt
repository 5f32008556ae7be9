-- The totals of a set's entries are those of the set.
use Rattle.std.proofs.Common.{◌≡◌, ℕ, ◌+◌, ◌-◌, ◌*◌, ◌/◌, ◌≤◌, List, [], ◌∷◌, length, map, refl, sym, ap, ◌∙◌, arith}
use Rattle.std.specs.List.{flat_map, sum_by, enumerate_from}
use Rattle.std.proofs.lemmas.List.Sums.{sum_by-cons, sum_by-append}
use Rattle.std.proofs.lemmas.List.Concat.{length-flat_map}
use Rattle.raw_tile_isa.specs.Instruction.{Instruction}
use Rattle.raw_switch_isa.specs.Instruction.{SwitchInstruction}
use Rattle.raw_grid.specs.declared.parts.PortPlace.{PortPlace}
use Rattle.raw_model.specs.declared.limits.TheConstants.{MAX_ALL_CODE, MAX_ALL_SWITCH_CODE, MAX_ALL_CELLS, MAX_ALL_MISSES, MAX_ALL_WORDS, MAX_ALL_CAPACITIES, MAX_SHOWS, MAX_ALL_SHOWN}
use Rattle.raw_model.specs.Program.{ProgramSet, TileProgram, PortProgram, IsSet}
use Rattle.raw_set_text.specs.declared.declaration.Position.{Position}
use Rattle.raw_set_text.specs.Entry.{Entry}
use Rattle.raw_set_text.specs.Entry.Entry.{Feed, Misses, Tile, Switch}
use Rattle.raw_set_text.specs.Faults.{capacity_in, fed_in, cells_in, turns_in, shows_in, shown_in, instructions_in, routed_in}
use Rattle.raw_set_text.specs.Listing.{pieces, paired, placed_ports}
use Rattle.raw_set_text.proofs.Listed.Entries.{tile_at, port_entry, feed_entries, data_entry_of, memory_entries, show_entry_of, code_entries, switch_entries, program_entries, set_entries}
use Rattle.raw_set_text.proofs.Lawful.Lists.{sum_same, sum_none as sum_zero, sum_map, length_sum}
use Rattle.raw_set_text.proofs.Listed.Parts.{port_part, feed_part, memory_part, show_part, program_part, marks, sum_is, only_ports, only_feeds, only_memory, only_shows, only_programs, pieces_join}

sum_none : {X : Type 0} (f : X → ℕ) → ((x : X) → f x ≡ 0) → (xs : List X) → sum_by f xs ≡ 0
sum_none f none xs = sum_same f (λ x. 0) none xs ∙ sum_zero xs

sum_of_groups : {X Y : Type 0} (f : Y → ℕ) (g : X → List Y) (xs : List X) → sum_by f (flat_map g xs) ≡ sum_by (λ x. sum_by f (g x)) xs
sum_of_groups f g [] = refl
sum_of_groups f g (x ∷ xs) =
    let a = sum_by-append f (g x) (flat_map g xs) in let b = sum_by-cons (λ y. sum_by f (g y)) x xs in let rest = sum_of_groups f g xs in
    omega arith

pub sum_numbered : {X : Type 0} (f : X → ℕ) (xs : List X) (from : ℕ) → sum_by (λ (x : ℕ × X). f x.1) (enumerate_from from xs) ≡ sum_by f xs
sum_numbered f [] from = refl
sum_numbered {X} f (x ∷ xs) from =
    let a = sum_by-cons (λ (y : ℕ × X). f y.1) (from, x) (enumerate_from (from + 1) xs) in let b = sum_by-cons f x xs in let rest = sum_numbered f xs (from + 1) in
    omega arith

pub sum_paired : (f : PortProgram → ℕ) (places : List PortPlace) (ports : List PortProgram) → length ports ≡ length places → sum_by (λ (p : PortPlace × PortProgram). f p.1) (paired places ports) ≡ sum_by f ports
sum_paired f [] [] same = refl
sum_paired f [] (port ∷ ports) same = absurd (omega arith)
sum_paired f (place ∷ places) [] same = absurd (omega arith)
sum_paired f (place ∷ places) (port ∷ ports) same =
    let a = sum_by-cons (λ (p : PortPlace × PortProgram). f p.1) (place, port) (paired places ports) in let b = sum_by-cons f port ports in let rest = sum_paired f places ports (omega arith) in
    omega arith

-- the pieces of a list have its length together
pieces_length : (size : ℕ) (xs : List ℕ) → length xs ≤ (length xs + size - 1) / size * size → sum_by (λ (piece : List ℕ). length piece) (pieces size xs) ≡ length xs
pieces_length size xs le = sym (length-flat_map (λ piece. piece) (pieces size xs)) ∙ ap length (pieces_join size xs le)

from_part : (f : Entry → ℕ) (whole part : List Entry) → flat_map (marks f) whole ≡ flat_map (marks f) part → sum_by f whole ≡ sum_by f part
from_part f whole part e = sum_is f whole ∙ ap length e ∙ sym (sum_is f part)

module _ (set : ProgramSet) (is : IsSet set) where
  pub capacities : sum_by capacity_in (set_entries set) ≤ MAX_ALL_CAPACITIES
  capacities =
      let a = from_part capacity_in (set_entries set) (port_part set) (only_ports (marks capacity_in) set refl (λ d. refl) (λ p w. refl) (λ t a w. refl) (λ t w. refl) (λ t a n. refl) (λ t w. refl) (λ t w. refl)) in
      let b = sum_map capacity_in port_entry (placed_ports set) in
      let e = sum_paired (λ port. port.capacity) set.topo.places set.ports is.each_port in
      let most = is.totals.capacities in
      omega arith

  pub words : sum_by fed_in (set_entries set) ≤ MAX_ALL_WORDS
  words =
      let a = from_part fed_in (set_entries set) (feed_part set) (only_feeds (marks fed_in) set refl (λ d. refl) (λ p c. refl) (λ t a w. refl) (λ t w. refl) (λ t a n. refl) (λ t w. refl) (λ t w. refl)) in
      let b = sum_of_groups fed_in feed_entries (placed_ports set) in
      let each = sum_same (λ (p : PortPlace × PortProgram). sum_by fed_in (feed_entries p)) (λ p. length p.1.words) (λ p. sum_map fed_in (Feed p.0) (pieces 8 p.1.words) ∙ pieces_length 8 p.1.words (omega arith)) (placed_ports set) in
      let e = sum_paired (λ port. length port.words) set.topo.places set.ports is.each_port in
      let most = is.totals.words in
      omega arith

  -- what is summed over tiles
  over_tiles : (f : Entry → ℕ) (g : ℕ × TileProgram → List Entry) (h : TileProgram → ℕ) → ((t : ℕ × TileProgram) → sum_by f (g t) ≡ h t.1)
      → sum_by f (flat_map g (enumerate_from 0 set.tiles)) ≡ sum_by h set.tiles
  over_tiles f g h each =
      sum_of_groups f g (enumerate_from 0 set.tiles) ∙ sum_same (λ (t : ℕ × TileProgram). sum_by f (g t)) (λ t. h t.1) each (enumerate_from 0 set.tiles) ∙ sum_numbered h set.tiles 0

  cells_in_tile : (t : ℕ × TileProgram) → sum_by cells_in (memory_entries set.topo.cols t) ≡ length t.1.cells
  cells_in_tile t =
      let c = set.topo.cols in
      let a = sum_by-append cells_in (map (data_entry_of c t.0) t.1.cells) (map (Misses (tile_at c t.0)) (pieces 16 t.1.misses)) in
      let b = sum_map cells_in (data_entry_of c t.0) t.1.cells ∙ sym (length_sum t.1.cells) in
      let e = sum_map cells_in (Misses (tile_at c t.0)) (pieces 16 t.1.misses) ∙ sum_none (λ turns. cells_in (Misses (tile_at c t.0) turns)) (λ turns. refl) (pieces 16 t.1.misses) in
      omega arith

  turns_in_tile : (t : ℕ × TileProgram) → sum_by turns_in (memory_entries set.topo.cols t) ≡ length t.1.misses
  turns_in_tile t =
      let c = set.topo.cols in
      let a = sum_by-append turns_in (map (data_entry_of c t.0) t.1.cells) (map (Misses (tile_at c t.0)) (pieces 16 t.1.misses)) in
      let b = sum_map turns_in (data_entry_of c t.0) t.1.cells ∙ sum_none (λ cell. turns_in (data_entry_of c t.0 cell)) (λ cell. refl) t.1.cells in
      let e = sum_map turns_in (Misses (tile_at c t.0)) (pieces 16 t.1.misses) ∙ pieces_length 16 t.1.misses (omega arith) in
      omega arith

  code_alone : (tile : Position) (code : List Instruction) → (sum_by instructions_in (code_entries tile code) ≡ length code) × (sum_by routed_in (code_entries tile code) ≡ 0)
  code_alone tile [] = (refl, refl)
  code_alone tile (i ∷ code) = (sum_by-cons instructions_in (Tile tile (i ∷ code)) [] ∙ omega arith, refl)

  switch_alone : (tile : Position) (code : List SwitchInstruction) → (sum_by routed_in (switch_entries tile code) ≡ length code) × (sum_by instructions_in (switch_entries tile code) ≡ 0)
  switch_alone tile [] = (refl, refl)
  switch_alone tile (i ∷ code) = (sum_by-cons routed_in (Switch tile (i ∷ code)) [] ∙ omega arith, refl)

  code_in_tile : (t : ℕ × TileProgram) → sum_by instructions_in (program_entries set.topo.cols t) ≡ length t.1.code
  code_in_tile t =
      let at = tile_at set.topo.cols t.0 in
      let a = sum_by-append instructions_in (code_entries at t.1.code) (switch_entries at t.1.switch) in
      let b = (code_alone at t.1.code).0 in let e = (switch_alone at t.1.switch).1 in
      omega arith

  switch_in_tile : (t : ℕ × TileProgram) → sum_by routed_in (program_entries set.topo.cols t) ≡ length t.1.switch
  switch_in_tile t =
      let at = tile_at set.topo.cols t.0 in
      let a = sum_by-append routed_in (code_entries at t.1.code) (switch_entries at t.1.switch) in
      let b = (code_alone at t.1.code).1 in let e = (switch_alone at t.1.switch).0 in
      omega arith

  pub cells : sum_by cells_in (set_entries set) ≤ MAX_ALL_CELLS
  cells =
      let a = from_part cells_in (set_entries set) (memory_part set) (only_memory (marks cells_in) set refl (λ d. refl) (λ p c. refl) (λ p w. refl) (λ t a n. refl) (λ t w. refl) (λ t w. refl)) in
      let b = over_tiles cells_in (memory_entries set.topo.cols) (λ t. length t.cells) cells_in_tile in
      let most = is.totals.cells in
      omega arith

  pub turns : sum_by turns_in (set_entries set) ≤ MAX_ALL_MISSES
  turns =
      let a = from_part turns_in (set_entries set) (memory_part set) (only_memory (marks turns_in) set refl (λ d. refl) (λ p c. refl) (λ p w. refl) (λ t a n. refl) (λ t w. refl) (λ t w. refl)) in
      let b = over_tiles turns_in (memory_entries set.topo.cols) (λ t. length t.misses) turns_in_tile in
      let most = is.totals.misses in
      omega arith

  pub instructions : sum_by instructions_in (set_entries set) ≤ MAX_ALL_CODE
  instructions =
      let a = from_part instructions_in (set_entries set) (program_part set) (only_programs (marks instructions_in) set refl (λ d. refl) (λ p c. refl) (λ p w. refl) (λ t a w. refl) (λ t w. refl) (λ t a n. refl)) in
      let b = over_tiles instructions_in (program_entries set.topo.cols) (λ t. length t.code) code_in_tile in
      let most = is.totals.instructions in
      omega arith

  pub routed : sum_by routed_in (set_entries set) ≤ MAX_ALL_SWITCH_CODE
  routed =
      let a = from_part routed_in (set_entries set) (program_part set) (only_programs (marks routed_in) set refl (λ d. refl) (λ p c. refl) (λ p w. refl) (λ t a w. refl) (λ t w. refl) (λ t a n. refl)) in
      let b = over_tiles routed_in (program_entries set.topo.cols) (λ t. length t.switch) switch_in_tile in
      let most = is.totals.switch_instructions in
      omega arith

  pub shows : sum_by shows_in (set_entries set) ≤ MAX_SHOWS
  shows =
      let a = from_part shows_in (set_entries set) (show_part set) (only_shows (marks shows_in) set refl (λ d. refl) (λ p c. refl) (λ p w. refl) (λ t a w. refl) (λ t w. refl) (λ t w. refl) (λ t w. refl)) in
      let b = sum_map shows_in (show_entry_of set.topo.cols) set.shows ∙ sym (length_sum set.shows) in
      let most = is.totals.shows in
      omega arith

  pub shown : sum_by shown_in (set_entries set) ≤ MAX_ALL_SHOWN
  shown =
      let a = from_part shown_in (set_entries set) (show_part set) (only_shows (marks shown_in) set refl (λ d. refl) (λ p c. refl) (λ p w. refl) (λ t a w. refl) (λ t w. refl) (λ t w. refl) (λ t w. refl)) in
      let b = sum_map shown_in (show_entry_of set.topo.cols) set.shows in
      let most = is.totals.shown in
      omega arith
