-- What all tiles of a lawful text have together.
use Rattle.std.proofs.Common.{◌≡◌, ℕ, ◌+◌, ◌-◌, ◌*◌, ◌/◌, ◌%◌, ◌≤◌, Bool, true, false, ◌&&◌, cond, leb, ltb, List, [], ◌∷◌, length, get_or, Option, Some, None, refl, sym, ◌∙◌, subst, arith, sum_by}
use Rattle.std.specs.Prelude.{slice_get, option_map}
use Rattle.std.specs.List.{All, filter_map, flat_map, range_with_len}
use Rattle.std.proofs.lemmas.List.Concat.{length-flat_map}
use Rattle.std.proofs.lemmas.List.Sums.{sum_by-le-sum_by}
use Rattle.raw_tile_isa.specs.Instruction.{Instruction}
use Rattle.raw_switch_isa.specs.Instruction.{SwitchInstruction}
use Rattle.raw_model.specs.declared.program.DataWord.{DataWord}
use Rattle.raw_set_text.specs.Entry.{Entry}
use Rattle.raw_set_text.specs.Entry.Entry.{Data, Misses, Tile, Switch}
use Rattle.raw_set_text.specs.Entries.{first_or, is_tile, code_in, switch_in, word_at, word_in, misses_in}
use Rattle.raw_set_text.specs.Faults.{cells_in, turns_in, instructions_in, routed_in}
use Rattle.raw_set_text.proofs.Lawful.Lists.{length_if, sum_same, sum_none, sum_swap, sum_le, sum_map, size_or, sum_filter_map, length_sum, first_le, at_once, inside_count}
use Rattle.raw_set_text.proofs.Lawful.Entries.{Plain}
use Rattle.raw_set_text.proofs.Lawful.Tiles.{given, cell_at, addresses_upto}

-- what tiles have together is what entries give them, where each entry gives all tiles at most so much
by_entries : (Q : Entry → Type 0) (g : ℕ → ℕ) (f : ℕ → Entry → ℕ) (adds : Entry → ℕ) (ts : List ℕ) (entries : List Entry) → ((t : ℕ) → g t ≤ sum_by (f t) entries)
    → ((x : Entry) → Q x → sum_by (λ t. f t x) ts ≤ adds x) → All Q entries → sum_by g ts ≤ sum_by adds entries
by_entries Q g f adds ts entries each most all =
    let first = sum_by-le-sum_by g (λ t. sum_by (f t) entries) ts each in
    let swapped = sum_swap f ts entries in
    let last = sum_le Q (λ x. sum_by (λ t. f t x) ts) adds most entries all in
    omega (arith, first, swapped, last)

size_if : {Y : Type 0} (size : Y → ℕ) (b : Bool) (y : Y) → size_or size (cond b (Some y) None) ≡ cond b (size y) 0
size_if size true y = refl
size_if size false y = refl

code_once : (columns rows n : ℕ) (x : Entry) → Plain columns rows x → sum_by (λ t. size_or length (code_in columns t x)) (range_with_len 0 n) ≤ instructions_in x
code_once columns rows n (Tile tile code) h =
    let equal = sum_same (λ t. size_or length (code_in columns t (Tile tile code))) (λ t. cond (is_tile columns t tile) (length code) 0) (λ t. size_if length (is_tile columns t tile) code) (range_with_len 0 n) in
    omega (arith, equal, at_once (tile.y * columns + tile.x) (length code) 0 n)
code_once columns rows n x h = omega (arith, sum_none (range_with_len 0 n))

code_part : (columns t : ℕ) (entries : List Entry) → length (first_or [] (filter_map (code_in columns t) entries)) ≤ sum_by (λ x. size_or length (code_in columns t x)) entries
code_part columns t entries =
    let codes = filter_map (code_in columns t) entries in omega (arith, first_le (λ (code : List Instruction). length code) [] codes refl, sum_filter_map (λ (code : List Instruction). length code) (code_in columns t) entries)

-- instructions of tiles
pub codes_total : (columns rows n : ℕ) (entries : List Entry) → All (Plain columns rows) entries
    → sum_by (λ t. length (first_or [] (filter_map (code_in columns t) entries))) (range_with_len 0 n) ≤ sum_by instructions_in entries
codes_total columns rows n entries all =
    by_entries (Plain columns rows) (λ t. length (first_or [] (filter_map (code_in columns t) entries))) (λ t x. size_or length (code_in columns t x)) instructions_in (range_with_len 0 n) entries
    (λ t. code_part columns t entries)
    (code_once columns rows n)
    all

switch_once : (columns rows n : ℕ) (x : Entry) → Plain columns rows x → sum_by (λ t. size_or length (switch_in columns t x)) (range_with_len 0 n) ≤ routed_in x
switch_once columns rows n (Switch tile code) h =
    let equal = sum_same (λ t. size_or length (switch_in columns t (Switch tile code))) (λ t. cond (is_tile columns t tile) (length code) 0) (λ t. size_if length (is_tile columns t tile) code) (range_with_len 0 n) in
    omega (arith, equal, at_once (tile.y * columns + tile.x) (length code) 0 n)
switch_once columns rows n x h = omega (arith, sum_none (range_with_len 0 n))

switch_part : (columns t : ℕ) (entries : List Entry) → length (first_or [] (filter_map (switch_in columns t) entries)) ≤ sum_by (λ x. size_or length (switch_in columns t x)) entries
switch_part columns t entries =
    let codes = filter_map (switch_in columns t) entries in
    omega (arith, first_le (λ (code : List SwitchInstruction). length code) [] codes refl, sum_filter_map (λ (code : List SwitchInstruction). length code) (switch_in columns t) entries)

-- instructions of switches
pub switches_total : (columns rows n : ℕ) (entries : List Entry) → All (Plain columns rows) entries
    → sum_by (λ t. length (first_or [] (filter_map (switch_in columns t) entries))) (range_with_len 0 n) ≤ sum_by routed_in entries
switches_total columns rows n entries all =
    by_entries (Plain columns rows) (λ t. length (first_or [] (filter_map (switch_in columns t) entries))) (λ t x. size_or length (switch_in columns t x)) routed_in (range_with_len 0 n) entries
    (λ t. switch_part columns t entries)
    (switch_once columns rows n)
    all

misses_once : (columns rows n : ℕ) (x : Entry) → Plain columns rows x → sum_by (λ t. length (misses_in columns t x)) (range_with_len 0 n) ≤ turns_in x
misses_once columns rows n (Misses tile turns) h =
    let equal = sum_same (λ t. length (misses_in columns t (Misses tile turns))) (λ t. cond (is_tile columns t tile) (length turns) 0) (λ t. length_if (is_tile columns t tile) turns) (range_with_len 0 n) in
    omega (arith, equal, at_once (tile.y * columns + tile.x) (length turns) 0 n)
misses_once columns rows n x h = omega (arith, sum_none (range_with_len 0 n))

-- numbers of miss streams
pub misses_total : (columns rows n : ℕ) (entries : List Entry) → All (Plain columns rows) entries
    → sum_by (λ t. length (flat_map (misses_in columns t) entries)) (range_with_len 0 n) ≤ sum_by turns_in entries
misses_total columns rows n entries all =
    by_entries (Plain columns rows) (λ t. length (flat_map (misses_in columns t) entries)) (λ t x. length (misses_in columns t x)) turns_in (range_with_len 0 n) entries
    (λ t. omega (arith, length-flat_map (misses_in columns t) entries))
    (misses_once columns rows n)
    all

-- one for an option that has a value
abbrev one : {Y : Type 0} → Option Y → ℕ
one o = size_or (λ y. 1) o

cell_le : (address : ℕ) (words : List ℕ) → one (option_map (λ word. let cell : DataWord = record { address = address; word = word } in cell) (slice_get words 0)) ≤ length words
cell_le address [] = omega arith
cell_le address (word ∷ words) = omega arith

cells_part : (columns t n : ℕ) (entries : List Entry) → length (filter_map (cell_at columns t entries) (addresses_upto n)) ≤ sum_by (λ x. sum_by (λ a. one (word_in columns t a x)) (addresses_upto n)) entries
cells_part columns t n entries =
    let spots = addresses_upto n in
    let cells = filter_map (cell_at columns t entries) spots in
    let count = length_sum cells in
    let by_spot = sum_filter_map (λ (cell : DataWord). 1) (cell_at columns t entries) spots in
    let less = sum_by-le-sum_by (λ a. one (cell_at columns t entries a)) (λ a. length (given columns t entries a)) spots (λ a. cell_le a (given columns t entries a)) in
    let words = sum_same (λ a. length (given columns t entries a)) (λ a. sum_by (λ x. one (word_in columns t a x)) entries) (λ a. length_sum (given columns t entries a) ∙ sum_filter_map (λ (word : ℕ). 1) (word_in columns t a) entries) spots in
    let swapped = sum_swap (λ a x. one (word_in columns t a x)) spots entries in
    omega (arith, count, by_spot, less, words, swapped)

words_inside : (start n : ℕ) (words : List ℕ) → start % 4 ≡ 0 → sum_by (λ a. one (word_at a start words)) (addresses_upto n) ≤ length words
words_inside start n words aligned =
    let s = start / 4 in
    let four : start ≡ 4 * s = omega (arith, aligned) in
    let mapped = sum_map (λ a. one (word_at a start words)) (λ i. 4 * i) (range_with_len 0 n) in
    let tests = sum_same (λ i. one (word_at (4 * i) start words)) (λ i. cond (leb start (4 * i) && ltb (4 * i) (start + 4 * length words)) 1 0)
    (λ i. size_if (λ (word : ℕ). 1) (leb start (4 * i) && ltb (4 * i) (start + 4 * length words)) (get_or words ((4 * i - start) / 4) 0)) (range_with_len 0 n) in
    let few : sum_by (λ i. cond (leb start (4 * i) && ltb (4 * i) (start + 4 * length words)) 1 0) (range_with_len 0 n) ≤ length words - (0 - s) =
    subst (λ m. sum_by (λ i. cond (leb m (4 * i) && ltb (4 * i) (m + 4 * length words)) 1 0) (range_with_len 0 n) ≤ length words - (0 - s)) (sym four) (inside_count s (length words) 0 n) in
    omega (arith, mapped, tests, few)

spots_if : (b : Bool) (start : ℕ) (words spots : List ℕ) → sum_by (λ a. one (cond b (word_at a start words) None)) spots ≡ cond b (sum_by (λ a. one (word_at a start words)) spots) 0
spots_if true start words spots = refl
spots_if false start words spots = sum_none spots

cells_once : (columns rows m n : ℕ) (x : Entry) → Plain columns rows x → sum_by (λ t. sum_by (λ a. one (word_in columns t a x)) (addresses_upto m)) (range_with_len 0 n) ≤ cells_in x
cells_once columns rows m n (Data tile start words) h =
    let spots = addresses_upto m in
    let all = sum_by (λ a. one (word_at a start words)) spots in
    let equal = sum_same (λ t. sum_by (λ a. one (word_in columns t a (Data tile start words))) spots) (λ t. cond (is_tile columns t tile) all 0) (λ t. spots_if (is_tile columns t tile) start words spots) (range_with_len 0 n) in
    omega (arith, equal, at_once (tile.y * columns + tile.x) all 0 n, words_inside start m words h.1)
cells_once columns rows m n x h =
    let spots = addresses_upto m in
    let equal = sum_same (λ (t : ℕ). sum_by (λ (a : ℕ). 0) spots) (λ t. 0) (λ t. sum_none spots) (range_with_len 0 n) in
    omega (arith, equal, sum_none (range_with_len 0 n))

-- words of memories
pub cells_total : (columns rows m n : ℕ) (entries : List Entry) → All (Plain columns rows) entries
    → sum_by (λ t. length (filter_map (cell_at columns t entries) (addresses_upto m))) (range_with_len 0 n) ≤ sum_by cells_in entries
cells_total columns rows m n entries all =
    by_entries (Plain columns rows) (λ t. length (filter_map (cell_at columns t entries) (addresses_upto m))) (λ t x. sum_by (λ a. one (word_in columns t a x)) (addresses_upto m)) cells_in (range_with_len 0 n) entries
    (λ t. cells_part columns t m entries)
    (cells_once columns rows m n)
    all
