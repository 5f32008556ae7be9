-- What the tiles of a lawful text are given.
use Rattle.std.proofs.Common.{◌≡◌, ℕ, ◌+◌, ◌-◌, ◌*◌, ◌/◌, ◌%◌, ◌<◌, ◌≤◌, ◌&&◌, leb, ltb, List, [], ◌∷◌, length, get_or, map, Option, Some, None, sym, ap, ◌∙◌, subst, arith, ⊎_elim}
use Rattle.std.specs.Prelude.{slice_get, option_map}
use Rattle.std.specs.List.{All, AllPairs, filter_map, flat_map, range_with_len}
use Rattle.std.proofs.lemmas.Bool.{cases_lt}
use Rattle.std.proofs.lemmas.Option.{none-some, same_Some, cond_some}
use Rattle.std.proofs.lemmas.List.{get_or_past}
use Rattle.std.proofs.lemmas.List.Elements.{All-nil, All-head, All-map}
use Rattle.std.proofs.lemmas.List.FromFn.{length-range_with_len, get_or-range_with_len, length-map-range_with_len, get_or-map-range_with_len}
use Rattle.raw_tile_isa.specs.Instruction.{Instruction, IsTileIns}
use Rattle.raw_switch_isa.specs.declared.limits.TheConstants.{MAX_SWITCH_CODE}
use Rattle.raw_switch_isa.specs.Instruction.{SwitchInstruction, IsSwitchIns}
use Rattle.raw_tile_asm.specs.Lawful.{IsLawful as IsTileCode}
use Rattle.raw_model.specs.declared.limits.TheConstants.{MEMORY_WORDS}
use Rattle.raw_model.specs.declared.program.DataWord.{DataWord}
use Rattle.raw_model.specs.Program.{IsDataWord, memory_size}
use Rattle.raw_set_text.specs.Entry.{Entry}
use Rattle.raw_set_text.specs.Entry.Entry.{Data, Misses, Tile, Switch}
use Rattle.raw_set_text.specs.Entries.{first_or, is_tile, code_in, switch_in, word_at, word_in, misses_in}
use Rattle.raw_set_text.proofs.Lawful.Lists.{all_if, if_inv, all_filter_map, all_flat_map, first_holds}
use Rattle.raw_set_text.proofs.Lawful.Entries.{IsWord, Plain}
use Rattle.raw_grid.proofs.Lists.{AllPairs-cons_option, AllPairs-nil, AllPairs-head, AllPairs-tail}

code_each : (columns rows t : ℕ) (entry : Entry) (code : List Instruction) → Plain columns rows entry → code_in columns t entry ≡ Some code → IsTileCode code
code_each columns rows t (Tile tile own) code h e = subst IsTileCode (cond_some (is_tile columns t tile) own code e).1 h
code_each columns rows t entry code h e = absurd (none-some code e)

no_code : IsTileCode []
no_code = record { each = All-nil IsTileIns; few = omega arith }

-- the program of a tile
pub lawful_code : (columns rows t : ℕ) (entries : List Entry) → All (Plain columns rows) entries → IsTileCode (first_or [] (filter_map (code_in columns t) entries))
lawful_code columns rows t entries all = first_holds IsTileCode [] _ no_code (all_filter_map (Plain columns rows) IsTileCode (code_in columns t) (code_each columns rows t) entries all)

-- a program of a switch that is lawful by itself
abbrev pub IsRouted : List SwitchInstruction → Type 0
IsRouted code = All IsSwitchIns code × (length code ≤ MAX_SWITCH_CODE)

switch_each : (columns rows t : ℕ) (entry : Entry) (code : List SwitchInstruction) → Plain columns rows entry → switch_in columns t entry ≡ Some code → IsRouted code
switch_each columns rows t (Switch tile own) code h e = subst IsRouted (cond_some (is_tile columns t tile) own code e).1 h
switch_each columns rows t entry code h e = absurd (none-some code e)

-- the program of its switch
pub lawful_switch : (columns rows t : ℕ) (entries : List Entry) → All (Plain columns rows) entries → IsRouted (first_or [] (filter_map (switch_in columns t) entries))
lawful_switch columns rows t entries all =
    first_holds IsRouted [] _ (All-nil IsSwitchIns, omega arith) (all_filter_map (Plain columns rows) IsRouted (switch_in columns t) (switch_each columns rows t) entries all)

-- a number of a miss stream
abbrev pub IsTurns : ℕ → Type 0
IsTurns turns = turns < 256

misses_each : (columns rows t : ℕ) (entry : Entry) → Plain columns rows entry → All IsTurns (misses_in columns t entry)
misses_each columns rows t (Misses tile turns) h = all_if IsTurns (is_tile columns t tile) turns h
misses_each columns rows t entry h = All-nil IsTurns

pub lawful_misses : (columns rows t : ℕ) (entries : List Entry) → All (Plain columns rows) entries → All IsTurns (flat_map (misses_in columns t) entries)
lawful_misses columns rows t entries all = all_flat_map (Plain columns rows) IsTurns (misses_in columns t) (misses_each columns rows t) entries all

word_or_zero : (words : List ℕ) (i : ℕ) → All IsWord words → IsWord (get_or words i 0)
word_or_zero words i h =
    ⊎_elim
    (λ (inside : i < length words). h i 0 inside)
    (λ (past : length words ≤ i). let zero_there : get_or words i 0 ≡ 0 = get_or_past words i 0 past in omega (arith, zero_there))
    (cases_lt i (length words))

word_each : (columns rows t address : ℕ) (entry : Entry) (word : ℕ) → Plain columns rows entry → word_in columns t address entry ≡ Some word → IsWord word
word_each columns rows t address (Data tile start words) word h e =
    let at : word_at address start words ≡ Some word = (if_inv (is_tile columns t tile) (word_at address start words) word e).1 in
    subst IsWord (cond_some (leb start address && ltb address (start + 4 * length words)) (get_or words ((address - start) / 4) 0) word at).1 (word_or_zero words _ h.3)
word_each columns rows t address entry word h e = absurd (none-some word e)

first_of_all : {A : Type 0} (P : A → Type 0) (xs : List A) (x : A) → All P xs → slice_get xs 0 ≡ Some x → P x
first_of_all P [] x h e = absurd (none-some x e)
first_of_all P (y ∷ ys) x h e = subst P (same_Some y x e) (All-head P y ys h)

-- the words that entries give an address of a tile, and the cell there
abbrev pub given : ℕ → ℕ → List Entry → ℕ → List ℕ
given columns t entries address = filter_map (word_in columns t address) entries

abbrev pub cell_at : ℕ → ℕ → List Entry → ℕ → Option DataWord
cell_at columns t entries address = option_map (λ word. record { address = address; word = word }) (slice_get (given columns t entries address) 0)

-- the addresses of so many words
abbrev pub addresses_upto : ℕ → List ℕ
addresses_upto n = map (λ i. 4 * i) (range_with_len 0 n)

cell_from : (address : ℕ) (o : Option ℕ) (cell : DataWord) → option_map (λ word. record { address = address; word = word }) o ≡ Some cell → (cell.address ≡ address) × (o ≡ Some cell.word)
cell_from address None cell e = absurd (none-some cell e)
cell_from address (Some word) cell e =
    let same = same_Some (record { address = address; word = word }) cell e in (sym (ap (λ (c : DataWord). c.address) same), ap (λ (c : DataWord). Some c.word) same)

abbrev IsAddress : ℕ → Type 0
IsAddress address = (address % 4 ≡ 0) × (address < memory_size)

addresses_lawful : (n : ℕ) → n ≤ MEMORY_WORDS → All IsAddress (addresses_upto n)
unfolding memory_size
addresses_lawful n few =
    All-map IsAddress (λ i. 4 * i) (range_with_len 0 n)
    (λ k d l.
    let below : k < n = omega (arith, l, length-range_with_len 0 n) in
    let number : get_or (range_with_len 0 n) k d ≡ k = get_or-range_with_len 0 n k d below ∙ omega arith in
    subst (λ i. IsAddress (4 * i)) (sym number) (omega arith, omega (arith, below, few)))

cell_each : (columns rows t : ℕ) (entries : List Entry) → All (Plain columns rows) entries → (address : ℕ) (cell : DataWord) → IsAddress address → cell_at columns t entries address ≡ Some cell → IsDataWord cell
cell_each columns rows t entries all address cell h e =
    let parts = cell_from address (slice_get (given columns t entries address) 0) cell e in
    let words : All IsWord (given columns t entries address) = all_filter_map (Plain columns rows) IsWord (word_in columns t address) (word_each columns rows t address) entries all in
    record { aligned = ap (λ a. a % 4) parts.0 ∙ h.0; inside = omega (arith, parts.0, h.1); word = first_of_all IsWord _ cell.word words parts.1 }

-- the words of its memory
pub lawful_cells : (columns rows t n : ℕ) (entries : List Entry) → n ≤ MEMORY_WORDS → All (Plain columns rows) entries → All IsDataWord (filter_map (cell_at columns t entries) (addresses_upto n))
lawful_cells columns rows t n entries few all = all_filter_map IsAddress IsDataWord (cell_at columns t entries) (cell_each columns rows t entries all) (addresses_upto n) (addresses_lawful n few)

pairs_filter_map : {X Y : Type 0} (Q : X → X → Type 0) (R : Y → Y → Type 0) (g : X → Option Y) → ((a b : X) (x y : Y) → Q a b → g a ≡ Some x → g b ≡ Some y → R x y) → (xs : List X) → AllPairs Q xs → AllPairs R (filter_map g xs)
pairs_filter_map Q R g h [] q = AllPairs-nil R
pairs_filter_map Q R g h (a ∷ xs) q =
    AllPairs-cons_option R (g a) (filter_map g xs)
    (λ x e. all_filter_map (Q a) (R x) g (λ b y r f. h a b x y r e f) xs (AllPairs-head Q a xs q))
    (pairs_filter_map Q R g h xs (AllPairs-tail Q a xs q))

addresses_rise : (n : ℕ) → AllPairs (λ (a b : ℕ). a < b) (addresses_upto n)
addresses_rise n i j d l m =
    let count = length-map-range_with_len (λ k. 4 * k) 0 n in
    let first : get_or (addresses_upto n) i d ≡ 4 * i = get_or-map-range_with_len (λ k. 4 * k) 0 n i i d (omega (arith, l, m, count)) (omega arith) in
    let second : get_or (addresses_upto n) j d ≡ 4 * j = get_or-map-range_with_len (λ k. 4 * k) 0 n j j d (omega (arith, l, m, count)) (omega arith) in
    omega (arith, first, second, l)

cells_apart : (columns t : ℕ) (entries : List Entry) (a b : ℕ) (x y : DataWord) → a < b → cell_at columns t entries a ≡ Some x → cell_at columns t entries b ≡ Some y → x.address < y.address
cells_apart columns t entries a b x y h e f =
    let first = cell_from a (slice_get (given columns t entries a) 0) x e in
    let second = cell_from b (slice_get (given columns t entries b) 0) y f in
    omega (arith, h, first.0, second.0)

-- they stand by rising address
pub rising_cells : (columns t n : ℕ) (entries : List Entry) → AllPairs (λ (a b : DataWord). a.address < b.address) (filter_map (cell_at columns t entries) (addresses_upto n))
rising_cells columns t n entries = pairs_filter_map (λ (a b : ℕ). a < b) (λ (a b : DataWord). a.address < b.address) (cell_at columns t entries) (cells_apart columns t entries) (addresses_upto n) (addresses_rise n)
