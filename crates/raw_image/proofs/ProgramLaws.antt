-- The lists of a tile: what is read is what is written.
use Rattle.std.proofs.Common.{◌≡◌, ℕ, zero, suc, ◌+◌, ◌*◌, ◌%◌, ◌^◌, ◌<◌, ◌≤◌, true, ◌&&◌, cond, eqb, ltb, leb, List, [], ◌∷◌, ◌++◌, length, get_or, Option, Some, None, Result, Ok, Err, refl, sym, ap, subst, ◌∙◌, append_assoc, arith}
use Rattle.std.specs.Prelude.{IfSome}
use Rattle.std.specs.Int.{w32, w64, to_be_bytes}
use Rattle.std.specs.List.{All, AllPairs, flat_map}
use Rattle.std.proofs.lemmas.Bool.{and_parts, eqb-true, eq-eqb, ltb-true, lt-ltb, leb-true, le-leb}
use Rattle.std.proofs.lemmas.Option.{cond_some}
use Rattle.std.proofs.lemmas.List.{get_or_default}
use Rattle.std.proofs.lemmas.List.Elements.{All-nil, All-push, All-weaker}
use Rattle.std.proofs.lemmas.List.Quantifiers.{all_pairs_push}
use Rattle.raw_tile_isa.specs.Instruction.{Instruction, IsTileIns, TileCode, code_of, decode_of}
use Rattle.raw_switch_isa.specs.Instruction.{SwitchInstruction, IsSwitchIns}
use Rattle.raw_switch_isa.specs.Code.{code_of as switch_code_of, routes_word, SwitchCode}
use Rattle.raw_switch_isa.specs.Ends.{ends}
use Rattle.raw_switch_isa.proofs.Words.{limits}
use Rattle.raw_grid.specs.Topology.{Topology}
use Rattle.raw_model.specs.declared.limits.TheConstants.{MEMORY_SIZE, MEMORY_WORDS}
use Rattle.raw_model.specs.declared.program.DataWord.{DataWord}
use Rattle.raw_model.specs.Program.{IsDataWord, has_wires, memory_size}
use Rattle.raw_image.specs.declared.refused.Fault.{Fault}
use Rattle.raw_image.specs.declared.version.Version.{Version}
use Rattle.raw_image.specs.declared.version.Version.TheVariants as version
use Rattle.raw_image.specs.Fields.{said_at, address_from}
use Rattle.raw_image.specs.Switch.{decode_of as switch_of}
use Rattle.raw_image.specs.Image.{instruction_bytes, switch_bytes, cell_bytes, misses_bytes, number}
use Rattle.raw_image.specs.Reading.{code_at, wired_of, switch_at, cell_at, cells_at, least_behind, misses_at}
use Rattle.raw_image.proofs.Loop.{least_push}
use Rattle.raw_image.proofs.Decoding.{then_some, code_decodes, decoded_code, wired_some}
use Rattle.raw_image.proofs.Bytes.{IsBytes, Takes, Takes-none, Takes-as, Holds, Sound, step, wide32, wide64, said_sound, said_again, word_sound, word_again, number_sound, number_again, front_sound, front_again, Takes-then, shorter}
use Rattle.raw_image.proofs.Repeats.{list_sound, list_again}
use Rattle.raw_image.proofs.Seams.{all_seam, each_within}
use Rattle.raw_image.proofs.Promises.{Promises}

-- ---- the program of a tile

found_code : (o : Option Instruction) (n : ℕ) (x : Instruction) → o ≡ Some x → IfSome o (λ ins. TileCode ins n) → TileCode x n
found_code (Some y) n x e h = let same : y ≡ x = cc in subst (λ i. TileCode i n) same h
found_code None n x e h = absurd cc

tile_code : Promises → (n : ℕ) (x : Instruction) → decode_of n ≡ Some x → TileCode x n
tile_code promised n x e = found_code (decode_of n) n x e (promised.encodes n)

pub code_sound : Promises → (count : ℕ) (bytes : List ℕ) → IsBytes bytes → Sound bytes (flat_map instruction_bytes) (λ xs. (length xs ≡ count) × All IsTileIns xs) (code_at count bytes)
unfolding code_at
code_sound promised count bytes fits =
    list_sound (λ before. said_at w32 decode_of) instruction_bytes (All IsTileIns) (All-nil IsTileIns)
    (λ before rest ok good. said_sound w32 (2 ^ 32) decode_of instruction_bytes (λ x. All IsTileIns (before ++ x ∷ [])) wide32
    (λ n x lt e. let code = tile_code promised n x e in (ap (to_be_bytes w32) code.code, All-push IsTileIns before x good code.rules)) rest ok)
    count bytes fits

pub code_again : Promises → (xs : List Instruction) (rest : List ℕ) → All IsTileIns xs → code_at (length xs) (flat_map instruction_bytes xs ++ rest) ≡ Ok (xs, rest)
unfolding code_at
code_again promised xs rest good =
    list_again (λ before. said_at w32 decode_of) instruction_bytes [] xs rest
    (each_within (λ before. said_at w32 decode_of) instruction_bytes xs
    (λ before x after e next. let rules = all_seam IsTileIns xs before x after e good in said_again w32 (2 ^ 32) decode_of (code_of x) x next wide32 (promised.small x rules) (promised.decodes x (code_of x) (record { rules = rules; code = refl })))
    [] xs refl)

-- ---- the program of a switch

abbrev pub IsWiredIns : Topology → ℕ → SwitchInstruction → Type 0
IsWiredIns topo p ins = IsSwitchIns ins × (has_wires topo p ins ≡ true)

abbrev wired_as : Topology → ℕ → SwitchInstruction → Option SwitchInstruction
wired_as topo p ins = cond (has_wires topo p ins) (Some ins) None

wired_code : (topo : Topology) (p n : ℕ) (x : SwitchInstruction) → wired_of topo p n ≡ Some x → SwitchCode x n × (has_wires topo p x ≡ true)
wired_code topo p n x e =
    let a = then_some (wired_as topo p) (switch_of n) x e in
    let b = cond_some (has_wires topo p a.0) a.0 x a.2 in
    (decoded_code n x (a.1 ∙ ap (λ i. Some i) b.1), subst (λ i. has_wires topo p i ≡ true) b.1 b.0)

switch_small : (ins : SwitchInstruction) → IsSwitchIns ins → switch_code_of ins < 2 ^ 64
unfolding switch_code_of routes_word ends
switch_small ins rules = let below = limits ins rules in omega arith

pub switch_sound : (topo : Topology) (p count : ℕ) (bytes : List ℕ) → IsBytes bytes → Sound bytes (flat_map switch_bytes) (λ xs. (length xs ≡ count) × All (IsWiredIns topo p) xs) (switch_at topo p count bytes)
unfolding switch_at
switch_sound topo p count bytes fits =
    list_sound (λ before. said_at w64 (wired_of topo p)) switch_bytes (All (IsWiredIns topo p)) (All-nil (IsWiredIns topo p))
    (λ before rest ok good. said_sound w64 (2 ^ 64) (wired_of topo p) switch_bytes (λ x. All (IsWiredIns topo p) (before ++ x ∷ [])) wide64
    (λ n x lt e. let code = wired_code topo p n x e in (ap (to_be_bytes w64) code.0.code, All-push (IsWiredIns topo p) before x good (code.0.rules, code.1))) rest ok)
    count bytes fits

pub switch_again : (topo : Topology) (p : ℕ) (xs : List SwitchInstruction) (rest : List ℕ) → All (IsWiredIns topo p) xs → switch_at topo p (length xs) (flat_map switch_bytes xs ++ rest) ≡ Ok (xs, rest)
unfolding switch_at
switch_again topo p xs rest good =
    list_again (λ before. said_at w64 (wired_of topo p)) switch_bytes [] xs rest
    (each_within (λ before. said_at w64 (wired_of topo p)) switch_bytes xs
    (λ before x after e next. let rules = all_seam (IsWiredIns topo p) xs before x after e good in
    said_again w64 (2 ^ 64) (wired_of topo p) (switch_code_of x) x next wide64 (switch_small x rules.0)
    (wired_some topo p (switch_code_of x) x (code_decodes x (switch_code_of x) (record { rules = rules.0; code = refl })) rules.1))
    [] xs refl)

-- ---- the words in memory

address_is : (least n x : ℕ) → address_from least n ≡ Some x → (n ≡ x) × (x % 4 ≡ 0) × (least ≤ x) × (x < MEMORY_SIZE)
address_is least n x e =
    let a = cond_some ((eqb (n % 4) 0 && leb least n) && ltb n MEMORY_SIZE) n x e in
    let b = and_parts (eqb (n % 4) 0 && leb least n) (ltb n MEMORY_SIZE) a.0 in
    let c = and_parts (eqb (n % 4) 0) (leb least n) b.0 in
    (a.1, rw (← a.1) (eqb-true _ _ c.0), rw (← a.1) (leb-true _ _ c.1), rw (← a.1) (ltb-true _ _ b.1))

address_passes : (least n : ℕ) → n % 4 ≡ 0 → least ≤ n → n < MEMORY_SIZE → address_from least n ≡ Some n
address_passes least n aligned low inside = rw (eq-eqb _ _ aligned, le-leb _ _ low, lt-ltb _ _ inside) refl

-- an address of a word in memory
pub record IsAddress (least n : ℕ) : Type 0 where
  pub aligned : n % 4 ≡ 0
  pub low : least ≤ n
  pub inside : n < MEMORY_SIZE

pub address_sound : (least : ℕ) (bytes : List ℕ) → IsBytes bytes → Sound bytes number (IsAddress least) (said_at w32 (address_from least) bytes)
address_sound least bytes fits =
    said_sound w32 (2 ^ 32) (address_from least) number (IsAddress least) wide32 (λ n x lt e. let a = address_is least n x e in (ap number (sym a.0), record { aligned = a.1; low = a.2; inside = a.3 })) bytes fits

pub address_again : (least n : ℕ) (rest : List ℕ) → IsAddress least n → said_at w32 (address_from least) (number n ++ rest) ≡ Ok (n, rest)
address_again least n rest a = said_again w32 (2 ^ 32) (address_from least) n n rest wide32 (omega (arith, a.inside)) (address_passes least n a.aligned a.low a.inside)

-- a word that may stand behind others whose least address behind them is this
pub record IsCell (least : ℕ) (cell : DataWord) : Type 0 where
  pub address : IsAddress least cell.address
  pub word : cell.word < 2 ^ 32

cell_sound : (least : ℕ) (bytes : List ℕ) → IsBytes bytes → Sound bytes cell_bytes (IsCell least) (cell_at least bytes)
unfolding cell_at
cell_sound least bytes fits =
    step bytes [] bytes number (IsAddress least) (λ cell rest. Takes bytes (cell_bytes cell) rest × IsCell least cell) (said_at w32 (address_from least) bytes) _ (Takes-none bytes fits) (address_sound least bytes fits) (λ address r1 t1 a.
    step bytes (number address) r1 number (λ n. n < 2 ^ 32) (λ cell rest. Takes bytes (cell_bytes cell) rest × IsCell least cell) (said_at w32 Some r1) _ t1 (word_sound r1 t1.rest_fits) (λ word r2 t2 b.
    (t2, record { address = a; word = b })))

cell_again : (least : ℕ) (cell : DataWord) (rest : List ℕ) → IsCell least cell → cell_at least (cell_bytes cell ++ rest) ≡ Ok (cell, rest)
unfolding cell_at
cell_again least cell rest h =
    ap (cell_at least) (append_assoc (number cell.address) (number cell.word) rest)
    ∙ rw (address_again least cell.address (number cell.word ++ rest) h.address, word_again cell.word rest h.word) refl

-- words of a memory by rising address
pub record AreCells (cells : List DataWord) : Type 0 where
  pub each : All IsDataWord cells
  pub rising : AllPairs (λ (a b : DataWord). a.address < b.address) cells
  pub below : All (λ (cell : DataWord). cell.address < least_behind cells) cells

no_cells : AreCells []
no_cells = record { each = All-nil IsDataWord; rising = λ i j d l m. absurd (omega arith); below = All-nil (λ (cell : DataWord). cell.address < 0) }

more_cells : (cells : List DataWord) (cell : DataWord) → AreCells cells → IsCell (least_behind cells) cell → AreCells (cells ++ cell ∷ [])
unfolding memory_size
more_cells cells cell h c =
    let under : All (λ (x : DataWord). x.address < cell.address) cells = All-weaker (λ (x : DataWord). x.address < least_behind cells) (λ (x : DataWord). x.address < cell.address) (λ x l. omega (arith, l, c.address.low)) cells h.below in
    record {
      each = All-push IsDataWord cells cell h.each (record { aligned = c.address.aligned; inside = c.address.inside; word = c.word });
      rising = all_pairs_push (λ (a b : DataWord). a.address < b.address) cells cell h.rising (λ k d l. under k d l);
      below = subst (λ m. All (λ (x : DataWord). x.address < m) (cells ++ cell ∷ [])) (sym (least_push cells cell))
          (All-push (λ (x : DataWord). x.address < cell.address + 1) cells cell (All-weaker (λ (x : DataWord). x.address < cell.address) (λ (x : DataWord). x.address < cell.address + 1) (λ x l. omega (arith, l)) cells under) (omega arith));
    }

pub cells_sound : (count : ℕ) (bytes : List ℕ) → IsBytes bytes → Sound bytes (flat_map cell_bytes) (λ xs. (length xs ≡ count) × AreCells xs) (cells_at count bytes)
unfolding cells_at
cells_sound count bytes fits =
    list_sound (λ before. cell_at (least_behind before)) cell_bytes AreCells no_cells
    (λ before rest ok good. weaker rest (cell_at (least_behind before) rest) before good (cell_sound (least_behind before) rest ok))
    count bytes fits
  where
    weaker : (rest : List ℕ) (r : Result (DataWord × List ℕ) Fault) (before : List DataWord) → AreCells before → Sound rest cell_bytes (IsCell (least_behind before)) r → Sound rest cell_bytes (λ x. AreCells (before ++ x ∷ [])) r
    weaker rest (Ok x) before good h = (h.0, more_cells before x.0 good h.1)
    weaker rest (Err f) before good h = h

-- the words before one in rising order are below it
front_below : (before : List DataWord) (x : DataWord) (after : List DataWord) → AllPairs (λ (a b : DataWord). a.address < b.address) (before ++ (x ∷ after)) → least_behind before ≤ x.address
front_below [] x after h = omega arith
front_below (b ∷ []) x after h = omega (arith, h 0 1 b)
front_below (b ∷ c ∷ before) x after h = front_below (c ∷ before) x after (λ i j d l m. h (suc i) (suc j) d (omega (arith, l)) (omega (arith, m)))

pub cells_again : (xs : List DataWord) (rest : List ℕ) → All IsDataWord xs → AllPairs (λ (a b : DataWord). a.address < b.address) xs → cells_at (length xs) (flat_map cell_bytes xs ++ rest) ≡ Ok (xs, rest)
unfolding cells_at memory_size
cells_again xs rest good rising =
    list_again (λ before. cell_at (least_behind before)) cell_bytes [] xs rest
    (each_within (λ before. cell_at (least_behind before)) cell_bytes xs
    (λ before x after e next.
    let c = all_seam IsDataWord xs before x after e good in
    let low = front_below before x after (subst (λ ys. AllPairs (λ (a b : DataWord). a.address < b.address) ys) (sym e) rising) in
    cell_again (least_behind before) x next (record { address = record { aligned = c.aligned; low = low; inside = c.inside }; word = c.word }))
    [] xs refl)

-- so there is room for one in four bytes alone
spaced : (cells : List DataWord) (d : DataWord) → All IsDataWord cells → AllPairs (λ (a b : DataWord). a.address < b.address) cells → (k : ℕ) → k < length cells → 4 * k ≤ (get_or cells k d).address
spaced cells d good rising zero l = omega arith
spaced cells d good rising (suc k) l =
    let before = spaced cells d good rising k (omega (arith, l)) in
    let step_up = rising k (suc k) d (omega arith) l in
    omega (arith, before, step_up, (good k d (omega (arith, l))).aligned, (good (suc k) d l).aligned)

pub few_cells : (cells : List DataWord) → All IsDataWord cells → AllPairs (λ (a b : DataWord). a.address < b.address) cells → length cells ≤ MEMORY_WORDS
unfolding memory_size
few_cells [] good rising = omega arith
few_cells (c ∷ cells) good rising =
    let last = spaced (c ∷ cells) c good rising (length cells) (omega arith) in
    omega (arith, last, (good (length cells) c (omega arith)).inside)

-- ---- the miss stream

-- a miss stream that a version can hold, of at most so many numbers
pub record AreMisses (v : Version) (most : ℕ) (misses : List ℕ) : Type 0 where
  pub few : length misses ≤ most
  pub each : All (λ turns. turns < 256) misses
  pub held : v ≡ version.One → misses ≡ []

pub all_bytes : (xs : List ℕ) → IsBytes xs → All (λ turns. turns < 256) xs
all_bytes xs h = λ k d l. rw (get_or_default xs k d 0 l) (h k)

pub misses_sound : (v : Version) (most : ℕ) (bytes : List ℕ) → IsBytes bytes → Sound bytes (misses_bytes v) (AreMisses v most) (misses_at v most bytes)
misses_sound version.One most bytes fits = (Takes-none bytes fits, record { few = omega arith; each = All-nil (λ turns. turns < 256); held = λ _. refl })
misses_sound version.Two most bytes fits =
    step bytes [] bytes number (λ n. (0 ≤ n) × (n ≤ most)) (λ x rest. Takes bytes (misses_bytes version.Two x) rest × AreMisses version.Two most x) _ _ (Takes-none bytes fits) (number_sound 0 most bytes fits) (λ count r1 t1 a.
    by_front count r1 t1 a.1 _ (front_sound count r1 t1.rest_fits))
  where
    by_front : (count : ℕ) (r1 : List ℕ) → Takes bytes (number count) r1 → count ≤ most → (r : Result (List ℕ × List ℕ) Fault) → Sound r1 (λ x. x) (λ x. (length x ≡ count) × IsBytes x) r → Holds bytes (λ x rest. Takes bytes (misses_bytes version.Two x) rest × AreMisses version.Two most x) r
    by_front count r1 t1 few (Ok x) h =
        (Takes-as bytes (number count ++ x.0) (misses_bytes version.Two x.0) x.1 (ap (λ n. number n ++ x.0) (sym h.1.0)) (Takes-then bytes (number count) r1 x.0 x.1 t1 h.0), record { few = omega (arith, h.1.0); each = all_bytes x.0 h.1.1; held = λ e. absurd (cc e) })
    by_front count r1 t1 few (Err f) h = omega (arith, h, shorter bytes (number count) r1 t1)

pub misses_again : (v : Version) (most : ℕ) (misses rest : List ℕ) → most < 2 ^ 32 → AreMisses v most misses → misses_at v most (misses_bytes v misses ++ rest) ≡ Ok (misses, rest)
misses_again version.One most misses rest small h = ap (λ xs. Ok (xs, rest)) (sym (h.held refl))
misses_again version.Two most misses rest small h =
    ap (misses_at version.Two most) (append_assoc (number (length misses)) misses rest)
    ∙ rw (number_again 0 most (length misses) (misses ++ rest) (omega (arith, h.few)) (omega arith) h.few, front_again (length misses) misses rest refl) refl
