-- The start of the machine with terms has, on the values of its terms, the start of the machine.
use Rattle.std.proofs.Common.{◌≡◌, ℕ, zero, suc, ◌+◌, ◌-◌, ◌*◌, ◌/◌, ◌^◌, ◌<◌, ◌≤◌, List, [], ◌∷◌, ◌++◌, length, get_or, take, drop, Some, refl, sym, ap, ◌∙◌, subst, ⊎_elim, arith, append_assoc, length-append, drop-cons}
use Rattle.std.specs.Prelude.{slice_get, slice_index, map, replicate}
use Rattle.std.specs.List.{range_with_len}
use Rattle.std.specs.Int.{w32, to_be_bytes}
use Rattle.std.proofs.lemmas.Bool.{cases_lt}
use Rattle.std.proofs.lemmas.List.Elements.{All-replicate}
use Rattle.std.proofs.lemmas.List.{length-replicate, get_or-replicate, get_or_past, drop_all, append-nil}
use Rattle.raw_tile_isa.specs.Words.{EachGivesWords}
use Rattle.raw_grid.specs.declared.parts.PortKind.{PortKind}
use Rattle.raw_grid.specs.declared.parts.PortKind.TheVariants as kind
use Rattle.raw_grid.specs.declared.parts.PortPlace.{PortPlace}
use Rattle.raw_grid.specs.Wires.{wires_of}
use Rattle.raw_grid.specs.Topology.{tile_count}
use Rattle.raw_model.specs.declared.marks.Mark.{Mark}
use Rattle.raw_model.specs.Machine.{tile_code, words_of, capacity_of}
use Rattle.raw_model.specs.declared.program.DataWord.{DataWord}
use Rattle.raw_model.specs.Program.{ProgramSet, TileProgram, PortProgram, memory_size, IsDataWord}
use Rattle.raw_model.specs.Local.{Local, Tile, Switch, TileLocal}
use Rattle.raw_model.specs.TileTable.{stored, word_at}
use Rattle.raw_model.specs.Start.{first_mark, with_words, first_memory, first_tile, first_switch, first_port, start}
use Rattle.raw_model.specs.Bounds.{all_words}
use Rattle.raw_flow.specs.declared.node.Node.{Node}
use Rattle.raw_flow.specs.declared.node.Node.TheVariants.{Input, Const}
use Rattle.raw_flow.specs.Flows.{IsNode, values_from}
use Rattle.raw_term.specs.Terms.{Numbered, with_node}
use Rattle.raw_model.specs.Fed.{fed_ports, fed}
use Rattle.raw_term.specs.TermMachine.{TermMemory, with_cell, with_cells, first_term_memory, TermTiles, first_term_tile, first_term_tiles, first_nodes, term_start}
use Rattle.raw_term.proofs.Terms.{Holds, AreTerms, IsMade, some_is, none_some, get_next, term_values}
use Rattle.raw_term.proofs.Forms.{word_made}
use Rattle.raw_term.proofs.Image.{Pairs, AlikeLocals, AlikeWires, pairs_up}
use Rattle.raw_term.proofs.TileTerms.{AlikeCore, none_holds, core_up, stored_alike}
use Rattle.raw_term.proofs.Rows.{AlikeLocal, IsLawfulIns}
use Rattle.raw_term.proofs.Steps.{local_up, TermsStand}

-- the values of the first terms: 0, and the inputs
module _ (inputs : List ℕ) where
  pub inputs_follow : (n k : ℕ) (before : List ℕ) → k + n ≡ length inputs → values_from inputs k before (replicate n Input) ≡ before ++ drop k inputs
  inputs_follow zero k before e = sym (ap (λ xs. before ++ xs) (drop_all k inputs (omega arith)) ∙ append-nil before)
  inputs_follow (suc n) k before e =
      let x : ℕ = slice_index inputs k in
      inputs_follow n (k + 1) (before ++ x ∷ []) (omega arith)
      ∙ append_assoc before (x ∷ []) (drop (k + 1) inputs)
      ∙ ap (λ xs. before ++ xs) (sym (next (drop-cons inputs k 0 (omega arith))))
    where
      next : drop k inputs ≡ slice_index inputs k ∷ drop (suc k) inputs → drop k inputs ≡ slice_index inputs k ∷ drop (k + 1) inputs
      next f = let s : suc k ≡ k + 1 = omega arith in f ∙ ap (λ j. slice_index inputs k ∷ drop j inputs) s

  first_values : term_values inputs (first_nodes (length inputs)) ≡ 0 ∷ inputs
  first_values = inputs_follow (length inputs) 0 (0 ∷ []) (omega arith)

  replicate_is : (n v : ℕ) (node : Node) → slice_get (replicate n Input) v ≡ Some node → Input ≡ node
  replicate_is zero v node e = none_some node e
  replicate_is (suc n) zero node e = some_is Input node e
  replicate_is (suc n) (suc v) node e = replicate_is n v node e

  first_node : (n v : ℕ) (node : Node) → slice_get (first_nodes n) v ≡ Some node → IsNode v node
  first_node n zero node e = let small : 0 < 2 ^ 32 = omega arith in subst (λ m. IsNode 0 m) (some_is (Const 0) node e) small
  first_node n (suc v) node e = subst (λ m. IsNode (suc v) m) (replicate_is n v node e) tt

  first_word : ((i x : ℕ) → slice_get inputs i ≡ Some x → x < 2 ^ 32) → (c x : ℕ) → slice_get (0 ∷ inputs) c ≡ Some x → x < 2 ^ 32
  first_word small zero x e = subst (λ v. v < 2 ^ 32) (some_is 0 x e) (omega arith)
  first_word small (suc c) x e = small c x e

  pub first_terms : ((i x : ℕ) → slice_get inputs i ≡ Some x → x < 2 ^ 32) → AreTerms inputs (first_nodes (length inputs))
  first_terms small = record {
    none = refl;
    are = first_node (length inputs);
    words = λ c x h. first_word small c x (subst (λ vs. Holds vs c x) first_values h);
  }

-- the k-th input is term 1 + k
pub inputs_held : (inputs : List ℕ) (i x : ℕ) → slice_get inputs i ≡ Some x → Holds (term_values inputs (first_nodes (length inputs))) (1 + i) x
inputs_held inputs i x e =
    let same : suc i ≡ 1 + i = omega arith in
    subst (λ vs. Holds vs (1 + i) x) (sym (first_values inputs)) (subst (λ j. slice_get (0 ∷ inputs) j ≡ Some x) same e)

pairs_from : (front xs : List ℕ) (k : ℕ) → k ≡ length front → Pairs (Holds (front ++ xs)) (range_with_len k (length xs)) xs
pairs_from front [] k e = tt
pairs_from front (x ∷ xs) k e = (
  subst (λ j. slice_get (front ++ x ∷ xs) j ≡ Some x) (sym e) (get_next front xs x),
  subst (λ vs. Pairs (Holds vs) (range_with_len (k + 1) (length xs)) xs) (append_assoc front (x ∷ []) xs)
      (pairs_from (front ++ x ∷ []) xs (k + 1) (omega (arith, e, length-append front (x ∷ [])))),
)

-- the k-th number of an input stands for the k-th input
pub numbers_stand : (inputs : List ℕ) → Pairs (Holds (term_values inputs (first_nodes (length inputs)))) (range_with_len 1 (length inputs)) inputs
numbers_stand inputs = subst (λ vs. Pairs (Holds vs) (range_with_len 1 (length inputs)) inputs) (sym (first_values inputs)) (pairs_from (0 ∷ []) inputs 1 refl)

module _ (H : ℕ → ℕ → Type 0) where
  pub pairs_take : (n : ℕ) (xs ys : List ℕ) → Pairs H xs ys → Pairs H (take n xs) (take n ys)
  pairs_take zero xs ys h = tt
  pairs_take (suc n) [] [] h = tt
  pairs_take (suc n) [] (y ∷ ys) h = absurd h
  pairs_take (suc n) (x ∷ xs) [] h = absurd h
  pairs_take (suc n) (x ∷ xs) (y ∷ ys) h = (h.0, pairs_take n xs ys h.1)

  pub pairs_left : (n : ℕ) (xs ys : List ℕ) → Pairs H xs ys → Pairs H (drop n xs) (drop n ys)
  pairs_left zero xs ys h = h
  pairs_left (suc n) [] [] h = tt
  pairs_left (suc n) [] (y ∷ ys) h = absurd h
  pairs_left (suc n) (x ∷ xs) [] h = absurd h
  pairs_left (suc n) (x ∷ xs) (y ∷ ys) h = pairs_left n xs ys h.1

  pub fed_stand : (ports : List PortProgram) (xs ys : List ℕ) → Pairs H xs ys → (i : ℕ) → Pairs H (words_of (slice_get (fed_ports ports xs) i)) (words_of (slice_get (fed_ports ports ys) i))
  fed_stand [] xs ys h i = tt
  fed_stand (port ∷ ports) xs ys h zero = pairs_take (length port.words) xs ys h
  fed_stand (port ∷ ports) xs ys h (suc i) = fed_stand ports (drop (length port.words) xs) (drop (length port.words) ys) (pairs_left (length port.words) xs ys h) i

pub fed_room : (ports : List PortProgram) (xs ys : List ℕ) (i : ℕ) → capacity_of (slice_get (fed_ports ports xs) i) ≡ capacity_of (slice_get (fed_ports ports ys) i)
fed_room [] xs ys i = refl
fed_room (port ∷ ports) xs ys zero = refl
fed_room (port ∷ ports) xs ys (suc i) = fed_room ports (drop (length port.words) xs) (drop (length port.words) ys) i

-- memories
quarter : memory_size / 4 ≡ 16384
unfolding memory_size
quarter = refl

pub whole : memory_size ≡ 65536
unfolding memory_size
whole = refl

zero_at : (n i : ℕ) → get_or {A = ℕ} (replicate n 0) i 0 ≡ 0
zero_at n i =
    let none : ℕ = 0 in
    ⊎_elim (λ (h : i < n). get_or-replicate n i none none h) (λ (h : n ≤ i). get_or_past (replicate n none) i none (omega (arith, h, length-replicate n none))) (cases_lt i n)

zero_word : (n a : ℕ) → word_at (replicate n 0) a ≡ 0
zero_word n a = rw (zero_at n a, zero_at n (a + 1), zero_at n (a + 2), zero_at n (a + 3)) refl

-- a tile whose memory has these bytes
abbrev bare : Mark → List ℕ → TileLocal
bare mk bytes = record { regs = replicate 32 0; pc = 0; count = 0; mark = mk; memory = bytes }

record MemoryMade (inputs : List ℕ) (nodes : List Node) (m : TermMemory) (mk : Mark) (bytes : List ℕ) : Type 0 where
  pub terms : AreTerms inputs m.nodes
  pub keeps : (c y : ℕ) → Holds (term_values inputs nodes) c y → Holds (term_values inputs m.nodes) c y
  pub core : AlikeCore (term_values inputs m.nodes) (replicate 32 0) m.memory (bare mk bytes)

zero_pairs : (H : ℕ → ℕ → Type 0) → H 0 0 → (n : ℕ) → Pairs H (replicate n 0) (replicate n 0)
zero_pairs H none zero = tt
zero_pairs H none (suc n) = (none, zero_pairs H none n)

module _ (inputs : List ℕ) where
  empty_made : (nodes : List Node) (mk : Mark) → AreTerms inputs nodes → MemoryMade inputs nodes (record { nodes = nodes; memory = replicate (memory_size / 4) 0 }) mk (replicate memory_size 0)
  empty_made nodes mk are = record {
    terms = are;
    keeps = λ c y h. h;
    core = record {
      each = zero_pairs (Holds (term_values inputs nodes)) (none_holds inputs nodes are) 32;
      many = length-replicate (memory_size / 4) 0 ∙ quarter;
      size = length-replicate memory_size 0 ∙ whole;
      bytes = All-replicate (λ byte. byte < 256) memory_size 0 (omega arith);
      words = λ i l. subst (λ c. Holds (term_values inputs nodes) c (word_at (replicate memory_size 0) (4 * i))) (sym (zero_at (memory_size / 4) i))
          (subst (λ x. Holds (term_values inputs nodes) 0 x) (sym (zero_word memory_size (4 * i))) (none_holds inputs nodes are));
    };
  }

  cell_made : (nodes : List Node) (m : TermMemory) (mk : Mark) (bytes : List ℕ) (cell : DataWord) → IsDataWord cell → MemoryMade inputs nodes m mk bytes
      → MemoryMade inputs nodes (with_cell m.memory cell.address (with_node m.nodes (Const cell.word))) mk (stored bytes cell.address (to_be_bytes w32 cell.word))
  cell_made nodes m mk bytes cell is h =
      let r : Numbered = with_node m.nodes (Const cell.word) in
      let made : IsMade inputs m.nodes r cell.word = word_made inputs m.nodes h.terms cell.word is.word in
      let W : List ℕ = term_values inputs r.nodes in
      let core : AlikeCore W (replicate 32 0) m.memory (bare mk bytes) = core_up (term_values inputs m.nodes) W (replicate 32 0) m.memory (bare mk bytes) made.keeps h.core in
      let inside : cell.address + 4 ≤ 65536 = let below = is.inside in let al = is.aligned in omega (arith, whole, below, al) in
      let next = stored_alike W (none_holds inputs r.nodes made.terms) 0 (bare mk bytes) (replicate 32 0) m.memory core cell.address r.number cell.word is.aligned inside made.value is.word in
      record {
        terms = made.terms;
        keeps = λ c y g. made.keeps c y (h.keeps c y g);
        core = record { each = next.each; many = next.many; size = next.size; bytes = next.bytes; words = next.words };
      }

  cells_made : (nodes : List Node) (m : TermMemory) (mk : Mark) (bytes : List ℕ) (cells : List DataWord) → ((i : ℕ) (cell : DataWord) → slice_get cells i ≡ Some cell → IsDataWord cell) → MemoryMade inputs nodes m mk bytes
      → MemoryMade inputs nodes (with_cells m cells) mk (with_words bytes cells)
  cells_made nodes m mk bytes [] all h = h
  cells_made nodes m mk bytes (cell ∷ cells) all h =
      cells_made nodes (with_cell m.memory cell.address (with_node m.nodes (Const cell.word))) mk (stored bytes cell.address (to_be_bytes w32 cell.word)) cells (λ i c e. all (suc i) c e)
      (cell_made nodes m mk bytes cell (all 0 cell refl) h)

  memory_made : (nodes : List Node) (mk : Mark) (cells : List DataWord) → ((i : ℕ) (cell : DataWord) → slice_get cells i ≡ Some cell → IsDataWord cell) → AreTerms inputs nodes
      → MemoryMade inputs nodes (first_term_memory nodes cells) mk (first_memory cells)
  unfolding first_memory
  memory_made nodes mk cells all are = cells_made nodes (record { nodes = nodes; memory = replicate (memory_size / 4) 0 }) mk (replicate memory_size 0) cells all (empty_made nodes mk are)

  -- tiles
  pub record TilesMade (nodes : List Node) (t : TermTiles) (ms : List Local) : Type 0 where
    pub terms : AreTerms inputs t.nodes
    pub keeps : (c y : ℕ) → Holds (term_values inputs nodes) c y → Holds (term_values inputs t.nodes) c y
    pub tiles : AlikeLocals (AlikeLocal (term_values inputs t.nodes)) t.tiles ms

  abbrev pub HaveCells : List TileProgram → Type 0
  HaveCells tiles = (t : ℕ) (tile : TileProgram) → slice_get tiles t ≡ Some tile → (i : ℕ) (cell : DataWord) → slice_get tile.cells i ≡ Some cell → IsDataWord cell

  pub tiles_made : (nodes : List Node) (tiles : List TileProgram) → HaveCells tiles → AreTerms inputs nodes
      → TilesMade nodes (first_term_tiles nodes tiles) (map (λ (tile : TileProgram). Tile (first_tile tile)) tiles)
  tiles_made nodes [] all are = record { terms = are; keeps = λ c y h. h; tiles = tt }
  tiles_made nodes (tile ∷ tiles) all are =
      let m : TermMemory = first_term_memory nodes tile.cells in
      let one : MemoryMade inputs nodes m (first_mark tile.code) (first_memory tile.cells) = memory_made nodes (first_mark tile.code) tile.cells (all 0 tile refl) are in
      let more : TilesMade m.nodes (first_term_tiles m.nodes tiles) (map (λ (u : TileProgram). Tile (first_tile u)) tiles) = tiles_made m.nodes tiles (λ t u e. all (suc t) u e) one.terms in
      record {
        terms = more.terms;
        keeps = λ c y h. more.keeps c y (one.keeps c y h);
        tiles = (
          local_up (term_values inputs m.nodes) (term_values inputs (first_term_tiles m.nodes tiles).nodes) more.keeps (first_term_tile tile m) (Tile (first_tile tile)) (record { rest = refl; core = one.core }),
          more.tiles,
        );
      }

pub locals_append : {L M : Type 0} (R : L → M → Type 0) (ls : List L) (ms : List M) (ks : List L) (ns : List M) → AlikeLocals R ls ms → AlikeLocals R ks ns → AlikeLocals R (ls ++ ks) (ms ++ ns)
locals_append R [] [] ks ns h g = g
locals_append R [] (m ∷ ms) ks ns h g = absurd h
locals_append R (l ∷ ls) [] ks ns h g = absurd h
locals_append R (l ∷ ls) (m ∷ ms) ks ns h g = (h.0, locals_append R ls ms ks ns h.1 g)

pub switches_stand : (values : List ℕ) → Holds values 0 0 → (tiles : List TileProgram)
    → AlikeLocals (AlikeLocal values) (map (λ (tile : TileProgram). Switch (first_switch tile.switch)) tiles) (map (λ (tile : TileProgram). Switch (first_switch tile.switch)) tiles)
switches_stand values none [] = tt
switches_stand values none (tile ∷ tiles) = ((refl, zero_pairs (Holds values) none 4), switches_stand values none tiles)

port_stands : (values : List ℕ) (k : PortKind) → AlikeLocal values (first_port k) (first_port k)
port_stands values kind.Source = refl
port_stands values kind.Sink = (refl, tt)

pub ports_stand : (values : List ℕ) (places : List PortPlace)
    → AlikeLocals (AlikeLocal values) (map (λ (place : PortPlace). first_port place.kind) places) (map (λ (place : PortPlace). first_port place.kind) places)
ports_stand values [] = tt
ports_stand values (place ∷ places) = (port_stands values place.kind, ports_stand values places)

wires_stand : (H : ℕ → ℕ → Type 0) (n : ℕ) → AlikeWires H (replicate n []) (replicate n [])
wires_stand H zero = tt
wires_stand H (suc n) = (tt, wires_stand H n)

-- the start of the machine with terms stands for the start of the machine
pub start_stands : (each : EachGivesWords) (inputs : List ℕ) (set_ : ProgramSet) (lawful : (p : ℕ) (i : ℕ) → IsLawfulIns (slice_get (tile_code set_ p) i)) → HaveCells inputs set_.tiles
    → length inputs ≡ all_words set_ → ((i x : ℕ) → slice_get inputs i ≡ Some x → x < 2 ^ 32)
    → TermsStand each inputs set_ (fed_ports set_.ports (range_with_len 1 (all_words set_))) (fed_ports set_.ports inputs) lawful
    (λ p. fed_room set_.ports (range_with_len 1 (all_words set_)) inputs (p - 2 * tile_count set_.topo)) (term_start set_) (start (fed set_ inputs))
unfolding start term_start
start_stands each inputs set_ lawful cells many small =
    let nodes : List Node = first_nodes (all_words set_) in
    let are : AreTerms inputs nodes = subst (λ n. AreTerms inputs (first_nodes n)) many (first_terms inputs small) in
    let made : TilesMade inputs nodes (first_term_tiles nodes set_.tiles) (map (λ (tile : TileProgram). Tile (first_tile tile)) set_.tiles) = tiles_made inputs nodes set_.tiles cells are in
    let W : List ℕ = term_values inputs (first_term_tiles nodes set_.tiles).nodes in
    let numbers_are : Pairs (Holds (term_values inputs nodes)) (range_with_len 1 (all_words set_)) inputs =
    subst (λ n. Pairs (Holds (term_values inputs (first_nodes n))) (range_with_len 1 n) inputs) many (numbers_stand inputs) in
    record {
      terms = made.terms;
      has = λ i x f. made.keeps (1 + i) x (subst (λ n. Holds (term_values inputs (first_nodes n)) (1 + i) x) many (inputs_held inputs i x f));
      fed = λ p. fed_stand (Holds W) set_.ports (range_with_len 1 (all_words set_)) inputs (pairs_up (Holds (term_values inputs nodes)) (Holds W) made.keeps (range_with_len 1 (all_words set_)) inputs numbers_are) (p - 2 * tile_count set_.topo);
      alike = record {
        locals = locals_append (AlikeLocal W) (first_term_tiles nodes set_.tiles).tiles (map (λ (tile : TileProgram). Tile (first_tile tile)) set_.tiles)
            (map (λ (tile : TileProgram). Switch (first_switch tile.switch)) set_.tiles ++ map (λ (place : PortPlace). first_port place.kind) set_.topo.places)
            (map (λ (tile : TileProgram). Switch (first_switch tile.switch)) set_.tiles ++ map (λ (place : PortPlace). first_port place.kind) set_.topo.places)
            made.tiles
            (locals_append (AlikeLocal W) (map (λ (tile : TileProgram). Switch (first_switch tile.switch)) set_.tiles) (map (λ (tile : TileProgram). Switch (first_switch tile.switch)) set_.tiles)
            (map (λ (place : PortPlace). first_port place.kind) set_.topo.places) (map (λ (place : PortPlace). first_port place.kind) set_.topo.places)
            (switches_stand W (none_holds inputs (first_term_tiles nodes set_.tiles).nodes made.terms) set_.tiles) (ports_stand W set_.topo.places));
        wires = wires_stand (Holds W) (length (wires_of set_.topo));
      };
    }
