-- The parts of a machine with terms at the start.
use Rattle.std.proofs.Common.{◌≡◌, ℕ, zero, suc, ◌+◌, ◌-◌, ◌*◌, ◌/◌, ◌<◌, ◌≤◌, cond, List, [], ◌∷◌, ◌++◌, length, map, set, take, drop, Option, Some, None, refl, sym, ap, ap₂, ◌∙◌, subst, arith, le_trans, length-append, length-set, append_assoc}
use Rattle.std.specs.Prelude.{slice_get, slice_index, replicate, sum_by, nat_lt}
use Rattle.std.specs.List.{range_with_len, fold}
use Rattle.std.specs.Option.{option_map}
use Rattle.std.proofs.Math.Seq.{take-append_seam, drop-append_seam}
use Rattle.std.proofs.lemmas.Bool.{lt-ltb, le-ltb}
use Rattle.std.proofs.lemmas.List.{length-replicate, length_push}
use Rattle.std.proofs.lemmas.List.FromFn.{length-range_with_len, get_or-range_with_len}
use Rattle.std.proofs.lemmas.Option.{same_Some, slice_get_within}
use Rattle.raw_tile_isa.specs.Instruction.{Instruction}
use Rattle.raw_switch_isa.specs.Instruction.{SwitchInstruction}
use Rattle.raw_grid.specs.declared.parts.PortKind.{PortKind}
use Rattle.raw_grid.specs.declared.parts.PortKind.TheVariants as kind
use Rattle.raw_grid.specs.declared.parts.PortPlace.{PortPlace}
use Rattle.raw_grid.specs.declared.parts.ProcKind.{ProcKind}
use Rattle.raw_grid.specs.declared.parts.ProcKind.TheVariants as proc
use Rattle.raw_grid.specs.Topology.{tile_count, port_proc, kind_at}
use Rattle.raw_model.specs.declared.marks.Mark.TheVariants.{Going}
use Rattle.raw_model.specs.declared.program.DataWord.{DataWord}
use Rattle.raw_model.specs.Program.{ProgramSet, TileProgram, PortProgram, IsSet, memory_size}
use Rattle.raw_model.specs.Local.{Local, Source, Sink, TileLocal, SwitchLocal, PortLocal}
use Rattle.raw_model.specs.Machine.{program_code, program_switch, tile_code, switch_code, port_program, words_of, capacity_of}
use Rattle.raw_model.specs.Start.{first_mark, first_switch, first_port}
use Rattle.raw_model.specs.Bounds.{all_words}
use Rattle.raw_tile.specs.Zeros.{IsZeros}
use Rattle.raw_processor.specs.declared.processor.SwitchUnit.{SwitchUnit}
use Rattle.raw_processor.specs.Port.{Port}
use Rattle.raw_serial.proofs.Fields.{each_more}
use Rattle.raw_serial.proofs.Placed.{IsPortAt, placed}
use Rattle.raw_serial.specs.Fresh.{IsFirstPort}
use Rattle.raw_flow.specs.declared.node.Node.{Node}
use Rattle.raw_flow.specs.declared.node.Node.TheVariants.{Const}
use Rattle.raw_term.specs.Terms.{Overflows, place_from, Numbered, placed as with_place, with_node}
use Rattle.raw_model.specs.Fed.{fed_ports}
use Rattle.raw_term.specs.TermMachine.{numbered, TermMemory, with_cell, with_cells, first_term_memory, TermTiles, first_term_tile, tile_before, first_term_tiles}
use Rattle.raw_prove.specs.declared.unit.Unit.{Unit}
use Rattle.raw_prove.specs.declared.unit.Unit.TheVariants as a
use Rattle.raw_prove.specs.declared.unit.TileUnit.{TileUnit}
use Rattle.raw_prove.specs.declared.unit.SourceUnit.{SourceUnit}
use Rattle.raw_prove.specs.Units.{local_of, IsTile, IsSwitch, IsSource, IsSink, IsUnit, AreUnits}
use Rattle.raw_prove.specs.Opened.{IsOpenTile, IsOpenPort}
use Rattle.raw_prove.proofs.Sweeping.{range_split}

-- what a list has behind the first i
pub rest_at : {A : Type 0} (xs : List A) (i : ℕ) (x : A) → slice_get xs i ≡ Some x → drop i xs ≡ x ∷ drop (i + 1) xs
rest_at [] i x e = absurd (cc e)
rest_at (y ∷ xs) zero x e = ap (λ z. z ∷ xs) (same_Some y x e)
rest_at (y ∷ xs) (suc i) x e = let n : suc i + 1 ≡ suc (i + 1) = omega arith in rest_at xs i x e ∙ ap (λ k. x ∷ drop k (y ∷ xs)) (sym n)

-- memories
pub quarter : 16384 ≡ memory_size / 4
unfolding memory_size
quarter = refl

pub zeros_are : (size : ℕ) (numbers : List ℕ) → size ≡ memory_size / 4 → IsZeros size numbers → numbers ≡ replicate (memory_size / 4) 0
unfolding IsZeros
zeros_are size numbers same zeros = zeros ∙ ap (λ n. replicate n 0) same

pub zeros_many : (size : ℕ) (numbers : List ℕ) → IsZeros size numbers → length numbers ≡ size
unfolding IsZeros
zeros_many size numbers zeros = ap length zeros ∙ length-replicate size 0

pub cells_step : (table later : List Node) (memory : List ℕ) (cells : List DataWord) (i : ℕ) (cell : DataWord) (number : ℕ) → slice_get cells i ≡ Some cell
    → with_node table (Const cell.word) ≡ record { nodes = later; number = number }
    → with_cells (record { nodes = table; memory = memory }) (drop i cells) ≡ with_cells (record { nodes = later; memory = set memory (cell.address / 4) number }) (drop (i + 1) cells)
cells_step table later memory cells i cell number here is =
    ap (with_cells (record { nodes = table; memory = memory })) (rest_at cells i cell here)
    ∙ ap (λ (r : Numbered). with_cells (with_cell memory cell.address r) (drop (i + 1) cells)) is

pub cells_then : (first table later : List Node) (memory : List ℕ) (cells : List DataWord) (i : ℕ) (cell : DataWord) (number : ℕ) → slice_get cells i ≡ Some cell
    → with_node table (Const cell.word) ≡ record { nodes = later; number = number }
    → with_cells (record { nodes = first; memory = replicate (memory_size / 4) 0 }) cells ≡ with_cells (record { nodes = table; memory = memory }) (drop i cells) → length memory ≡ 16384
    → (with_cells (record { nodes = first; memory = replicate (memory_size / 4) 0 }) cells ≡ with_cells (record { nodes = later; memory = set memory (cell.address / 4) number }) (drop (i + 1) cells))
    × (length (set memory (cell.address / 4) number) ≡ 16384)
cells_then first table later memory cells i cell number here is so many =
    (so ∙ cells_step table later memory cells i cell number here is, length-set memory (cell.address / 4) number ∙ many)

node_longer : (nodes : List Node) (node : Node) → length nodes ≤ length (with_node nodes node).nodes
node_longer nodes node = by (place_from 0 nodes node) where
  by : (o : Option ℕ) → length nodes ≤ length (with_place nodes node o).nodes
  by None = omega (arith, length-append nodes (node ∷ []))
  by (Some v) = omega arith

cells_longer : (m : TermMemory) (cells : List DataWord) → length m.nodes ≤ length (with_cells m cells).nodes
cells_longer m [] = omega arith
cells_longer m (cell ∷ cells) =
    le_trans (node_longer m.nodes (Const cell.word)) (cells_longer (with_cell m.memory cell.address (with_node m.nodes (Const cell.word))) cells)

pub cells_over : (table : List Node) (memory : List ℕ) (cells : List DataWord) (i : ℕ) (cell : DataWord) → slice_get cells i ≡ Some cell → Overflows (with_node table (Const cell.word)).nodes
    → Overflows (with_cells (record { nodes = table; memory = memory }) (drop i cells)).nodes
cells_over table memory cells i cell here over =
    subst (λ (cs : List DataWord). Overflows (with_cells (record { nodes = table; memory = memory }) cs).nodes) (sym (rest_at cells i cell here))
    (omega (arith, over, cells_longer (with_cell memory cell.address (with_node table (Const cell.word))) (drop (i + 1) cells)))

-- tiles
pub tiles_longer : (nodes : List Node) (tiles : List TileProgram) → length nodes ≤ length (first_term_tiles nodes tiles).nodes
tiles_longer nodes [] = omega arith
tiles_longer nodes (tile ∷ tiles) =
    le_trans (cells_longer (record { nodes = nodes; memory = replicate (memory_size / 4) 0 }) tile.cells) (tiles_longer (first_term_memory nodes tile.cells).nodes tiles)

pub tiles_over : (table : List Node) (tiles : List TileProgram) (i : ℕ) (tile : TileProgram) → slice_get tiles i ≡ Some tile → Overflows (first_term_memory table tile.cells).nodes
    → Overflows (first_term_tiles table (drop i tiles)).nodes
tiles_over table tiles i tile here over =
    subst (λ (ts : List TileProgram). Overflows (first_term_tiles table ts).nodes) (sym (rest_at tiles i tile here))
    (omega (arith, over, tiles_longer (first_term_memory table tile.cells).nodes (drop (i + 1) tiles)))

-- the first so many tiles are opened, and the table is the one after them
pub record TilesSo (first : List Node) (tiles : List TileProgram) (table : List Node) (units : List Unit) (i : ℕ) : Type 0 where
  pub nodes : (first_term_tiles first tiles).nodes ≡ (first_term_tiles table (drop i tiles)).nodes
  pub locals : (first_term_tiles first tiles).tiles ≡ map local_of units ++ (first_term_tiles table (drop i tiles)).tiles
  pub many : length units ≡ i

map_push : {A B : Type 0} (f : A → B) (xs : List A) (x : A) → map f (xs ++ x ∷ []) ≡ map f xs ++ f x ∷ []
map_push f [] x = refl
map_push f (y ∷ xs) x = ap (λ zs. f y ∷ zs) (map_push f xs x)

pub tiles_step : (first : List Node) (tiles : List TileProgram) (table later : List Node) (units : List Unit) (i : ℕ) (tile : TileProgram) (unit : Unit) → slice_get tiles i ≡ Some tile
    → (first_term_memory table tile.cells).nodes ≡ later → local_of unit ≡ first_term_tile tile (first_term_memory table tile.cells)
    → TilesSo first tiles table units i → TilesSo first tiles later (units ++ unit ∷ []) (i + 1)
tiles_step first tiles table later units i tile unit here nodes local so =
    let m : TermMemory = first_term_memory table tile.cells in
    let split : first_term_tiles table (drop i tiles) ≡ tile_before (first_term_tile tile m) (first_term_tiles later (drop (i + 1) tiles)) =
    ap (first_term_tiles table) (rest_at tiles i tile here) ∙ ap (λ ns. tile_before (first_term_tile tile m) (first_term_tiles ns (drop (i + 1) tiles))) nodes in
    let more : List Local = (first_term_tiles later (drop (i + 1) tiles)).tiles in
    record {
      nodes = so.nodes ∙ ap (λ (t : TermTiles). t.nodes) split;
      locals = so.locals
          ∙ ap (λ (t : TermTiles). map local_of units ++ t.tiles) split
          ∙ ap (λ l. map local_of units ++ l ∷ more) (sym local)
          ∙ sym (append_assoc (map local_of units) (local_of unit ∷ []) more)
          ∙ ap (λ ls. ls ++ more) (sym (map_push local_of units unit));
      many = omega (arith, length_push units unit, so.many);
    }

-- what is opened goes on only inside its program, if it has one
first_inside : {A : Type 0} (code : List A) → first_mark code ≡ Going → 0 < length code
first_inside [] e = absurd (cc e)
first_inside (ins ∷ code) e = omega arith

module _ (g : ProgramSet) (i : ℕ) (program : TileProgram) (here : slice_get g.tiles i ≡ Some program) (valid : IsSet g) where
  below_tiles : i < tile_count g.topo
  below_tiles = subst (λ n. i < n) valid.each_tile (slice_get_within g.tiles i program here)

  pub tile_unit : (unit : TileUnit) (before nodes : List Node) → IsOpenTile before nodes program unit → IsTile g i unit
  tile_unit unit before nodes opened =
      let l : TileLocal = record { regs = replicate 32 0; pc = 0; count = 0; mark = first_mark program.code; memory = (first_term_memory before program.cells).memory } in
      let same : unit.tile ≡ l = cc (opened.local) in
      let code : program.code ≡ tile_code g i = ap program_code (sym here) in
      record {
        place = below_tiles;
        code = opened.code ∙ code;
        inside = subst (λ (k : TileLocal). k.mark ≡ Going → k.pc < length (tile_code g i)) (sym same)
            (λ e. subst (λ (c : List Instruction). 0 < length c) code (first_inside program.code e));
        memory = opened.many;
      }

  switch_kind : kind_at g.topo (tile_count g.topo + i) ≡ Some proc.Switch
  switch_kind =
      let n : ℕ = tile_count g.topo in
      let p : ℕ = n + i in
      let more : Option ProcKind = option_map (λ (place : PortPlace). port_proc place.kind) (slice_get g.topo.places (p - 2 * n)) in
      ap (λ b. cond b (Some proc.Tile) (cond (nat_lt p (2 * n)) (Some proc.Switch) more)) (le-ltb p n (omega arith))
      ∙ ap (λ b. cond b (Some proc.Switch) more) (lt-ltb p (2 * n) (omega (arith, below_tiles)))

  pub switch_unit : (unit : SwitchUnit) → unit.code.items ≡ program.switch → unit.state ≡ first_switch program.switch → IsSwitch g (tile_count g.topo + i) unit
  switch_unit unit is_code is_state =
      let back : tile_count g.topo + i - tile_count g.topo ≡ i = omega arith in
      let code : program.switch ≡ switch_code g (tile_count g.topo + i) = ap program_switch (sym here ∙ ap (slice_get g.tiles) (sym back)) in
      record {
        kind = switch_kind;
        code = is_code ∙ code;
        inside = subst (λ (k : SwitchLocal). k.mark ≡ Going → k.pc < length (switch_code g (tile_count g.topo + i))) (sym is_state)
            (λ e. subst (λ (c : List SwitchInstruction). 0 < length c) code (first_inside program.switch e));
      }

-- a list of processors that grows as a list of local states is made
pub record GrowsSo {A : Type 0} (g : ProgramSet) (local : A → Local) (all : List A) (old units : List Unit) (i : ℕ) : Type 0 where
  pub locals : map local_of units ++ map local (drop i all) ≡ map local_of old ++ map local all
  pub many : length units ≡ length old + i
  pub kept : AreUnits g units

pub grows_step : {A : Type 0} (g : ProgramSet) (local : A → Local) (all : List A) (old units : List Unit) (i : ℕ) (x : A) (unit : Unit) → slice_get all i ≡ Some x
    → local_of unit ≡ local x → IsUnit g (length old + i) unit → GrowsSo g local all old units i → GrowsSo g local all old (units ++ unit ∷ []) (i + 1)
grows_step g local all old units i x unit here is is_unit so = record {
  locals = ap (λ ls. ls ++ map local (drop (i + 1) all)) (map_push local_of units unit)
      ∙ append_assoc (map local_of units) (local_of unit ∷ []) (map local (drop (i + 1) all))
      ∙ ap (λ l. map local_of units ++ l ∷ map local (drop (i + 1) all)) is
      ∙ ap (λ xs. map local_of units ++ map local xs) (sym (rest_at all i x here))
      ∙ so.locals;
  many = omega (arith, length_push units unit, so.many);
  kept = each_more (IsUnit g) units unit so.kept (subst (λ n. IsUnit g n unit) (sym so.many) is_unit);
}

-- the words of ports
abbrev pub words_in : List PortProgram → ℕ
words_in ports = sum_by (λ (port : PortProgram). length port.words) ports

words_from : (ports : List PortProgram) (a : ℕ) → fold (λ (c : ℕ) (port : PortProgram). c + length port.words) a ports ≡ a + words_in ports
words_from [] a = omega arith
words_from (port ∷ ports) a =
    let here = words_from ports (a + length port.words) in
    let there = words_from ports (0 + length port.words) in
    omega (arith, here, there)

pub words_more : (port : PortProgram) (ports : List PortProgram) → words_in (port ∷ ports) ≡ length port.words + words_in ports
words_more port ports = let e = words_from ports (0 + length port.words) in omega (arith, e)

pub words_left : (ports : List PortProgram) (i : ℕ) (port : PortProgram) → slice_get ports i ≡ Some port → words_in (drop i ports) ≡ length port.words + words_in (drop (i + 1) ports)
words_left ports i port here = ap words_in (rest_at ports i port here) ∙ words_more port (drop (i + 1) ports)

tail_of : {A : Type 0} (xs ys : List A) (y : A) (i : ℕ) → drop i xs ≡ y ∷ ys → (slice_get xs i ≡ Some y) × (drop (i + 1) xs ≡ ys)
tail_of [] ys y zero e = absurd (cc e)
tail_of [] ys y (suc i) e = absurd (cc e)
tail_of (x ∷ xs) ys y zero e = (cc e, cc e)
tail_of (x ∷ xs) ys y (suc i) e =
    let n : suc i + 1 ≡ suc (i + 1) = omega arith in
    let rest = tail_of xs ys y i e in
    (rest.0, ap (λ k. drop k (x ∷ xs)) n ∙ rest.1)

-- the words of the ports from i on have numbers from `first` on
pub record NumbersSo (g : ProgramSet) (first i : ℕ) : Type 0 where
  pub fed : drop i (numbered g).ports ≡ fed_ports (drop i g.ports) (range_with_len first (words_in (drop i g.ports)))
  pub few : first + words_in (drop i g.ports) ≡ 1 + all_words g

module _ (g : ProgramSet) (first i : ℕ) (port : PortProgram) (here : slice_get g.ports i ≡ Some port) (so : NumbersSo g first i) where
  range_both : range_with_len first (words_in (drop i g.ports)) ≡ range_with_len first (length port.words) ++ range_with_len (first + length port.words) (words_in (drop (i + 1) g.ports))
  range_both = ap (range_with_len first) (words_left g.ports i port here) ∙ range_split first (length port.words) (words_in (drop (i + 1) g.ports))

  port_fed : drop i (numbered g).ports ≡ record port { words = range_with_len first (length port.words) } ∷ fed_ports (drop (i + 1) g.ports) (range_with_len (first + length port.words) (words_in (drop (i + 1) g.ports)))
  port_fed =
      let n : ℕ = length port.words in
      let a : List ℕ = range_with_len first n in
      let b : List ℕ = range_with_len (first + n) (words_in (drop (i + 1) g.ports)) in
      let many : length a ≡ n = length-range_with_len first n in
      so.fed
      ∙ ap₂ fed_ports (rest_at g.ports i port here) range_both
      ∙ ap₂ (λ (ws : List ℕ) (vs : List ℕ). record port { words = ws } ∷ fed_ports (drop (i + 1) g.ports) vs)
      (ap (λ k. take k (a ++ b)) (sym many) ∙ take-append_seam a b)
      (ap (λ k. drop k (a ++ b)) (sym many) ∙ drop-append_seam a b)

  pub numbers_step : NumbersSo g (first + length port.words) (i + 1)
  numbers_step = record {
    fed = (tail_of (numbered g).ports _ _ i port_fed).1;
    few = omega (arith, words_left g.ports i port here, so.few);
  }

  module _ (valid : IsSet g) where
    abbrev p : ℕ
    p = 2 * tile_count g.topo + i

    port_there : port_program g p ≡ Some port
    port_there = let back : 2 * tile_count g.topo + i - 2 * tile_count g.topo ≡ i = omega arith in ap (slice_get g.ports) back ∙ here

    numbered_there : words_of (port_program (numbered g) p) ≡ range_with_len first (length port.words)
    numbered_there =
        let back : 2 * tile_count g.topo + i - 2 * tile_count g.topo ≡ i = omega arith in
        ap (λ k. words_of (slice_get (numbered g).ports k)) back ∙ ap words_of (tail_of (numbered g).ports _ _ i port_fed).0

    source_unit : (unit : SourceUnit) → kind_at g.topo p ≡ Some proc.Source → unit.first ≡ first → IsSource g p unit
    source_unit unit kind is =
        let own : words_of (port_program g p) ≡ port.words = ap words_of port_there in
        let many : length (words_of (port_program g p)) ≡ length port.words = ap length own in
        record {
          kind = kind;
          many = ap length numbered_there ∙ length-range_with_len first (length port.words) ∙ sym many;
          words = λ k below.
              ap (λ ws. slice_index ws k) numbered_there
              ∙ get_or-range_with_len first (length port.words) k 0 (omega (arith, below, many))
              ∙ ap (λ n. n + k) (sym is);
          few = omega (arith, is, many, words_left g.ports i port here, so.few, valid.totals.words);
        }

    sink_unit : (unit : Port) → kind_at g.topo p ≡ Some proc.Sink → IsFirstPort port unit → IsSink g p unit
    sink_unit unit kind opened = record {
      kind = kind;
      got = ap (λ (l : PortLocal). length l.got) opened.local ∙ sym (ap (λ (l : PortLocal). l.done) opened.local);
      room = subst (λ (o : Option PortProgram). capacity_of o ≤ unit.room) (sym port_there) opened.room;
    }

    -- what is opened for a port
    pub record IsPortUnit (unit : Unit) : Type 0 where
      pub place : PortPlace
      pub there : slice_get g.topo.places i ≡ Some place
      pub local : local_of unit ≡ first_port place.kind
      pub is_unit : IsUnit g p unit

    port_place : (kind : PortKind) (unit : Unit) → IsPortAt g.topo p kind → local_of unit ≡ first_port kind → IsUnit g p unit → IsPortUnit unit
    port_place kind unit at local is_unit =
        let back : 2 * tile_count g.topo + i - 2 * tile_count g.topo ≡ i = omega arith in
        record {
          place = at.place;
          there = ap (slice_get g.topo.places) (sym back) ∙ at.here;
          local = local ∙ ap first_port (sym at.is_kind);
          is_unit = is_unit;
        }

    pub port_unit : (kind : ProcKind) (unit : Unit) → kind_at g.topo p ≡ Some kind → IsOpenPort kind port first unit → IsPortUnit unit
    port_unit proc.Source (a.Source unit) is opened =
        port_place kind.Source (a.Source unit) (placed g.topo p proc.Source is) (ap Source opened.1.local) (source_unit unit is opened.0)
    port_unit proc.Source (a.Tile unit) is opened = absurd opened
    port_unit proc.Source (a.Switch unit) is opened = absurd opened
    port_unit proc.Source (a.Sink unit) is opened = absurd opened
    port_unit proc.Sink (a.Sink unit) is opened = port_place kind.Sink (a.Sink unit) (placed g.topo p proc.Sink is) (ap Sink opened.local) (sink_unit unit is opened)
    port_unit proc.Sink (a.Tile unit) is opened = absurd opened
    port_unit proc.Sink (a.Switch unit) is opened = absurd opened
    port_unit proc.Sink (a.Source unit) is opened = absurd opened
    port_unit proc.Tile unit is opened = let h : p < tile_count g.topo = placed g.topo p proc.Tile is in absurd (omega (arith, h))
    port_unit proc.Switch unit is opened = let h : p < 2 * tile_count g.topo = (placed g.topo p proc.Switch is).1 in absurd (omega (arith, h))
