-- The programs of scripts of lawful parts are lawful.
use Rattle.std.proofs.Common.{◌≡◌, ℕ, suc, ◌+◌, ◌^◌, ◌<◌, Bool, true, false, cond, List, [], ◌∷◌, ◌++◌, length, map, Some, refl, sym, ◌∙◌, subst, arith, sum_by}
use Rattle.std.specs.Prelude.{slice_get, ◌==◌}
use Rattle.std.specs.List.{All, AllByRecursion, range_with_len}
use Rattle.std.proofs.lemmas.Bool.{eqb-true}
use Rattle.std.proofs.lemmas.List.Elements.{All-nil, All-cons, All-append, All-from_recursion}
use Rattle.std.proofs.lemmas.List.FromFn.{length-map-range_with_len, get_or-map-range_with_len}
use Rattle.std.proofs.lemmas.List.Sums.{sum_by-cons}
use Rattle.std.proofs.lemmas.Option.{slice_get_within, get_or_from_slice_get}
use Rattle.raw_tile_isa.specs.Instruction.{Instruction, IsTileIns}
use Rattle.raw_tile_isa.specs.Load.{load, WritesAlone, EachLoads}
use Rattle.raw_tile_isa.specs.Made as tile
use Rattle.raw_switch_isa.specs.Ends.{ends}
use Rattle.raw_switch_isa.specs.Instruction.{SwitchInstruction, IsSwitchIns}
use Rattle.raw_switch_isa.specs.Made as switch
use Rattle.raw_grid.specs.declared.parts.Net.{Net}
use Rattle.raw_grid.specs.declared.parts.Net.TheVariants.{One, Two}
use Rattle.raw_grid.specs.Topology.{Topology, tile_count, switch_number}
use Rattle.raw_model.specs.Program.{TileProgram, IsDataWord, IsTileProgram, HaveWires, has_wires}
use Rattle.raw_codegen.specs.Parts.{Part, ToTile, ToSwitch, tile_part, switch_part, to_tile, script_program, script_programs}
use Rattle.raw_codegen.specs.Lawful.{AreParts}
use Rattle.raw_codegen.specs.Limits.{IsShort, AreShort}
use Rattle.raw_codegen.specs.Rows.{register_of, send_ins, load_ins, store_ins}

pub parts_append : (topo : Topology) (xs ys : List Part) → AreParts topo xs → AreParts topo ys → AreParts topo (xs ++ ys)
parts_append topo [] ys h g = g
parts_append topo (x ∷ xs) ys h g = (h.0, parts_append topo xs ys h.1 g)

pub block_parts : (topo : Topology) (t : ℕ) (code : List Instruction) → AllByRecursion IsTileIns code → AreParts topo (to_tile t code)
block_parts topo t [] h = tt
block_parts topo t (ins ∷ code) h = (h.0, block_parts topo t code h.1)

tile_more : (b : Bool) (ins : Instruction) (rest : List Instruction) → IsTileIns ins → All IsTileIns rest → All IsTileIns (cond b (ins ∷ []) [] ++ rest)
tile_more true ins rest h g = All-cons IsTileIns ins rest h g
tile_more false ins rest h g = g

tile_lawful : (topo : Topology) (u : ℕ) (parts : List Part) → AreParts topo parts → All IsTileIns (tile_part u parts)
tile_lawful topo u [] h = All-nil IsTileIns
tile_lawful topo u (ToTile v ins ∷ parts) h = tile_more (v == u) ins (tile_part u parts) h.0 (tile_lawful topo u parts h.1)
tile_lawful topo u (ToSwitch v ins ∷ parts) h = tile_lawful topo u parts h.1

switch_more : (P : SwitchInstruction → Type 0) (b : Bool) (ins : SwitchInstruction) (rest : List SwitchInstruction) → (b ≡ true → P ins) → All P rest → All P (cond b (ins ∷ []) [] ++ rest)
switch_more P true ins rest h g = All-cons P ins rest (h refl) g
switch_more P false ins rest h g = g

switch_lawful : (topo : Topology) (u : ℕ) (parts : List Part) → AreParts topo parts → All IsSwitchIns (switch_part u parts)
switch_lawful topo u [] h = All-nil IsSwitchIns
switch_lawful topo u (ToTile v ins ∷ parts) h = switch_lawful topo u parts h.1
switch_lawful topo u (ToSwitch v ins ∷ parts) h = switch_more IsSwitchIns (v == u) ins (switch_part u parts) (λ e. h.0.0) (switch_lawful topo u parts h.1)

abbrev Wired : Topology → ℕ → SwitchInstruction → Type 0
Wired topo u ins = has_wires topo (switch_number topo u) ins ≡ true

switch_wired : (topo : Topology) (u : ℕ) (parts : List Part) → AreParts topo parts → All (Wired topo u) (switch_part u parts)
switch_wired topo u [] h = All-nil (Wired topo u)
switch_wired topo u (ToTile v ins ∷ parts) h = switch_wired topo u parts h.1
switch_wired topo u (ToSwitch v ins ∷ parts) h =
    switch_more (Wired topo u) (v == u) ins (switch_part u parts) (λ e. subst (λ k. Wired topo k ins) (eqb-true v u e) h.0.1) (switch_wired topo u parts h.1)

halt_lawful : IsTileIns tile.halt
halt_lawful = record { rs = refl; rt = refl; rd = refl; sh = refl; imm = refl; target = refl }

abbrev Few : ℕ → Type 0
Few code = code < 7

none_few : Few 0
none_few = omega arith

switch_halt_lawful : IsSwitchIns switch.halt
switch_halt_lawful = record {
  rd = refl;
  src = refl;
  target = refl;
  rsel = refl;
  ten = refl;
  codes = All-from_recursion Few switch.halt.routes (none_few, (none_few, (none_few, (none_few, (none_few, (none_few, (none_few, (none_few, (none_few, (none_few, tt))))))))));
}

halt_wired : (topo : Topology) (p : ℕ) → has_wires topo p switch.halt ≡ true
unfolding ends
halt_wired topo p = refl

program_lawful : (topo : Topology) (parts : List Part) (t : ℕ) → AreParts topo parts → IsShort (script_program parts t) → IsTileProgram (script_program parts t)
program_lawful topo parts t h short = record {
  instructions = All-append IsTileIns (tile_part t parts) (tile.halt ∷ []) (tile_lawful topo t parts h) (All-cons IsTileIns tile.halt [] halt_lawful (All-nil IsTileIns));
  few = short.code;
  switch_instructions = All-append IsSwitchIns (switch_part t parts) (switch.halt ∷ []) (switch_lawful topo t parts h) (All-cons IsSwitchIns switch.halt [] switch_halt_lawful (All-nil IsSwitchIns));
  few_switch = short.switch;
  cells = All-nil IsDataWord;
  rising = λ i j d l m. absurd (omega arith);
  misses = All-nil (λ turns. turns < 256);
}

-- the program at a place
pub program_there : (n : ℕ) (parts : List Part) (t : ℕ) (tile : TileProgram) → slice_get (script_programs n parts) t ≡ Some tile → (t < n) × (script_program parts t ≡ tile)
program_there n parts t tile e =
    let inside : t < n = subst (λ (m : ℕ). t < m) (length-map-range_with_len (script_program parts) 0 n) (slice_get_within (script_programs n parts) t tile e) in
    let first : 0 + t ≡ t = omega arith in
    (inside, sym (get_or-map-range_with_len (script_program parts) 0 n t t tile inside first) ∙ get_or_from_slice_get (script_programs n parts) t tile tile e)

pub programs_lawful : (topo : Topology) (n : ℕ) (parts : List Part) → AreParts topo parts → AreShort (script_programs n parts) → All IsTileProgram (script_programs n parts)
programs_lawful topo n parts h short k d l =
    let inside : k < n = subst (λ (m : ℕ). k < m) (length-map-range_with_len (script_program parts) 0 n) l in
    let first : 0 + k ≡ k = omega arith in
    let at = get_or-map-range_with_len (script_program parts) 0 n k k d inside first in
    subst IsTileProgram (sym at) (program_lawful topo parts k h (subst IsShort at (short.each k d l)))

pub programs_wired : (topo : Topology) (n : ℕ) (parts : List Part) → AreParts topo parts → HaveWires topo (script_programs n parts)
programs_wired topo n parts h t tile e =
    subst (λ (x : TileProgram). All (λ ins. has_wires topo (tile_count topo + t) ins ≡ true) x.switch) (program_there n parts t tile e).1
    (All-append (Wired topo t) (switch_part t parts) (switch.halt ∷ []) (switch_wired topo t parts h)
    (All-cons (Wired topo t) switch.halt [] (halt_wired topo (switch_number topo t)) (All-nil (Wired topo t))))

cells_none : (parts : List Part) (ks : List ℕ) → sum_by (λ (tile : TileProgram). length tile.cells) (map (script_program parts) ks) ≡ 0
cells_none parts [] = refl
cells_none parts (k ∷ ks) = let a = sum_by-cons (λ (tile : TileProgram). length tile.cells) (script_program parts k) (map (script_program parts) ks) in let b = cells_none parts ks in omega arith

misses_none : (parts : List Part) (ks : List ℕ) → sum_by (λ (tile : TileProgram). length tile.misses) (map (script_program parts) ks) ≡ 0
misses_none parts [] = refl
misses_none parts (k ∷ ks) = let a = sum_by-cons (λ (tile : TileProgram). length tile.misses) (script_program parts k) (map (script_program parts) ks) in let b = misses_none parts ks in omega arith

pub no_cells : (n : ℕ) (parts : List Part) → sum_by (λ (tile : TileProgram). length tile.cells) (script_programs n parts) ≡ 0
no_cells n parts = cells_none parts (range_with_len 0 n)

pub no_misses : (n : ℕ) (parts : List Part) → sum_by (λ (tile : TileProgram). length tile.misses) (script_programs n parts) ≡ 0
no_misses n parts = misses_none parts (range_with_len 0 n)

-- the instructions of scripts
rules_of : (r : ℕ) (code : List Instruction) → All (WritesAlone r) code → AllByRecursion IsTileIns code
rules_of r [] h = tt
rules_of r (ins ∷ code) h = ((h 0 ins (omega arith)).rules, rules_of r code (λ k d l. h (suc k) d (omega arith)))

pub load_rules : EachLoads → (r w : ℕ) → r < 32 → w < 2 ^ 32 → AllByRecursion IsTileIns (load r w)
load_rules loads r w h small = rules_of r (load r w) (loads r w h small).each

register_below : (net : Net) → register_of net < 32
register_below One = omega arith
register_below Two = omega arith

pub send_rules : (net : Net) (r : ℕ) → r < 32 → IsTileIns (send_ins net r)
send_rules net r h = record { rs = h; rt = omega arith; rd = register_below net; sh = refl; imm = refl; target = refl }

pub load_ins_rules : (r v : ℕ) → r < 32 → v < 2 ^ 14 → IsTileIns (load_ins r v)
load_ins_rules r v h k = record { rs = omega arith; rt = h; rd = refl; sh = refl; imm = omega arith; target = refl }

pub store_ins_rules : (r v : ℕ) → r < 32 → v < 2 ^ 14 → IsTileIns (store_ins r v)
store_ins_rules r v h k = record { rs = omega arith; rt = h; rd = refl; sh = refl; imm = omega arith; target = refl }
