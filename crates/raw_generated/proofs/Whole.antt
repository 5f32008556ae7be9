-- The generated set keeps all that sets keep.
use Rattle.std.proofs.Common.{◌≡◌, ℕ, zero, suc, true, ◌+◌, ◌*◌, ◌^◌, ◌<◌, ◌≤◌, List, [], ◌∷◌, ◌++◌, length, map, refl, sym, ap, ◌∙◌, subst, arith, sum_by}
use Rattle.std.specs.List.{All, range_with_len}
use Rattle.std.proofs.lemmas.Option.{same_Some, slice_get_within, get_or_from_slice_get}
use Rattle.std.proofs.lemmas.List.Elements.{All-nil, All-cons}
use Rattle.std.proofs.lemmas.List.Sums.{sum_by-cons}
use Rattle.std.proofs.lemmas.List.FromFn.{length-map-range_with_len, get_or-map-range_with_len, map-range_with_len_more}
use Rattle.raw_generated.specs.declared.limits.TheConstants.{MAX_GENERATED_WORDS}
use Rattle.raw_model.specs.declared.limits.TheConstants.{DEFAULT_DEPTH}
use Rattle.raw_grid.specs.declared.parts.PortPlace.{PortPlace}
use Rattle.raw_grid.specs.Topology.{Topology}
use Rattle.raw_model.specs.declared.program.Show.{Show}
use Rattle.raw_model.specs.Program.{ProgramSet, TileProgram, PortProgram, IsDataWord, IsTileProgram, IsPortProgram, IsShow, AreOfKinds, HaveWires, AreWithinTotals, IsSet, has_wires, IsOfKind}
use Rattle.raw_generated.specs.Generated.{source_place, sink_place, grid, words_from, port_programs, tile_program, tile_programs, generated}
use Rattle.raw_generated.proofs.Grid.{grid_lawful}
use Rattle.raw_generated.proofs.Numbers.{words_count, words_fit}
use Rattle.raw_generated.proofs.Passing.{switch_lawful, switch_few, switch_wired}
use Rattle.raw_generated.proofs.Adding.{code_lawful, code_few}

abbrev Fits32 : ℕ → Type 0
Fits32 word = word < 2 ^ 32

tile_lawful : (n t : ℕ) → n ≤ MAX_GENERATED_WORDS → t < 16 → IsTileProgram (tile_program n t)
tile_lawful n t h k = record {
  instructions = code_lawful n t h k;
  few = omega (arith, code_few n t);
  switch_instructions = switch_lawful t;
  few_switch = omega (arith, switch_few t);
  cells = All-nil IsDataWord;
  rising = λ i j d l m. absurd (omega arith);
  misses = All-nil (λ turns. turns < 256);
}

tiles_lawful : (n : ℕ) → n ≤ MAX_GENERATED_WORDS → All IsTileProgram (tile_programs n)
tiles_lawful n h k d l =
    let inside : k < 16 = subst (λ (m : ℕ). k < m) (length-map-range_with_len (tile_program n) 0 16) l in
    let first : 0 + k ≡ k = omega arith in
    subst IsTileProgram (sym (get_or-map-range_with_len (tile_program n) 0 16 k k d inside first)) (tile_lawful n k h inside)

have_wires : (n : ℕ) → HaveWires grid (tile_programs n)
have_wires n t tile e =
    let inside : t < 16 = subst (λ (m : ℕ). t < m) (length-map-range_with_len (tile_program n) 0 16) (slice_get_within (tile_programs n) t tile e) in
    let first : 0 + t ≡ t = omega arith in
    let same : tile_program n t ≡ tile = sym (get_or-map-range_with_len (tile_program n) 0 16 t t tile inside first) ∙ get_or_from_slice_get (tile_programs n) t tile tile e in
    subst (λ (x : TileProgram). All (λ ins. has_wires grid (16 + t) ins ≡ true) x.switch) same (switch_wired t inside)

ports_lawful : (n : ℕ) → n ≤ MAX_GENERATED_WORDS → All IsPortProgram (port_programs n)
ports_lawful n h =
    let source : PortProgram = record { words = words_from n n; capacity = 0 } in
    let sink : PortProgram = record { words = []; capacity = n } in
    All-cons IsPortProgram source (sink ∷ []) (record { words = words_fit n n (omega arith); capacity = omega arith })
    (All-cons IsPortProgram sink [] (record { words = All-nil Fits32; capacity = omega arith }) (All-nil IsPortProgram))

port_kinds : (n : ℕ) → AreOfKinds grid.places (port_programs n)
port_kinds n zero place port e f =
    let source : PortProgram = record { words = words_from n n; capacity = 0 } in
    subst (λ (x : PortPlace). IsOfKind x.kind port) (same_Some source_place place e) (subst (λ (y : PortProgram). IsOfKind source_place.kind y) (same_Some source port f) refl)
port_kinds n (suc zero) place port e f =
    let sink : PortProgram = record { words = []; capacity = n } in
    subst (λ (x : PortPlace). IsOfKind x.kind port) (same_Some sink_place place e) (subst (λ (y : PortProgram). IsOfKind sink_place.kind y) (same_Some sink port f) refl)
port_kinds n (suc (suc i)) place port e f = absurd (omega (arith, slice_get_within grid.places (suc (suc i)) place e))

-- a sum in which no term is over 7
sum_few : {X : Type 0} (f : X → ℕ) (g : ℕ → X) → ((k : ℕ) → f (g k) ≤ 7) → (ks : List ℕ) → sum_by f (map g ks) ≤ 7 * length ks
sum_few f g h [] = omega arith
sum_few f g h (k ∷ ks) = omega (arith, sum_by-cons f (g k) (map g ks), h k, sum_few f g h ks)

tile_sum : (n : ℕ) (f : TileProgram → ℕ) → ((t : ℕ) → f (tile_program n t) ≤ 7) → sum_by f (tile_programs n) ≤ 112
tile_sum n f h = sum_few f (tile_program n) h (range_with_len 0 16)

totals : (n : ℕ) → n ≤ MAX_GENERATED_WORDS → AreWithinTotals (generated n)
unfolding generated
totals n h = record {
  instructions = omega (arith, tile_sum n (λ (tile : TileProgram). length tile.code) (λ t. code_few n t));
  switch_instructions = omega (arith, tile_sum n (λ (tile : TileProgram). length tile.switch) (λ t. switch_few t));
  cells = omega (arith, tile_sum n (λ (tile : TileProgram). length tile.cells) (λ t. omega arith));
  misses = omega (arith, tile_sum n (λ (tile : TileProgram). length tile.misses) (λ t. omega arith));
  words = omega (arith, words_count n n);
  capacities = omega arith;
  shows = omega arith;
  shown = omega arith;
}

pub generated_is_set : (n : ℕ) → 1 ≤ n → n ≤ MAX_GENERATED_WORDS → IsSet (generated n)
unfolding generated
generated_is_set n some few = record {
  topology = grid_lawful;
  some_steps = omega arith;
  few_steps = omega arith;
  some_depth = omega arith;
  small_depth = omega arith;
  each_port = refl;
  each_tile = length-map-range_with_len (tile_program n) 0 16;
  port_programs = ports_lawful n few;
  port_kinds = port_kinds n;
  tile_programs = tiles_lawful n few;
  wires = have_wires n;
  shows = All-nil (IsShow grid);
  totals = totals n few;
}

-- one tile more
pub tiles_more : (n t : ℕ) (done added : List TileProgram) (x : TileProgram) → added ≡ done ++ x ∷ [] → x ≡ tile_program n t → done ≡ map (tile_program n) (range_with_len 0 t) → added ≡ map (tile_program n) (range_with_len 0 (t + 1))
tiles_more n t done added x pushed is before =
    let first : 0 + t ≡ t = omega arith in
    pushed ∙ ap (λ (ys : List TileProgram). ys ++ x ∷ []) before ∙ ap (λ (y : TileProgram). map (tile_program n) (range_with_len 0 t) ++ y ∷ []) is ∙ sym (map-range_with_len_more (tile_program n) 0 t t first)

abbrev pub parts : ℕ → Topology → List PortProgram → List TileProgram → List Show → ProgramSet
parts n topo ports tiles entries = record { topo = topo; limit = 3 * n + 10; depth = DEFAULT_DEPTH; ports = ports; tiles = tiles; shows = entries }

-- the parts that the code makes
pub parts_are : (n : ℕ) (topo : Topology) (ports : List PortProgram) (tiles : List TileProgram) (entries : List Show) → topo ≡ grid → ports ≡ port_programs n → tiles ≡ tile_programs n → entries ≡ []
    → parts n topo ports tiles entries ≡ generated n
unfolding generated
parts_are n topo ports tiles entries a b c d =
    ap (λ (x : Topology). parts n x ports tiles entries) a
    ∙ ap (λ (x : List PortProgram). parts n grid x tiles entries) b
    ∙ ap (λ (x : List TileProgram). parts n grid (port_programs n) x entries) c
    ∙ ap (λ (x : List Show). parts n grid (port_programs n) (tile_programs n) x) d
