-- A script at its start.
use Rattle.std.proofs.Common.{◌≡◌, ℕ, zero, suc, ◌+◌, ◌-◌, ◌*◌, ◌<◌, List, [], ◌∷◌, ◌++◌, length, map, replicate, Some, refl, ap, ◌∙◌, arith}
use Rattle.std.specs.Prelude.{slice_get, option_map}
use Rattle.std.proofs.lemmas.List.{length-map}
use Rattle.std.proofs.lemmas.Option.{slice_get-map}
use Rattle.raw_network.specs.Network.{values_on}
use Rattle.raw_tile_isa.specs.Made as tile
use Rattle.raw_switch_isa.specs.Made as switch
use Rattle.raw_grid.specs.declared.parts.PortPlace.{PortPlace}
use Rattle.raw_grid.specs.Topology.{tile_count}
use Rattle.raw_grid.specs.Wires.{wires_of}
use Rattle.raw_model.specs.declared.marks.Mark.TheVariants.{Going}
use Rattle.raw_model.specs.Program.{ProgramSet, TileProgram}
use Rattle.raw_model.specs.Local.{Local, Tile, Switch}
use Rattle.raw_model.specs.Start.{start, first_tile, first_switch, first_port, first_mark, first_memory}
use Rattle.raw_codegen.specs.Parts.{Part, tile_part, switch_part, script_program}
use Rattle.raw_codegen.specs.Standing.{IsScript, PartsStand}
use Rattle.raw_codegen.specs.Straight.{at_tile, at_switch, core_with}
use Rattle.raw_codegen.proofs.Given.{Laws}
use Rattle.raw_codegen.proofs.Scripts.{tile_there, tiles_there}

at_front : {X : Type 0} (xs ys : List X) (i : ℕ) (x : X) → slice_get xs i ≡ Some x → slice_get (xs ++ ys) i ≡ Some x
at_front [] ys i x e = cc e
at_front (z ∷ xs) ys zero x e = e
at_front (z ∷ xs) ys (suc i) x e = at_front xs ys i x e

at_back : {X : Type 0} (xs ys : List X) (i n : ℕ) → length xs ≡ n → slice_get (xs ++ ys) (n + i) ≡ slice_get ys i
at_back [] ys i n e = let none : n + i ≡ i = omega arith in ap (slice_get ys) none
at_back (x ∷ xs) ys i n e =
    let less : length xs ≡ n - 1 = omega arith in
    let more : n + i ≡ suc (n - 1 + i) = omega arith in
    ap (slice_get (x ∷ xs ++ ys)) more ∙ at_back xs ys i (n - 1) less

going_first : {A : Type 0} (xs : List A) (x : A) → first_mark (xs ++ x ∷ []) ≡ Going
going_first [] x = refl
going_first (y ∷ xs) x = refl

empty_wires : (n w : ℕ) → values_on (replicate n []) w ≡ []
empty_wires zero w = refl
empty_wires (suc n) zero = refl
empty_wires (suc n) (suc w) = empty_wires n w

pub first_idle : (set : ProgramSet) (w : ℕ) → values_on (start set).wires w ≡ []
unfolding start
first_idle set w = empty_wires (length (wires_of set.topo)) w

module _ (set : ProgramSet) (all : List Part) (script : IsScript set all) where
  abbrev tile_locals : List Local
  tile_locals = map (λ (tile : TileProgram). Tile (first_tile tile)) set.tiles

  abbrev switch_locals : List Local
  switch_locals = map (λ (tile : TileProgram). Switch (first_switch tile.switch)) set.tiles

  abbrev port_locals : List Local
  port_locals = map (λ (place : PortPlace). first_port place.kind) set.topo.places

  locals_are : (start set).locals ≡ tile_locals ++ (switch_locals ++ port_locals)
  unfolding start
  locals_are = refl

  first_at : (t : ℕ) → t < tile_count set.topo → slice_get (start set).locals t ≡ Some (Tile (at_tile 0 (core_with (replicate 32 0) (first_memory []))))
  first_at t h =
      ap (λ xs. slice_get xs t) locals_are
      ∙ at_front tile_locals (switch_locals ++ port_locals) t (Tile (first_tile (script_program all t)))
      (slice_get-map (λ (tile : TileProgram). Tile (first_tile tile)) set.tiles t ∙ ap (option_map (λ (tile : TileProgram). Tile (first_tile tile))) (tile_there set all script t h))
      ∙ ap (λ mark. Some (Tile (record { regs = replicate 32 0; pc = 0; count = 0; mark = mark; memory = first_memory [] }))) (going_first (tile_part t all) tile.halt)

  long : length tile_locals ≡ tile_count set.topo
  long = length-map set.tiles (λ (tile : TileProgram). Tile (first_tile tile)) ∙ tiles_there set all script

  first_switch_at : (t : ℕ) → t < tile_count set.topo → slice_get (start set).locals (tile_count set.topo + t) ≡ Some (Switch (at_switch 0 (replicate 4 0)))
  first_switch_at t h =
      ap (λ xs. slice_get xs (tile_count set.topo + t)) locals_are
      ∙ at_back tile_locals (switch_locals ++ port_locals) t (tile_count set.topo) long
      ∙ at_front switch_locals port_locals t (Switch (first_switch (script_program all t).switch))
      (slice_get-map (λ (tile : TileProgram). Switch (first_switch tile.switch)) set.tiles t ∙ ap (option_map (λ (tile : TileProgram). Switch (first_switch tile.switch))) (tile_there set all script t h))
      ∙ ap (λ mark. Some (Switch (record { regs = replicate 4 0; pc = 0; count = 0; mark = mark }))) (going_first (switch_part t all) switch.halt)

  long_switches : length switch_locals ≡ tile_count set.topo
  long_switches = length-map set.tiles (λ (tile : TileProgram). Switch (first_switch tile.switch)) ∙ tiles_there set all script

  pub first_ports : (k : ℕ) → slice_get (start set).locals (2 * tile_count set.topo + k) ≡ slice_get port_locals k
  first_ports k =
      let place : 2 * tile_count set.topo + k ≡ tile_count set.topo + (tile_count set.topo + k) = omega arith in
      ap (λ xs. slice_get xs (2 * tile_count set.topo + k)) locals_are
      ∙ ap (slice_get (tile_locals ++ (switch_locals ++ port_locals))) place
      ∙ at_back tile_locals (switch_locals ++ port_locals) (tile_count set.topo + k) (tile_count set.topo) long
      ∙ at_back switch_locals port_locals k (tile_count set.topo) long_switches

  -- at the start nothing is done
  pub first_stands : Laws → PartsStand set [] (λ t. first_memory []) (start set)
  first_stands laws = record {
    tiles = λ t h. (replicate 32 0, first_at t h);
    switches = λ t h. (replicate 4 0, first_switch_at t h);
    fits = laws.start_fits set script.valid;
  }
