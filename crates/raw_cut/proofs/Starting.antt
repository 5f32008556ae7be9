-- The start of a set whose sources have no words is the cut that sees no row.
use Rattle.std.proofs.Common.{◌≡◌, ℕ, List, [], ◌∷◌, ◌++◌, length, map, refl, ap, ap₂, ◌∙◌, arith}
use Rattle.std.specs.Prelude.{sum_by}
use Rattle.std.proofs.lemmas.List.{map-append}
use Rattle.std.proofs.lemmas.List.Sums.{sum_by-cons}
use Rattle.std.specs.List.{range_with_len}
use Rattle.raw_grid.specs.declared.parts.PortKind.{PortKind}
use Rattle.raw_grid.specs.declared.parts.PortKind.TheVariants as kind
use Rattle.raw_grid.specs.declared.parts.PortPlace.{PortPlace}
use Rattle.raw_grid.specs.Topology.{Topology}
use Rattle.raw_model.specs.Program.{ProgramSet, TileProgram, PortProgram}
use Rattle.raw_model.specs.Local.{Local, Switch}
use Rattle.raw_model.specs.Start.{first_switch, first_port}
use Rattle.raw_model.specs.Bounds.{all_words}
use Rattle.raw_flow.specs.declared.node.Node.{Node}
use Rattle.raw_stream.specs.Streams.{Stream}
use Rattle.raw_term.specs.TermMachine.{first_nodes, first_term_memory, first_term_tiles, started, term_start}
use Rattle.raw_rows.specs.Kernels.{start_cut}
use Rattle.raw_cut.specs.Parts.{port_with, ports_with, with_ports, uncounted, standing}

module _ (topo : Topology) (s : Stream) where
  no_words : (qs : List ℕ) → sum_by (λ (port : PortProgram). length port.words) (map (port_with topo s [] 0) qs) ≡ 0
  no_words [] = refl
  no_words (q ∷ qs) =
      let port : PortProgram = port_with topo s [] 0 q in
      let more = sum_by-cons (λ (port : PortProgram). length port.words) port (map (port_with topo s [] 0) qs) in
      omega (arith, more, no_words qs)

tiles_same : (nodes : List Node) (tiles : List TileProgram) → map uncounted (first_term_tiles nodes tiles).tiles ≡ (first_term_tiles nodes tiles).tiles
tiles_same nodes [] = refl
tiles_same nodes (tile ∷ tiles) = ap (λ ls. (first_term_tiles nodes (tile ∷ [])).tiles ++ ls) (tiles_same (first_term_memory nodes tile.cells).nodes tiles)

switches_same : (tiles : List TileProgram) → map uncounted (map (λ (tile : TileProgram). Switch (first_switch tile.switch)) tiles) ≡ map (λ (tile : TileProgram). Switch (first_switch tile.switch)) tiles
switches_same [] = refl
switches_same (tile ∷ tiles) = ap (λ ls. Switch (first_switch tile.switch) ∷ ls) (switches_same tiles)

port_same : (k : PortKind) → uncounted (first_port k) ≡ first_port k
port_same kind.Source = refl
port_same kind.Sink = refl

ports_same : (places : List PortPlace) → map uncounted (map (λ (place : PortPlace). first_port place.kind) places) ≡ map (λ (place : PortPlace). first_port place.kind) places
ports_same [] = refl
ports_same (place ∷ places) = ap₂ (λ (l : Local) (ls : List Local). l ∷ ls) (port_same place.kind) (ports_same places)

pub start_is : (set_ : ProgramSet) (s : Stream) (limit : ℕ) → standing 0 (term_start (with_ports set_ limit (ports_with set_.topo s (length set_.ports) [] 0))) ≡ start_cut set_
unfolding term_start
start_is set_ s limit =
    let g : ProgramSet = with_ports set_ limit (ports_with set_.topo s (length set_.ports) [] 0) in
    let none : all_words g ≡ 0 = no_words set_.topo s (range_with_len 0 (length set_.ports)) in
    let tiles : List Local = (first_term_tiles (first_nodes 0) set_.tiles).tiles in
    let switches : List Local = map (λ (tile : TileProgram). Switch (first_switch tile.switch)) set_.tiles in
    let ports : List Local = map (λ (place : PortPlace). first_port place.kind) set_.topo.places in
    let locals : map uncounted (tiles ++ (switches ++ ports)) ≡ tiles ++ (switches ++ ports) =
    map-append uncounted tiles (switches ++ ports)
    ∙ ap₂ (λ (a b : List Local). a ++ b) (tiles_same (first_nodes 0) set_.tiles)
    (map-append uncounted switches ports ∙ ap₂ (λ (a b : List Local). a ++ b) (switches_same set_.tiles) (ports_same set_.topo.places)) in
    ap (λ n. standing 0 (started g (first_term_tiles (first_nodes n) set_.tiles))) none
    ∙ (λ i. record { window = 0; at = record { nodes = (first_term_tiles (first_nodes 0) set_.tiles).nodes; state = record { locals = locals i; wires = (start_cut set_).at.state.wires } } })
