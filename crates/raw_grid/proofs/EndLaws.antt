-- Which ends have a wire.
use Rattle.std.proofs.Common.{◌≡◌, ℕ, ◌+◌, ◌-◌, ◌*◌, ◌/◌, ◌%◌, ◌<◌, ◌++◌, length, get_or, Some, refl, ◌∙◌, ap, subst, arith}
use Rattle.std.specs.Prelude.{Contains, option_map, slice_get}
use Rattle.std.proofs.lemmas.List.{length-append, get_or_append_left, get_or-append_right, get_or_default}
use Rattle.std.proofs.lemmas.List.Elements.{Contains-append_left, Contains-append_right}
use Rattle.std.proofs.lemmas.Nat.{div-mul-add, mod-mul-add}
use Rattle.std.proofs.lemmas.Option.{slice_get_within, get_or_from_slice_get}
use Rattle.raw_grid.specs.declared.parts.Net.{Net}
use Rattle.raw_grid.specs.declared.parts.Net.TheVariants.{One, Two}
use Rattle.raw_grid.specs.declared.parts.Side.{Side}
use Rattle.raw_grid.specs.declared.parts.Side.TheVariants.{N, E, S, W}
use Rattle.raw_grid.specs.declared.parts.Dir.TheVariants.{P}
use Rattle.raw_grid.specs.declared.parts.PortKind.TheVariants.{Source, Sink}
use Rattle.raw_grid.specs.declared.parts.PortPlace.{PortPlace}
use Rattle.raw_grid.specs.Ends.{end_index, side_dir, opposite}
use Rattle.raw_grid.specs.Topology.{Topology, tile_count, tile_number, switch_number, neighbour, IsTopology}
use Rattle.raw_grid.specs.Wires.{Wire, tile_wires, all_tile_wires, all_sides, link, links_from, links_of, port_wire_of, port_wire, port_wires, wires_of, no_wire, Joins}
use Rattle.raw_grid.proofs.Apart.{port_wire_at, tile_below}
use Rattle.raw_grid.proofs.Edges.{no_place}
use Rattle.raw_grid.proofs.Growth.{port_count}
use Rattle.raw_grid.proofs.Lists.{Contains-filter_map, Contains-flat_map, get_or-flat_map_four}
use Rattle.raw_grid.proofs.WireLaws.{the_wire, input_at, output_at}

-- a wire by its place in the list joins its ends
at_place : (t : Topology) (w : ℕ) (a : Wire) → IsTopology t → w < length (wires_of t) → get_or (wires_of t) w no_wire ≡ a → Joins t w a.from a.output a.to a.input
unfolding the_wire
at_place t w a h l e =
    subst (λ (x : Wire). Joins t w x.from x.output x.to x.input) e (output_at t w h l, input_at t w h l)

-- a wire of the list joins its ends
from_list : (t : Topology) (a : Wire) → IsTopology t → Contains (wires_of t) a → (w : ℕ) × Joins t w a.from a.output a.to a.input
from_list t a h c = (c.0, at_place t c.0 a h c.1 (get_or_default (wires_of t) c.0 no_wire a c.1 ∙ c.2))

-- the j-th wire of a tile is number 4 * tile + j
tile_place : (t : Topology) (tile j : ℕ) → tile < tile_count t → j < 4 → (4 * tile + j < length (wires_of t)) × (get_or (wires_of t) (4 * tile + j) no_wire ≡ get_or (tile_wires t tile) j no_wire)
unfolding wires_of
tile_place t tile j l m =
    let rest = links_of t One ++ (links_of t Two ++ port_wires t) in
    let at = get_or-flat_map_four (tile_wires t) (λ k. refl) (tile_count t) tile j no_wire l m in
    (omega (arith, at.0, length-append (all_tile_wires t) rest), get_or_append_left (all_tile_wires t) rest no_wire (4 * tile + j) at.0 ∙ at.1)

module _ (t : Topology) (tile : ℕ) (h : IsTopology t) (l : tile < tile_count t) where
  tile_wire : (j : ℕ) (a : Wire) → j < 4 → get_or (tile_wires t tile) j no_wire ≡ a → Joins t (4 * tile + j) a.from a.output a.to a.input
  tile_wire j a m e = let place = tile_place t tile j l m in at_place t (4 * tile + j) a h place.0 (place.1 ∙ e)

  pub to_tile_one : Joins t (4 * tile) (switch_number t tile) (end_index One P) tile (end_index One P)
  to_tile_one = subst (λ w. Joins t w (switch_number t tile) (end_index One P) tile (end_index One P)) (omega arith) (tile_wire 0 _ (omega arith) refl)

  pub to_tile_two : Joins t (4 * tile + 1) (switch_number t tile) (end_index Two P) tile (end_index Two P)
  to_tile_two = tile_wire 1 _ (omega arith) refl

  pub from_tile_one : Joins t (4 * tile + 2) tile (end_index One P) (switch_number t tile) (end_index One P)
  from_tile_one = tile_wire 2 _ (omega arith) refl

  pub from_tile_two : Joins t (4 * tile + 3) tile (end_index Two P) (switch_number t tile) (end_index Two P)
  from_tile_two = tile_wire 3 _ (omega arith) refl

-- a link is in the list
links_in : (t : Topology) (net : Net) (a : Wire) → Contains (links_of t net) a → Contains (wires_of t) a
unfolding wires_of
links_in t One a c = Contains-append_right (all_tile_wires t) (links_of t One ++ (links_of t Two ++ port_wires t)) a (Contains-append_left (links_of t One) (links_of t Two ++ port_wires t) a c)
links_in t Two a c =
    Contains-append_right (all_tile_wires t) (links_of t One ++ (links_of t Two ++ port_wires t)) a
    (Contains-append_right (links_of t One) (links_of t Two ++ port_wires t) a (Contains-append_left (links_of t Two) (port_wires t) a c))

-- the place of a side among all
side_in : (t : Topology) (net : Net) (tile : ℕ) (s : Side) (a : Wire) → link t net tile s ≡ Some a → Contains (links_from t net tile) a
side_in t net tile N a e = Contains-filter_map (link t net tile) all_sides 0 N a (omega arith) e
side_in t net tile E a e = Contains-filter_map (link t net tile) all_sides 1 N a (omega arith) e
side_in t net tile S a e = Contains-filter_map (link t net tile) all_sides 2 N a (omega arith) e
side_in t net tile W a e = Contains-filter_map (link t net tile) all_sides 3 N a (omega arith) e

-- the two networks have a link from each tile to each neighbour
pub neighbours_linked : (t : Topology) (net : Net) (s : Side) (x y next : ℕ) → IsTopology t → x < t.cols → y < t.rows → neighbour t x y s ≡ Some next → (w : ℕ) × Joins t w (switch_number t (tile_number t x y)) (end_index net (side_dir s)) (switch_number t next) (end_index net (side_dir (opposite s)))
neighbours_linked t net s x y next h column row e =
    let tile = tile_number t x y in
    let a : Wire = record { from = switch_number t tile; output = end_index net (side_dir s); to = switch_number t next; input = end_index net (side_dir (opposite s)) } in
    let there : neighbour t (tile % t.cols) (tile / t.cols) s ≡ Some next =
    ap (λ z. neighbour t z (tile / t.cols) s) (mod-mul-add y t.cols x column) ∙ ap (λ z. neighbour t x z s) (div-mul-add y t.cols x column) ∙ e in
    let is : link t net tile s ≡ Some a = ap (option_map (λ n. record { from = switch_number t tile; output = end_index net (side_dir s); to = switch_number t n; input = end_index net (side_dir (opposite s)) })) there in
    from_list t a h (links_in t net a (Contains-flat_map (links_from t net) 0 (tile_count t) tile a (omega arith) (omega (arith, tile_below t x y column row)) (side_in t net tile s a is)))

-- the wires of the ports are the last ones
port_place : (t : Topology) (k : ℕ) (place : PortPlace) → slice_get t.places k ≡ Some place → (w : ℕ) × (w + length t.places ≡ length (wires_of t) + k) × (w < length (wires_of t)) × (get_or (wires_of t) w no_wire ≡ port_wire t (2 * tile_count t + k) place)
unfolding wires_of
port_place t k place e =
    let tiles = all_tile_wires t in
    let one = links_of t One in
    let two = links_of t Two in
    let ports = port_wires t in
    let within = slice_get_within t.places k place e in
    let few = port_count t in
    let all = length-append tiles (one ++ (two ++ ports)) in
    let more = length-append one (two ++ ports) in
    let last = length-append two ports in
    let first : ℕ = length tiles + (length one + length two) in
    let at : get_or (tiles ++ (one ++ (two ++ ports))) (first + k) no_wire ≡ get_or ports k no_wire =
    get_or-append_right tiles (one ++ (two ++ ports)) (length tiles) (first + k) no_wire refl (omega arith)
    ∙ get_or-append_right one (two ++ ports) (length one) (first + k - length tiles) no_wire refl (omega arith)
    ∙ get_or-append_right two ports (length two) (first + k - length tiles - length one) no_wire refl (omega arith)
    ∙ ap (λ z. get_or ports z no_wire) (omega arith) in
    let is = port_wire_at t k no_wire within in
    let same = get_or_from_slice_get t.places k place no_place e in
    (first + k, omega arith, omega arith, at ∙ is ∙ ap (port_wire t (2 * tile_count t + k)) same)

-- a port has its one wire, to or from the switch at its place
pub source_joined : (t : Topology) (k : ℕ) (place : PortPlace) → IsTopology t → slice_get t.places k ≡ Some place → place.kind ≡ Source → (w : ℕ) × (w + length t.places ≡ length (wires_of t) + k) × Joins t w (2 * tile_count t + k) (end_index place.net P) (switch_number t (tile_number t place.x place.y)) (end_index place.net (side_dir place.side))
source_joined t k place h e kind =
    let at = port_place t k place e in
    let is = ap (λ z. port_wire_of z place.net place.side (2 * tile_count t + k) (switch_number t (tile_number t place.x place.y))) kind in
    (at.0, at.1, at_place t at.0 _ h at.2 (at.3 ∙ is))

pub sink_joined : (t : Topology) (k : ℕ) (place : PortPlace) → IsTopology t → slice_get t.places k ≡ Some place → place.kind ≡ Sink → (w : ℕ) × (w + length t.places ≡ length (wires_of t) + k) × Joins t w (switch_number t (tile_number t place.x place.y)) (end_index place.net (side_dir place.side)) (2 * tile_count t + k) (end_index place.net P)
sink_joined t k place h e kind =
    let at = port_place t k place e in
    let is = ap (λ z. port_wire_of z place.net place.side (2 * tile_count t + k) (switch_number t (tile_number t place.x place.y))) kind in
    (at.0, at.1, at_place t at.0 _ h at.2 (at.3 ∙ is))
