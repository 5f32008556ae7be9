-- A topology that gains a port, and how many wires it has.
use Rattle.std.proofs.Common.{◌≡◌, ◌≢◌, ℕ, ◌+◌, ◌*◌, ◌<◌, ◌≤◌, List, [], ◌∷◌, ◌++◌, length, map, Option, Some, None, sym, ◌∙◌, ap, subst, append_assoc, arith}
use Rattle.std.specs.Prelude.{Contains}
use Rattle.std.specs.List.{flat_map, filter_map, cons_option, enumerate_from}
use Rattle.std.proofs.lemmas.List.{append-nil, length-append, length-map, map-append, get_or_default}
use Rattle.std.proofs.lemmas.List.Elements.{All-nil, All-push, All-weaker}
use Rattle.std.proofs.lemmas.List.FromFn.{length-range_with_len, length-enumerate_from}
use Rattle.std.proofs.lemmas.List.Quantifiers.{all_pairs_push}
use Rattle.raw_grid.specs.declared.parts.Net.{Net}
use Rattle.raw_grid.specs.declared.parts.Net.TheVariants.{One, Two}
use Rattle.raw_grid.specs.declared.parts.PortPlace.{PortPlace}
use Rattle.raw_grid.specs.Topology.{Topology, without_ports, with_port, tile_count, proc_count, IsSize, IsAtEdge, IsTopology}
use Rattle.raw_grid.specs.Wires.{Wire, tile_wires, all_tile_wires, all_sides, tiles_of, link, links_from, links_of, port_wire, port_wires, wires_of}
use Rattle.raw_grid.specs.declared.limits.TheConstants.{MAX_PORTS, MAX_TILES, MAX_PROCS, MAX_WIRES}
use Rattle.raw_grid.specs.Stored.{IsStored}
use Rattle.raw_grid.proofs.Edges.{ports_few}

flat_map_few : {X : Type 0} (f : ℕ → List X) → ((k : ℕ) → length (f k) ≤ 4) → (ks : List ℕ) → length (flat_map f ks) ≤ 4 * length ks
flat_map_few f h [] = omega arith
flat_map_few f h (k ∷ ks) = omega (arith, length-append (f k) (flat_map f ks), h k, flat_map_few f h ks)

cons_option_few : {Y : Type 0} (o : Option Y) (ys : List Y) (n : ℕ) → length ys ≤ n → length (cons_option o ys) ≤ n + 1
cons_option_few None ys n h = omega arith
cons_option_few (Some y) ys n h = omega arith

filter_map_few : {X Y : Type 0} (g : X → Option Y) (xs : List X) → length (filter_map g xs) ≤ length xs
filter_map_few g [] = omega arith
filter_map_few g (x ∷ xs) = omega (arith, cons_option_few (g x) (filter_map g xs) (length xs) (filter_map_few g xs))

links_few : (t : Topology) (net : Net) → length (links_of t net) ≤ 4 * tile_count t
links_few t net =
    let few = flat_map_few (links_from t net) (λ k. filter_map_few (link t net k) all_sides) (tiles_of t) in
    let tiles = length-range_with_len 0 (tile_count t) in
    omega arith

-- each port has one wire
pub port_count : (t : Topology) → length (port_wires t) ≡ length t.places
port_count t =
    length-map (enumerate_from (2 * tile_count t) t.places) (λ port. port_wire t port.0 port.1) ∙ length-enumerate_from (2 * tile_count t) t.places

pub tiles_few : (c r : ℕ) → IsSize c r → c * r ≤ MAX_TILES
tiles_few c r h = grind arith

-- tiles, switches and ports
pub procs_few : (t : Topology) → IsTopology t → proc_count t ≤ MAX_PROCS
procs_few t h =
    let ports = ports_few t h in
    let size = tiles_few t.cols t.rows h.size in
    omega arith

-- a grid has fewer wires than 8 ends at 64 tiles, 4 more there and 128 ports
pub wires_few : (t : Topology) → IsTopology t → length (wires_of t) ≤ MAX_WIRES
unfolding wires_of
wires_few t h =
    let own = flat_map_few (tile_wires t) (λ k. omega arith) (tiles_of t) in
    let tiles = length-range_with_len 0 (tile_count t) in
    let one = links_few t One in
    let two = links_few t Two in
    let ports = port_count t in
    let some = ports_few t h in
    let size = tiles_few t.cols t.rows h.size in
    omega (
      arith,
      length-append (all_tile_wires t) (links_of t One ++ (links_of t Two ++ port_wires t)),
      length-append (links_of t One) (links_of t Two ++ port_wires t),
      length-append (links_of t Two) (port_wires t),
    )

pub enumerate_from-push : {X : Type 0} (n : ℕ) (xs : List X) (x : X) → enumerate_from n (xs ++ x ∷ []) ≡ enumerate_from n xs ++ (n + length xs, x) ∷ []
enumerate_from-push n [] x = ap (λ m. (m, x) ∷ []) (omega arith)
enumerate_from-push n (y ∷ xs) x =
    ap (λ es. (n, y) ∷ es) (enumerate_from-push (n + 1) xs x ∙ ap (λ m. enumerate_from (n + 1) xs ++ (m, x) ∷ []) (omega arith))

port_wires-push : (t : Topology) (place : PortPlace) → port_wires (with_port t place) ≡ port_wires t ++ port_wire t (proc_count t) place ∷ []
port_wires-push t place =
    let f : ℕ × PortPlace → Wire = λ port. port_wire t port.0 port.1 in
    ap (map f) (enumerate_from-push (2 * tile_count t) t.places place)
    ∙ map-append f (enumerate_from (2 * tile_count t) t.places) ((proc_count t, place) ∷ [])

-- the wire of a new port is the last one
pub wires_of-push : (t : Topology) (place : PortPlace) → wires_of (with_port t place) ≡ wires_of t ++ port_wire t (proc_count t) place ∷ []
unfolding wires_of
wires_of-push t place =
    let last = port_wire t (proc_count t) place ∷ [] in
    ap (λ ws. all_tile_wires t ++ (links_of t One ++ (links_of t Two ++ ws))) (port_wires-push t place)
    ∙ ap (λ ws. all_tile_wires t ++ (links_of t One ++ ws)) (sym (append_assoc (links_of t Two) (port_wires t) last))
    ∙ ap (λ ws. all_tile_wires t ++ ws) (sym (append_assoc (links_of t One) (links_of t Two ++ port_wires t) last))
    ∙ sym (append_assoc (all_tile_wires t) (links_of t One ++ (links_of t Two ++ port_wires t)) last)

-- a grid of a lawful size without ports
pub valid_bare : (c r : ℕ) → IsSize c r → IsTopology (without_ports c r)
valid_bare c r h = record {
  size = h;
  at_edges = All-nil (IsAtEdge (without_ports c r));
  distinct = λ i j d l m. absurd (omega arith);
}

at_edge_with : (t : Topology) (place p : PortPlace) → IsAtEdge t p → IsAtEdge (with_port t place) p
at_edge_with t place p h = record { column = h.column; row = h.row; edge = h.edge }

at_edge_of : (t : Topology) (p : PortPlace) → IsAtEdge (without_ports t.cols t.rows) p → IsAtEdge t p
at_edge_of t p h = record { column = h.column; row = h.row; edge = h.edge }

-- a new port at the edge, at a place that is not taken
pub valid_push : (t : Topology) (place : PortPlace) → IsTopology t → IsAtEdge t place → (Contains t.places place → ⊥) → IsTopology (with_port t place)
valid_push t place h edge free = record {
  size = h.size;
  at_edges =
      All-push (IsAtEdge (with_port t place)) t.places place
      (All-weaker (IsAtEdge t) (IsAtEdge (with_port t place)) (at_edge_with t place) t.places h.at_edges)
      (at_edge_with t place place edge);
  distinct =
      all_pairs_push (λ a b. a ≢ b) t.places place h.distinct
      (λ k d l e. free (k, l, get_or_default t.places k place d l ∙ e));
}

-- a fresh topology is stored
pub stored_bare : (c r : ℕ) (places : List PortPlace) (capacity : ℕ) (wires : List Wire) (room : ℕ) → IsSize c r → places ≡ [] → capacity ≡ MAX_PORTS → wires ≡ (([] ++ all_tile_wires (without_ports c r)) ++ links_of (without_ports c r) One) ++ links_of (without_ports c r) Two → length wires + MAX_PORTS ≤ room → IsStored (record { cols = c; rows = r; places = places }) capacity wires room
unfolding wires_of
stored_bare c r places capacity wires room size none cap are left =
    let t = without_ports c r in
    let own = all_tile_wires t in
    let one = links_of t One in
    let two = links_of t Two in
    let whole : wires ≡ own ++ (one ++ (two ++ port_wires t)) = are ∙ append_assoc own one two ∙ ap (λ ws. own ++ (one ++ ws)) (sym (append-nil two)) in
    subst (λ ps. IsStored (record { cols = c; rows = r; places = ps }) capacity wires room) (sym none)
    (record { valid = valid_bare c r size; room = cap; wires_are = whole; wire_room = omega arith })

-- so is one with a port more, where the lists grew by the place and its wire
pub stored_push : (t : Topology) (place : PortPlace) (capacity : ℕ) (wires : List Wire) (room : ℕ) (places : List PortPlace) (capacity' : ℕ) (more : List Wire) (room' p : ℕ) (x : Wire) → IsStored t capacity wires room → IsAtEdge (without_ports t.cols t.rows) place → (Contains t.places place → ⊥) → places ≡ t.places ++ place ∷ [] → capacity' ≡ capacity → more ≡ wires ++ x ∷ [] → room' ≡ room → x ≡ port_wire t p place → p ≡ proc_count t → IsStored (record t { places = places }) capacity' more room'
stored_push t place capacity wires room places capacity' more room' p x h edge free pushed same appended kept is number =
    let last = port_wire t (proc_count t) place ∷ [] in
    let whole : more ≡ wires ++ last = appended ∙ ap (λ u. wires ++ u ∷ []) (is ∙ ap (λ n. port_wire t n place) number) in
    subst (λ ps. IsStored (record t { places = ps }) capacity' more room') (sym pushed)
    (record {
      valid = valid_push t place h.valid (at_edge_of t place edge) free;
      room = same ∙ h.room;
      wires_are = whole ∙ ap (λ ws. ws ++ last) h.wires_are ∙ sym (wires_of-push t place);
      wire_room = omega (arith, h.wire_room, ap length whole, length-append wires last, length-append t.places (place ∷ []));
    })

-- a port that may be added has room
pub room_for : (t : Topology) (place : PortPlace) → IsTopology t → IsAtEdge (without_ports t.cols t.rows) place → (Contains t.places place → ⊥) → length t.places < MAX_PORTS
room_for t place h edge free =
    let few = ports_few (with_port t place) (valid_push t place h (at_edge_of t place edge) free) in
    omega (arith, length-append t.places (place ∷ []))
