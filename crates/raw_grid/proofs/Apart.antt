-- No two wires of a topology share an input end or an output end.
use Rattle.std.proofs.Common.{◌≡◌, ◌≢◌, ℕ, ◌+◌, ◌*◌, ◌<◌, ◌≤◌, [], ◌∷◌, length, get_or, Some, sym, ◌∙◌, ap, subst, arith}
use Rattle.std.specs.Prelude.{All, AllPairs, slice_get}
use Rattle.std.specs.List.{enumerate_from}
use Rattle.std.proofs.lemmas.List.{get_or-map}
use Rattle.std.proofs.lemmas.List.Elements.{All-nil, All-weaker, All-from_recursion}
use Rattle.std.proofs.lemmas.List.FromFn.{length-enumerate_from, get_or-enumerate_from}
use Rattle.std.proofs.lemmas.List.Kept.{AllPairs-cons}
use Rattle.std.proofs.lemmas.Nat.{mul-add-lt}
use Rattle.std.proofs.lemmas.Option.{slice_get-get_or}
use Rattle.raw_grid.specs.declared.parts.Net.{Net}
use Rattle.raw_grid.specs.declared.parts.Net.TheVariants.{One, Two}
use Rattle.raw_grid.specs.declared.parts.Side.{Side}
use Rattle.raw_grid.specs.declared.parts.Side.TheVariants.{N, E, S, W}
use Rattle.raw_grid.specs.declared.parts.PortKind.{PortKind}
use Rattle.raw_grid.specs.declared.parts.PortKind.TheVariants.{Source, Sink}
use Rattle.raw_grid.specs.declared.parts.PortPlace.{PortPlace}
use Rattle.raw_grid.specs.Ends.{opposite}
use Rattle.raw_grid.specs.Topology.{Topology, tile_count, tile_number, switch_number, IsSize, IsAtEdge}
use Rattle.raw_grid.specs.Wires.{Wire, tile_wires, all_tile_wires, all_sides, link, links_from, links_of, port_wire_of, port_wire, port_wires}
use Rattle.raw_grid.proofs.Edges.{IsLast, last_from, no_place}
use Rattle.raw_grid.proofs.Growth.{port_count}
use Rattle.raw_grid.proofs.Links.{OfTile, all_of_tile, IsStep, step_back, step_in, step_out, OfLink, of_link, same_opposite}
use Rattle.raw_grid.proofs.Lists.{AllPairs-nil, All-flat_map, AllPairs-flat_map, All-filter_map, AllPairs-filter_map}
use Rattle.raw_grid.specs.Names.{side_number}
use Rattle.raw_grid.proofs.Numbers.{side_few, end_at, same_side, same_tile}

-- neither the input ends nor the output ends of two wires are the same
pub record IsApart (a b : Wire) : Type 0 where
  pub inputs : a.to ≡ b.to → a.input ≡ b.input → ⊥
  pub outputs : a.from ≡ b.from → a.output ≡ b.output → ⊥

-- the wires of one tile
differ : (n tile i j : ℕ) → 1 ≤ n → i ≢ j → IsApart (record { from = n + tile; output = i; to = tile; input = i }) (record { from = n + tile; output = j; to = tile; input = j })
differ n tile i j h ne = record { inputs = λ e f. ne f; outputs = λ e f. ne f }

differ_back : (n tile i j : ℕ) → i ≢ j → IsApart (record { from = tile; output = i; to = n + tile; input = i }) (record { from = tile; output = j; to = n + tile; input = j })
differ_back n tile i j ne = record { inputs = λ e f. ne f; outputs = λ e f. ne f }

both_ways_apart : (n tile i j : ℕ) → 1 ≤ n → IsApart (record { from = n + tile; output = i; to = tile; input = i }) (record { from = tile; output = j; to = n + tile; input = j })
both_ways_apart n tile i j h = record { inputs = λ (e : tile ≡ n + tile) f. absurd (omega arith); outputs = λ (e : n + tile ≡ tile) f. absurd (omega arith) }

four_nine : ◌≢◌ {A = ℕ} 4 9
four_nine e = absurd (omega arith)

tile_apart : (t : Topology) (tile : ℕ) → 1 ≤ tile_count t → AllPairs IsApart (tile_wires t tile)
tile_apart t tile h =
    let n = tile_count t in
    let a : Wire = record { from = n + tile; output = 4; to = tile; input = 4 } in
    let b : Wire = record { from = n + tile; output = 9; to = tile; input = 9 } in
    let c : Wire = record { from = tile; output = 4; to = n + tile; input = 4 } in
    let d : Wire = record { from = tile; output = 9; to = n + tile; input = 9 } in
    AllPairs-cons IsApart a (b ∷ (c ∷ (d ∷ [])))
    (All-from_recursion (IsApart a) (b ∷ (c ∷ (d ∷ []))) (differ n tile 4 9 h four_nine, (both_ways_apart n tile 4 4 h, (both_ways_apart n tile 4 9 h, tt))))
    (AllPairs-cons IsApart b (c ∷ (d ∷ []))
    (All-from_recursion (IsApart b) (c ∷ (d ∷ [])) (both_ways_apart n tile 9 4 h, (both_ways_apart n tile 9 9 h, tt)))
    (AllPairs-cons IsApart c (d ∷ []) (All-from_recursion (IsApart c) (d ∷ []) (differ_back n tile 4 9 four_nine, tt))
    (AllPairs-cons IsApart d [] (All-nil (IsApart d)) (AllPairs-nil IsApart))))

-- the wires of two tiles
tiles_in : (n j k : ℕ) (a b : Wire) → j < k → k < n → OfTile n j a → OfTile n k b → a.to ≡ b.to → ⊥
tiles_in n j k a b l m h g e = grind arith

tiles_out : (n j k : ℕ) (a b : Wire) → j < k → k < n → OfTile n j a → OfTile n k b → a.from ≡ b.from → ⊥
tiles_out n j k a b l m h g e = grind arith

tiles_apart : (n j k : ℕ) (a b : Wire) → j < k → k < n → OfTile n j a → OfTile n k b → IsApart a b
tiles_apart n j k a b l m h g = record { inputs = λ e f. tiles_in n j k a b l m h g e; outputs = λ e f. tiles_out n j k a b l m h g e }

pub all_tiles_apart : (t : Topology) → 1 ≤ tile_count t → AllPairs IsApart (all_tile_wires t)
all_tiles_apart t h =
    AllPairs-flat_map IsApart (tile_wires t) 0 (tile_count t) (λ k l m. tile_apart t k h)
    (λ j k l m i d o p e q. tiles_apart (tile_count t) j k _ _ l (omega arith) (all_of_tile t j i d o) (all_of_tile t k p e q))

-- the sides in their order are apart
sides_apart : AllPairs (λ s r. s ≢ r) all_sides
sides_apart =
    AllPairs-cons P N (E ∷ (S ∷ (W ∷ []))) (All-from_recursion (P N) (E ∷ (S ∷ (W ∷ []))) (below N E (omega arith), (below N S (omega arith), (below N W (omega arith), tt))))
    (AllPairs-cons P E (S ∷ (W ∷ [])) (All-from_recursion (P E) (S ∷ (W ∷ [])) (below E S (omega arith), (below E W (omega arith), tt)))
    (AllPairs-cons P S (W ∷ []) (All-from_recursion (P S) (W ∷ []) (below S W (omega arith), tt))
    (AllPairs-cons P W [] (All-nil (P W)) (AllPairs-nil P))))
  where
    P : Side → Side → Type 0
    P s r = s ≢ r

    below : (s r : Side) → side_number s < side_number r → s ≢ r
    below s r h e = absurd (omega (arith, ap side_number e))

-- two links of one network
module _ (t : Topology) (net : Net) where
  same_link_out : (j k : ℕ) (s r : Side) (a b : Wire) → OfLink t net j s a → OfLink t net k r b → a.from ≡ b.from → a.output ≡ b.output → (j ≡ k) × (s ≡ r)
  same_link_out j k s r a b h g e f =
      let own = h.from in
      let other = g.from in
      let one = h.output in
      let two = g.output in
      (omega arith, same_side s r (omega arith))

  same_link_in : (j k : ℕ) (s r : Side) (a b : Wire) → OfLink t net j s a → OfLink t net k r b → a.to ≡ b.to → a.input ≡ b.input → (j ≡ k) × (s ≡ r)
  same_link_in j k s r a b h g e f =
      let one = h.input in
      let two = g.input in
      let side : s ≡ r = same_opposite s r (omega arith) in
      let v = h.is_next.v in
      let w = h.is_next.w in
      let next : w * t.cols + v ≡ g.is_next.w * t.cols + g.is_next.v = omega (arith, h.to, g.to, h.is_next.is, g.is_next.is) in
      let at = same_tile t.cols v w g.is_next.v g.is_next.w h.is_next.column g.is_next.column next in
      let there : IsStep s g.x g.y v w = subst (λ z. IsStep z g.x g.y v w) (sym side) (subst (λ z. IsStep r g.x g.y z w) (sym at.0) (subst (λ z. IsStep r g.x g.y g.is_next.v z) (sym at.1) g.is_next.step)) in
      let from = step_back s h.x h.y g.x g.y v w h.is_next.step there in
      (sym h.is_tile ∙ ap (λ z. z * t.cols + h.x) from.1 ∙ ap (λ z. g.y * t.cols + z) from.0 ∙ g.is_tile, side)

  link_apart : (j k : ℕ) (s r : Side) (a b : Wire) → (j ≡ k → s ≡ r → ⊥) → OfLink t net j s a → OfLink t net k r b → IsApart a b
  link_apart j k s r a b ne h g = record {
    inputs = λ e f. let same = same_link_in j k s r a b h g e f in ne same.0 same.1;
    outputs = λ e f. let same = same_link_out j k s r a b h g e f in ne same.0 same.1;
  }

  pub links_apart : IsSize t.cols t.rows → AllPairs IsApart (links_of t net)
  links_apart size =
      AllPairs-flat_map IsApart (links_from t net) 0 (tile_count t)
      (λ k l m. AllPairs-filter_map (λ s r. s ≢ r) IsApart (link t net k) all_sides sides_apart
      (λ s r a b ne e f. link_apart k k s r a b (λ same side. ne side) (of_link t net k s a size (omega arith) e) (of_link t net k r b size (omega arith) f)))
      (λ j k l m. All-filter_map (λ a. All (IsApart a) (links_from t net k)) (link t net j) all_sides
      (λ s a e. All-filter_map (IsApart a) (link t net k) all_sides
      (λ r b f. link_apart j k s r a b (λ same side. absurd (omega arith)) (of_link t net j s a size (omega arith) e) (of_link t net k r b size (omega arith) f))))

-- a wire between a tile and its switch, a link, or the wire of port number k
unfoldable pub IsTileWire : Topology → Wire → Type 0
IsTileWire t a = (tile : ℕ) × (tile < tile_count t) × OfTile (tile_count t) tile a

unfoldable pub IsLink : Topology → Net → Wire → Type 0
IsLink t net a = (tile : ℕ) × (s : Side) × (tile < tile_count t) × OfLink t net tile s a

unfoldable pub IsPortWire : Topology → Wire → Type 0
IsPortWire t a = (k : ℕ) × (place : PortPlace) × (slice_get t.places k ≡ Some place) × IsAtEdge t place × (a ≡ port_wire t (2 * tile_count t + k) place)

pub all_tiles : (t : Topology) → All (IsTileWire t) (all_tile_wires t)
unfolding IsTileWire
all_tiles t =
    All-flat_map (IsTileWire t) (tile_wires t) 0 (tile_count t)
    (λ k l m. All-weaker (OfTile (tile_count t) k) (IsTileWire t) (λ a h. (k, omega arith, h)) (tile_wires t k) (all_of_tile t k))

pub all_links : (t : Topology) (net : Net) → IsSize t.cols t.rows → All (IsLink t net) (links_of t net)
unfolding IsLink
all_links t net size =
    All-flat_map (IsLink t net) (links_from t net) 0 (tile_count t)
    (λ k l m. All-filter_map (IsLink t net) (link t net k) all_sides
    (λ s a e. let few : k < tile_count t = omega arith in (k, s, few, of_link t net k s a size few e)))

-- the wire of port number k
pub port_wire_at : (t : Topology) (k : ℕ) (d : Wire) → k < length t.places → get_or (port_wires t) k d ≡ port_wire t (2 * tile_count t + k) (get_or t.places k no_place)
port_wire_at t k d l =
    let f : ℕ × PortPlace → Wire = λ port. port_wire t port.0 port.1 in
    let ports = enumerate_from (2 * tile_count t) t.places in
    let few = length-enumerate_from (2 * tile_count t) t.places in
    get_or-map f ports k (0, no_place) d (omega arith) ∙ ap f (get_or-enumerate_from (2 * tile_count t) t.places k (0, no_place) l)

pub all_ports : (t : Topology) → All (IsAtEdge t) t.places → All (IsPortWire t) (port_wires t)
unfolding IsPortWire
all_ports t edges k d l =
    let few : k < length t.places = omega (arith, port_count t) in
    (k, get_or t.places k no_place, slice_get-get_or t.places k no_place few, edges k no_place few, port_wire_at t k d few)

-- the number of a tile on the grid
pub tile_below : (t : Topology) (x y : ℕ) → x < t.cols → y < t.rows → tile_number t x y < tile_count t
tile_below t x y h k = mul-add-lt y t.cols x t.rows k h

-- a tile's wire beside a link, and beside a port's wire
pub tile_link_apart : (t : Topology) (net : Net) (a b : Wire) → IsTileWire t a → IsLink t net b → IsApart a b
unfolding IsTileWire IsLink
tile_link_apart t net a b h g =
    let input = g.3.input in
    let output = g.3.output in
    let back = side_few (opposite g.1) in
    let side = side_few g.1 in
    let direction = h.2.direction in
    let one = h.2.one_index in
    record { inputs = λ e f. absurd (omega arith); outputs = λ e f. absurd (omega arith) }

pub tile_from : (t : Topology) (a : Wire) → IsTileWire t a → a.from < 2 * tile_count t
unfolding IsTileWire
tile_from t a h = let of = h.2 in let few = h.1 in grind arith

pub tile_to : (t : Topology) (a : Wire) → IsTileWire t a → a.to < 2 * tile_count t
unfolding IsTileWire
tile_to t a h = let of = h.2 in let few = h.1 in grind arith

pub link_from : (t : Topology) (net : Net) (a : Wire) → IsLink t net a → a.from < 2 * tile_count t
unfolding IsLink
link_from t net a h = omega (arith, h.2, h.3.from)

pub link_to : (t : Topology) (net : Net) (a : Wire) → IsLink t net a → a.to < 2 * tile_count t
unfolding IsLink
link_to t net a h =
    let next = h.3.is_next in
    omega (arith, h.3.to, next.is, tile_below t next.v next.w next.column next.row)

tile_port_apart_of : (t : Topology) (kind : PortKind) (net : Net) (s : Side) (k switch : ℕ) (a : Wire) → IsTileWire t a → IsApart a (port_wire_of kind net s (2 * tile_count t + k) switch)
unfolding IsTileWire
tile_port_apart_of t Source net s k switch a h =
    let from = tile_from t a h in
    let direction = h.2.direction in
    let end = end_at net s in
    let side = side_few s in
    record { inputs = λ e f. absurd (omega arith); outputs = λ e f. absurd (omega arith) }
tile_port_apart_of t Sink net s k switch a h =
    let to = tile_to t a h in
    let direction = h.2.direction in
    let one = h.2.one_index in
    let end = end_at net s in
    let side = side_few s in
    record { inputs = λ e f. absurd (omega arith); outputs = λ e f. absurd (omega arith) }

pub tile_port_apart : (t : Topology) (a b : Wire) → IsTileWire t a → IsPortWire t b → IsApart a b
unfolding IsPortWire
tile_port_apart t a b h g =
    let place = g.1 in
    subst (IsApart a) (sym g.4) (tile_port_apart_of t place.kind place.net place.side g.0 (switch_number t (tile_number t place.x place.y)) a h)

-- links of the two networks
pub nets_apart : (t : Topology) (a b : Wire) → IsLink t One a → IsLink t Two b → IsApart a b
unfolding IsLink
nets_apart t a b h g =
    let input = h.3.input in
    let output = h.3.output in
    let back = side_few (opposite h.1) in
    let side = side_few h.1 in
    let other_input = g.3.input in
    let other_output = g.3.output in
    record { inputs = λ e f. absurd (omega arith); outputs = λ e f. absurd (omega arith) }

-- a link beside a port's wire: there is no link across an edge
link_port_apart_of : (t : Topology) (net : Net) (kind : PortKind) (m : Net) (s : Side) (k x y : ℕ) (a : Wire) → IsLink t net a → x < t.cols → y < t.rows → IsLast s t.cols t.rows x y → IsApart a (port_wire_of kind m s (2 * tile_count t + k) (switch_number t (tile_number t x y)))
unfolding IsLink
link_port_apart_of t net Source m s k x y a h column row last = record {
  inputs =
      λ e f.
      let of = h.3 in
      let next = of.is_next in
      let back = side_few (opposite h.1) in
      let side = side_few s in
      let same : opposite h.1 ≡ s = same_side (opposite h.1) s (omega (arith, of.input, end_at m s)) in
      let at = same_tile t.cols next.v next.w x y next.column column (omega (arith, of.to, next.is)) in
      let there : IsStep h.1 of.x of.y x y = subst (λ z. IsStep h.1 of.x of.y z y) at.0 (subst (λ z. IsStep h.1 of.x of.y next.v z) at.1 next.step) in
      step_in h.1 t.cols t.rows of.x of.y x y there of.column of.row (subst (λ z. IsLast z t.cols t.rows x y) (sym same) last);
  outputs = λ e f. absurd (omega (arith, link_from t net a h));
}
link_port_apart_of t net Sink m s k x y a h column row last = record {
  inputs = λ e f. absurd (omega (arith, link_to t net a h));
  outputs =
      λ e f.
      let of = h.3 in
      let next = of.is_next in
      let own = side_few h.1 in
      let side = side_few s in
      let same : h.1 ≡ s = same_side h.1 s (omega (arith, of.output, end_at m s)) in
      let at = same_tile t.cols of.x of.y x y of.column column (omega (arith, of.from, of.is_tile)) in
      let there : IsLast h.1 t.cols t.rows of.x of.y = subst (λ z. IsLast z t.cols t.rows of.x of.y) (sym same) (subst (λ z. IsLast s t.cols t.rows z of.y) (sym at.0) (subst (λ z. IsLast s t.cols t.rows x z) (sym at.1) last)) in
      step_out h.1 t.cols t.rows of.x of.y next.v next.w next.step next.column next.row there;
}

pub link_port_apart : (t : Topology) (net : Net) (a b : Wire) → IsLink t net a → IsPortWire t b → IsApart a b
unfolding IsPortWire
link_port_apart t net a b h g =
    let place = g.1 in
    let edge = g.3 in
    subst (IsApart a) (sym g.4)
    (link_port_apart_of t net place.kind place.net place.side g.0 place.x place.y a h edge.column edge.row (last_from t place.x place.y place.side edge.edge))
