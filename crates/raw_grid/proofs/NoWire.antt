-- Which ends have no wire.
use Rattle.std.proofs.Common.{◌≡◌, ℕ, ◌+◌, ◌*◌, ◌%◌, ◌<◌, ◌≤◌, Option, Some, None, ◌⊎◌, inl, inr, refl, sym, ◌∙◌, ap, subst, ⊎_elim, arith}
use Rattle.std.specs.Prelude.{All, Contains, slice_get, is_some}
use Rattle.std.proofs.lemmas.Bool.{cases_eq}
use Rattle.std.proofs.lemmas.List.Elements.{All-get_or}
use Rattle.std.proofs.lemmas.Option.{slice_get_within, get_or_from_slice_get}
use Rattle.raw_grid.specs.declared.parts.Net.{Net}
use Rattle.raw_grid.specs.declared.parts.Net.TheVariants.{One, Two}
use Rattle.raw_grid.specs.declared.parts.Side.{Side}
use Rattle.raw_grid.specs.declared.parts.Dir.TheVariants.{P}
use Rattle.raw_grid.specs.declared.parts.PortKind.{PortKind}
use Rattle.raw_grid.specs.declared.parts.PortKind.TheVariants.{Source, Sink}
use Rattle.raw_grid.specs.declared.parts.PortPlace.{PortPlace}
use Rattle.raw_grid.specs.Ends.{end_index, side_dir, opposite}
use Rattle.raw_grid.specs.Topology.{Topology, tile_count, tile_number, switch_number, neighbour, IsAtEdge, IsTopology}
use Rattle.raw_grid.specs.Wires.{Wire, port_wire_of, wires_of, input_wire, output_wire, no_wire}
use Rattle.raw_grid.proofs.Apart.{IsTileWire, IsLink, IsPortWire, tile_below, tile_from, tile_to, link_from, link_to}
use Rattle.raw_grid.proofs.Edges.{IsLast, last_from, no_place}
use Rattle.raw_grid.proofs.Links.{IsStep, step_in, step_out}
use Rattle.raw_grid.specs.Names.{side_number}
use Rattle.raw_grid.proofs.Numbers.{net_index, side_few, end_at, same_net, same_side, same_place, same_tile}
use Rattle.raw_grid.proofs.Whole.{all_wires}
use Rattle.raw_grid.proofs.WireLaws.{the_wire, input_within, output_within, input_ends, output_ends}

none_from : {A : Type 0} (o : Option A) → ((x : A) → o ≡ Some x → ⊥) → o ≡ None
none_from None h = refl
none_from (Some x) h = absurd (h x refl)

-- what holds of all wires holds of the wire of an end
input_of : (t : Topology) (Q : Wire → Type 0) (p i w : ℕ) → All Q (wires_of t) → input_wire t p i ≡ Some w → Q (the_wire t w)
unfolding the_wire
input_of t Q p i w all e = All-get_or Q (wires_of t) w no_wire (input_within t w p i e) all

output_of : (t : Topology) (Q : Wire → Type 0) (p i w : ℕ) → All Q (wires_of t) → output_wire t p i ≡ Some w → Q (the_wire t w)
unfolding the_wire
output_of t Q p i w all e = All-get_or Q (wires_of t) w no_wire (output_within t w p i e) all

-- a tile has its wires at P alone
p_index : (i : ℕ) → i % 5 ≡ 4 → i < 10 → (i ≡ 4) ⊎ (i ≡ 9)
p_index i d l = ⊎_elim inl (λ ne. inr (omega arith)) (cases_eq i 4)

port_to_of : (t : Topology) (kind : PortKind) (net : Net) (s : Side) (k tile : ℕ) → tile_count t ≤ (port_wire_of kind net s (2 * tile_count t + k) (switch_number t tile)).to
port_to_of t Source net s k tile = omega arith
port_to_of t Sink net s k tile = omega arith

port_from_of : (t : Topology) (kind : PortKind) (net : Net) (s : Side) (k tile : ℕ) → tile_count t ≤ (port_wire_of kind net s (2 * tile_count t + k) (switch_number t tile)).from
port_from_of t Source net s k tile = omega arith
port_from_of t Sink net s k tile = omega arith

port_to : (t : Topology) (a : Wire) → IsPortWire t a → tile_count t ≤ a.to
unfolding IsPortWire
port_to t a g = let place = g.1 in subst (λ (u : Wire). tile_count t ≤ u.to) (sym g.4) (port_to_of t place.kind place.net place.side g.0 (tile_number t place.x place.y))

port_from : (t : Topology) (a : Wire) → IsPortWire t a → tile_count t ≤ a.from
unfolding IsPortWire
port_from t a g = let place = g.1 in subst (λ (u : Wire). tile_count t ≤ u.from) (sym g.4) (port_from_of t place.kind place.net place.side g.0 (tile_number t place.x place.y))

tile_p : (t : Topology) (a : Wire) → IsTileWire t a → ((a.input ≡ 4) ⊎ (a.input ≡ 9)) × ((a.output ≡ 4) ⊎ (a.output ≡ 9))
unfolding IsTileWire
tile_p t a h =
    let one = h.2.one_index in
    let direction = h.2.direction in
    let few = h.2.end_few in
    (p_index a.input direction few, p_index a.output (omega arith) (omega arith))

link_to_switch : (t : Topology) (net : Net) (a : Wire) → IsLink t net a → tile_count t ≤ a.to
unfolding IsLink
link_to_switch t net a h = omega (arith, h.3.to)

link_from_switch : (t : Topology) (net : Net) (a : Wire) → IsLink t net a → tile_count t ≤ a.from
unfolding IsLink
link_from_switch t net a h = omega (arith, h.3.from)

pub tile_input : (t : Topology) (tile i w : ℕ) → IsTopology t → tile < tile_count t → input_wire t tile i ≡ Some w → (i ≡ end_index One P) ⊎ (i ≡ end_index Two P)
tile_input t tile i w h l e =
    let Q : Wire → Type 0 = λ a. a.to < tile_count t → (a.input ≡ 4) ⊎ (a.input ≡ 9) in
    let all = all_wires t Q h (λ a g m. (tile_p t a g).0) (λ net a g m. absurd (omega (arith, link_to_switch t net a g))) (λ a g m. absurd (omega (arith, port_to t a g))) in
    let ends = input_ends t w tile i e in
    subst (λ z. (z ≡ 4) ⊎ (z ≡ 9)) ends.1 (input_of t Q tile i w all e (omega (arith, ends.0)))

pub tile_output : (t : Topology) (tile i w : ℕ) → IsTopology t → tile < tile_count t → output_wire t tile i ≡ Some w → (i ≡ end_index One P) ⊎ (i ≡ end_index Two P)
tile_output t tile i w h l e =
    let Q : Wire → Type 0 = λ a. a.from < tile_count t → (a.output ≡ 4) ⊎ (a.output ≡ 9) in
    let all = all_wires t Q h (λ a g m. (tile_p t a g).1) (λ net a g m. absurd (omega (arith, link_from_switch t net a g))) (λ a g m. absurd (omega (arith, port_from t a g))) in
    let ends = output_ends t w tile i e in
    subst (λ z. (z ≡ 4) ⊎ (z ≡ 9)) ends.1 (output_of t Q tile i w all e (omega (arith, ends.0)))

-- a port has its wire at P of its network alone: a source sends there, and a sink takes from there
module _ (t : Topology) (k : ℕ) (place : PortPlace) (is : slice_get t.places k ≡ Some place) where
  same_port : (j : ℕ) (other : PortPlace) → slice_get t.places j ≡ Some other → j ≡ k → other ≡ place
  same_port j other there e =
      sym (get_or_from_slice_get t.places k other no_place (subst (λ z. slice_get t.places z ≡ Some other) e there)) ∙ get_or_from_slice_get t.places k place no_place is

  takes_of : (a : PortKind) (j : ℕ) (other : PortPlace) → other.kind ≡ a → slice_get t.places j ≡ Some other → IsAtEdge t other → (port_wire_of a other.net other.side (2 * tile_count t + j) (switch_number t (tile_number t other.x other.y))).to ≡ 2 * tile_count t + k → (place.kind ≡ Sink) × ((port_wire_of a other.net other.side (2 * tile_count t + j) (switch_number t (tile_number t other.x other.y))).input ≡ end_index place.net P)
  takes_of Source j other kind there edge e = absurd (omega (arith, tile_below t other.x other.y edge.column edge.row))
  takes_of Sink j other kind there edge e =
      let same = same_port j other there (omega arith) in
      (sym (ap (λ (z : PortPlace). z.kind) same) ∙ kind, ap (λ (z : PortPlace). end_index z.net P) same)

  sends_of : (a : PortKind) (j : ℕ) (other : PortPlace) → other.kind ≡ a → slice_get t.places j ≡ Some other → IsAtEdge t other → (port_wire_of a other.net other.side (2 * tile_count t + j) (switch_number t (tile_number t other.x other.y))).from ≡ 2 * tile_count t + k → (place.kind ≡ Source) × ((port_wire_of a other.net other.side (2 * tile_count t + j) (switch_number t (tile_number t other.x other.y))).output ≡ end_index place.net P)
  sends_of Sink j other kind there edge e = absurd (omega (arith, tile_below t other.x other.y edge.column edge.row))
  sends_of Source j other kind there edge e =
      let same = same_port j other there (omega arith) in
      (sym (ap (λ (z : PortPlace). z.kind) same) ∙ kind, ap (λ (z : PortPlace). end_index z.net P) same)

  Takes : Wire → Type 0
  Takes a = a.to ≡ 2 * tile_count t + k → (place.kind ≡ Sink) × (a.input ≡ end_index place.net P)

  Sends : Wire → Type 0
  Sends a = a.from ≡ 2 * tile_count t + k → (place.kind ≡ Source) × (a.output ≡ end_index place.net P)

  takes_at : (a : Wire) → IsPortWire t a → Takes a
  unfolding IsPortWire Takes
  takes_at a g = subst Takes (sym g.4) (takes_of g.1.kind g.0 g.1 refl g.2 g.3)

  sends_at : (a : Wire) → IsPortWire t a → Sends a
  unfolding IsPortWire Sends
  sends_at a g = subst Sends (sym g.4) (sends_of g.1.kind g.0 g.1 refl g.2 g.3)

  pub port_input : (i w : ℕ) → IsTopology t → input_wire t (2 * tile_count t + k) i ≡ Some w → (place.kind ≡ Sink) × (i ≡ end_index place.net P)
  unfolding Takes
  port_input i w h e =
      let all = all_wires t Takes h (λ a g m. absurd (omega (arith, tile_to t a g))) (λ net a g m. absurd (omega (arith, link_to t net a g))) takes_at in
      let ends = input_ends t w (2 * tile_count t + k) i e in
      let found = input_of t Takes (2 * tile_count t + k) i w all e ends.0 in
      (found.0, sym ends.1 ∙ found.1)

  pub port_output : (i w : ℕ) → IsTopology t → output_wire t (2 * tile_count t + k) i ≡ Some w → (place.kind ≡ Source) × (i ≡ end_index place.net P)
  unfolding Sends
  port_output i w h e =
      let all = all_wires t Sends h (λ a g m. absurd (omega (arith, tile_from t a g))) (λ net a g m. absurd (omega (arith, link_from t net a g))) sends_at in
      let ends = output_ends t w (2 * tile_count t + k) i e in
      let found = output_of t Sends (2 * tile_count t + k) i w all e ends.0 in
      (found.0, sym ends.1 ∙ found.1)

-- at an edge a switch has an input where a source stands, and an output where a sink does, and no other
module _ (t : Topology) (net : Net) (s : Side) (x y : ℕ) (column : x < t.cols) (row : y < t.rows) (edge : neighbour t x y s ≡ None) where
  there : PortKind → PortPlace
  there kind = record { kind = kind; net = net; x = x; y = y; side = s }

  last : IsLast s t.cols t.rows x y
  last = last_from t x y s (ap is_some edge)

  end_is : end_index net (side_dir s) ≡ 5 * net_index net + side_number s
  end_is = end_at net s

  stands : (k : ℕ) (place : PortPlace) → slice_get t.places k ≡ Some place → IsAtEdge t place → switch_number t (tile_number t place.x place.y) ≡ switch_number t (tile_number t x y) → end_index place.net (side_dir place.side) ≡ end_index net (side_dir s) → Contains t.places (there place.kind)
  unfolding there
  stands k place is h e f =
      let one = side_few place.side in
      let two = side_few s in
      let index : 5 * net_index place.net + side_number place.side ≡ 5 * net_index net + side_number s = sym (end_at place.net place.side) ∙ f ∙ end_at net s in
      let at = same_tile t.cols place.x place.y x y h.column column (omega arith) in
      let same : place ≡ there place.kind = same_place place (there place.kind) refl (same_net place.net net (omega arith)) at.0 at.1 (same_side place.side s (omega arith)) in
      (k, slice_get_within t.places k place is, get_or_from_slice_get t.places k place (there place.kind) is ∙ same)

  Enters : Wire → Type 0
  Enters a = a.to ≡ switch_number t (tile_number t x y) → a.input ≡ end_index net (side_dir s) → ⊥

  Leaves : Wire → Type 0
  Leaves a = a.from ≡ switch_number t (tile_number t x y) → a.output ≡ end_index net (side_dir s) → ⊥

  tile_enters : (a : Wire) → IsTileWire t a → Enters a
  unfolding Enters IsTileWire
  tile_enters a h e f =
      let direction = h.2.direction in
      let side = side_few s in
      absurd (omega (arith, end_is))

  tile_leaves : (a : Wire) → IsTileWire t a → Leaves a
  unfolding Leaves IsTileWire
  tile_leaves a h e f =
      let direction = h.2.direction in
      let one = h.2.one_index in
      let side = side_few s in
      absurd (omega (arith, end_is))

  link_enters : (m : Net) (a : Wire) → IsLink t m a → Enters a
  unfolding Enters IsLink
  link_enters m a h e f =
      let of = h.3 in
      let next = of.is_next in
      let back = side_few (opposite h.1) in
      let side = side_few s in
      let same : opposite h.1 ≡ s = same_side (opposite h.1) s (omega (arith, of.input, end_is)) in
      let at = same_tile t.cols next.v next.w x y next.column column (omega (arith, of.to, next.is)) in
      let to : IsStep h.1 of.x of.y x y = subst (λ z. IsStep h.1 of.x of.y z y) at.0 (subst (λ z. IsStep h.1 of.x of.y next.v z) at.1 next.step) in
      step_in h.1 t.cols t.rows of.x of.y x y to of.column of.row (subst (λ z. IsLast z t.cols t.rows x y) (sym same) last)

  link_leaves : (m : Net) (a : Wire) → IsLink t m a → Leaves a
  unfolding Leaves IsLink
  link_leaves m a h e f =
      let of = h.3 in
      let next = of.is_next in
      let own = side_few h.1 in
      let side = side_few s in
      let same : h.1 ≡ s = same_side h.1 s (omega (arith, of.output, end_is)) in
      let at = same_tile t.cols of.x of.y x y of.column column (omega (arith, of.from, of.is_tile)) in
      let from : IsLast h.1 t.cols t.rows of.x of.y = subst (λ z. IsLast z t.cols t.rows of.x of.y) (sym same) (subst (λ z. IsLast s t.cols t.rows z of.y) (sym at.0) (subst (λ z. IsLast s t.cols t.rows x z) (sym at.1) last)) in
      step_out h.1 t.cols t.rows of.x of.y next.v next.w next.step next.column next.row from

  port_enters_of : (Contains t.places (there Source) → ⊥) → (a : PortKind) (k : ℕ) (place : PortPlace) → place.kind ≡ a → slice_get t.places k ≡ Some place → IsAtEdge t place → Enters (port_wire_of a place.net place.side (2 * tile_count t + k) (switch_number t (tile_number t place.x place.y)))
  unfolding Enters
  port_enters_of free Source k place kind is h e f = free (subst (λ z. Contains t.places (there z)) kind (stands k place is h e f))
  port_enters_of free Sink k place kind is h e f = absurd (omega (arith, tile_below t x y column row))

  port_leaves_of : (Contains t.places (there Sink) → ⊥) → (a : PortKind) (k : ℕ) (place : PortPlace) → place.kind ≡ a → slice_get t.places k ≡ Some place → IsAtEdge t place → Leaves (port_wire_of a place.net place.side (2 * tile_count t + k) (switch_number t (tile_number t place.x place.y)))
  unfolding Leaves
  port_leaves_of free Sink k place kind is h e f = free (subst (λ z. Contains t.places (there z)) kind (stands k place is h e f))
  port_leaves_of free Source k place kind is h e f = absurd (omega (arith, tile_below t x y column row))

  port_enters : (Contains t.places (there Source) → ⊥) → (a : Wire) → IsPortWire t a → Enters a
  unfolding IsPortWire
  port_enters free a g = subst Enters (sym g.4) (port_enters_of free g.1.kind g.0 g.1 refl g.2 g.3)

  port_leaves : (Contains t.places (there Sink) → ⊥) → (a : Wire) → IsPortWire t a → Leaves a
  unfolding IsPortWire
  port_leaves free a g = subst Leaves (sym g.4) (port_leaves_of free g.1.kind g.0 g.1 refl g.2 g.3)

  pub no_source : IsTopology t → (Contains t.places (record { kind = Source; net = net; x = x; y = y; side = s }) → ⊥) → input_wire t (switch_number t (tile_number t x y)) (end_index net (side_dir s)) ≡ None
  unfolding Enters there
  no_source h free =
      none_from _
      (λ w e.
      let all = all_wires t Enters h tile_enters link_enters (port_enters free) in
      let ends = input_ends t w (switch_number t (tile_number t x y)) (end_index net (side_dir s)) e in
      input_of t Enters (switch_number t (tile_number t x y)) (end_index net (side_dir s)) w all e ends.0 ends.1)

  pub no_sink : IsTopology t → (Contains t.places (record { kind = Sink; net = net; x = x; y = y; side = s }) → ⊥) → output_wire t (switch_number t (tile_number t x y)) (end_index net (side_dir s)) ≡ None
  unfolding Leaves there
  no_sink h free =
      none_from _
      (λ w e.
      let all = all_wires t Leaves h tile_leaves link_leaves (port_leaves free) in
      let ends = output_ends t w (switch_number t (tile_number t x y)) (end_index net (side_dir s)) e in
      output_of t Leaves (switch_number t (tile_number t x y)) (end_index net (side_dir s)) w all e ends.0 ends.1)
