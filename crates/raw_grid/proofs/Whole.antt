-- All wires of a topology: they are apart, and each joins two processors of it.
use Rattle.std.proofs.Common.{◌≡◌, ◌≢◌, ℕ, ◌+◌, ◌*◌, ◌<◌, ◌≤◌, List, ◌++◌, length, get_or, refl, sym, ◌∙◌, subst, arith}
use Rattle.std.specs.Prelude.{All, AllPairs}
use Rattle.std.proofs.lemmas.List.Elements.{All-append, All-weaker}
use Rattle.std.proofs.lemmas.Option.{slice_get_within}
use Rattle.raw_grid.specs.declared.parts.Net.{Net}
use Rattle.raw_grid.specs.declared.parts.Net.TheVariants.{One, Two}
use Rattle.raw_grid.specs.declared.parts.PortKind.{PortKind}
use Rattle.raw_grid.specs.declared.parts.PortKind.TheVariants.{Source, Sink}
use Rattle.raw_grid.specs.declared.parts.PortPlace.{PortPlace}
use Rattle.raw_grid.specs.Ends.{opposite}
use Rattle.raw_grid.specs.Topology.{Topology, tile_count, proc_count, tile_number, switch_number, IsAtEdge, IsTopology}
use Rattle.raw_grid.specs.Wires.{Wire, all_tile_wires, links_of, port_wire_of, port_wire, port_wires, wires_of}
use Rattle.raw_grid.proofs.Apart.{IsApart, IsTileWire, IsLink, IsPortWire, all_tiles, all_links, all_ports, port_wire_at, tile_below, tile_from, tile_to, link_from, link_to, tile_link_apart, tile_port_apart, nets_apart, link_port_apart, all_tiles_apart, links_apart}
use Rattle.raw_grid.proofs.Edges.{no_place}
use Rattle.raw_grid.proofs.Growth.{port_count}
use Rattle.raw_grid.proofs.Links.{step_apart}
use Rattle.raw_grid.proofs.Lists.{AllPairs-append}
use Rattle.raw_grid.specs.Names.{side_number}
use Rattle.raw_grid.proofs.Numbers.{net_index, net_few, side_few, end_at, p_end_at, same_net, same_side, same_place, same_tile}

-- the wires of two ports at two places
module _ (t : Topology) (j k : ℕ) (p q : PortPlace) (ne : j ≢ k) (differ : p ≢ q) (h : IsAtEdge t p) (g : IsAtEdge t q) where
  same_end : p.kind ≡ q.kind → switch_number t (tile_number t p.x p.y) ≡ switch_number t (tile_number t q.x q.y) → 5 * net_index p.net + side_number p.side ≡ 5 * net_index q.net + side_number q.side → ⊥
  same_end kind e f =
      let one = side_few p.side in
      let two = side_few q.side in
      let at = same_tile t.cols p.x p.y q.x q.y h.column g.column (omega arith) in
      differ (same_place p q kind (same_net p.net q.net (omega arith)) at.0 at.1 (same_side p.side q.side (omega arith)))

  port_pair : (a b : PortKind) → p.kind ≡ a → q.kind ≡ b → IsApart (port_wire_of a p.net p.side (2 * tile_count t + j) (switch_number t (tile_number t p.x p.y))) (port_wire_of b q.net q.side (2 * tile_count t + k) (switch_number t (tile_number t q.x q.y)))
  port_pair Source Source c d = record {
    inputs = λ e f. same_end (c ∙ sym d) e (sym (end_at p.net p.side) ∙ f ∙ end_at q.net q.side);
    outputs = λ e f. ne (omega arith);
  }
  port_pair Source Sink c d = record {
    inputs = λ e f. absurd (omega (arith, tile_below t p.x p.y h.column h.row));
    outputs = λ e f. absurd (omega (arith, tile_below t q.x q.y g.column g.row));
  }
  port_pair Sink Source c d = record {
    inputs = λ e f. absurd (omega (arith, tile_below t q.x q.y g.column g.row));
    outputs = λ e f. absurd (omega (arith, tile_below t p.x p.y h.column h.row));
  }
  port_pair Sink Sink c d = record {
    inputs = λ e f. ne (omega arith);
    outputs = λ e f. same_end (c ∙ sym d) e (sym (end_at p.net p.side) ∙ f ∙ end_at q.net q.side);
  }

  port_wires_apart : IsApart (port_wire t (2 * tile_count t + j) p) (port_wire t (2 * tile_count t + k) q)
  port_wires_apart = port_pair p.kind q.kind refl refl

ports_apart : (t : Topology) → IsTopology t → AllPairs IsApart (port_wires t)
ports_apart t h j k d l m =
    let places = port_count t in
    let last : k < length t.places = omega arith in
    let first : j < length t.places = omega arith in
    subst (λ a. IsApart a (get_or (port_wires t) k d)) (sym (port_wire_at t j d first))
    (subst (IsApart (port_wire t (2 * tile_count t + j) (get_or t.places j no_place))) (sym (port_wire_at t k d last))
    (port_wires_apart t j k (get_or t.places j no_place) (get_or t.places k no_place) (λ (e : j ≡ k). absurd (omega arith)) (h.distinct j k no_place l last) (h.at_edges j no_place first) (h.at_edges k no_place last)))

beside : {X : Type 0} (P Q : X → Type 0) (R : X → X → Type 0) (xs ys : List X) → ((x y : X) → P x → Q y → R x y) → All P xs → All Q ys → All (λ x. All (R x) ys) xs
beside P Q R xs ys h p q i d l j e m = h _ _ (p i d l) (q j e m)

beside-append : {X : Type 0} (R : X → X → Type 0) (xs ys zs : List X) → All (λ x. All (R x) ys) xs → All (λ x. All (R x) zs) xs → All (λ x. All (R x) (ys ++ zs)) xs
beside-append R xs ys zs h g i d l = All-append (R (get_or xs i d)) ys zs (h i d l) (g i d l)

pub some_tiles : (t : Topology) → IsTopology t → 1 ≤ tile_count t
some_tiles t h = let size = h.size in grind arith

-- no two wires share an end
pub all_apart : (t : Topology) → IsTopology t → AllPairs IsApart (wires_of t)
unfolding wires_of
all_apart t h =
    let tiles = all_tile_wires t in
    let one = links_of t One in
    let two = links_of t Two in
    let ports = port_wires t in
    let of_tile = all_tiles t in
    let of_one = all_links t One h.size in
    let of_two = all_links t Two h.size in
    let of_port = all_ports t h.at_edges in
    AllPairs-append IsApart tiles (one ++ (two ++ ports)) (all_tiles_apart t (some_tiles t h))
    (AllPairs-append IsApart one (two ++ ports) (links_apart t One h.size)
    (AllPairs-append IsApart two ports (links_apart t Two h.size) (ports_apart t h) (beside (IsLink t Two) (IsPortWire t) IsApart two ports (link_port_apart t Two) of_two of_port))
    (beside-append IsApart one two ports (beside (IsLink t One) (IsLink t Two) IsApart one two (nets_apart t) of_one of_two) (beside (IsLink t One) (IsPortWire t) IsApart one ports (link_port_apart t One) of_one of_port)))
    (beside-append IsApart tiles one (two ++ ports) (beside (IsTileWire t) (IsLink t One) IsApart tiles one (tile_link_apart t One) of_tile of_one)
    (beside-append IsApart tiles two ports (beside (IsTileWire t) (IsLink t Two) IsApart tiles two (tile_link_apart t Two) of_tile of_two) (beside (IsTileWire t) (IsPortWire t) IsApart tiles ports (tile_port_apart t) of_tile of_port)))

-- a wire joins two processors, each at one of its ten ends
pub record IsSound (t : Topology) (a : Wire) : Type 0 where
  pub apart : a.from ≢ a.to
  pub from_few : a.from < proc_count t
  pub to_few : a.to < proc_count t
  pub output_few : a.output < 10
  pub input_few : a.input < 10

tile_ends : (t : Topology) (a : Wire) → 1 ≤ tile_count t → IsTileWire t a → a.from ≢ a.to
unfolding IsTileWire
tile_ends t a some h = let of = h.2 in let few = h.1 in grind arith

tile_sound : (t : Topology) (a : Wire) → 1 ≤ tile_count t → IsTileWire t a → IsSound t a
unfolding IsTileWire
tile_sound t a some h =
    let few = h.2.end_few in
    let one = h.2.one_index in
    record {
      apart = tile_ends t a some h;
      from_few = omega (arith, tile_from t a h);
      to_few = omega (arith, tile_to t a h);
      output_few = omega arith;
      input_few = few;
    }

link_sound : (t : Topology) (net : Net) (a : Wire) → IsLink t net a → IsSound t a
unfolding IsLink
link_sound t net a h =
    let of = h.3 in
    let next = of.is_next in
    let nets = net_few net in
    let back = side_few (opposite h.1) in
    let side = side_few h.1 in
    record {
      apart =
          λ e.
          let at = same_tile t.cols of.x of.y next.v next.w of.column next.column (omega (arith, of.from, of.to, of.is_tile, next.is)) in
          step_apart h.1 of.x of.y next.v next.w next.step at.0 at.1;
      from_few = omega (arith, link_from t net a h);
      to_few = omega (arith, link_to t net a h);
      output_few = omega (arith, of.output);
      input_few = omega (arith, of.input);
    }

port_sound_of : (t : Topology) (kind : PortKind) (place : PortPlace) (k : ℕ) → k < length t.places → IsAtEdge t place → IsSound t (port_wire_of kind place.net place.side (2 * tile_count t + k) (switch_number t (tile_number t place.x place.y)))
port_sound_of t Source place k l h =
    let tile = tile_below t place.x place.y h.column h.row in
    let nets = net_few place.net in
    let side = side_few place.side in
    record {
      apart = λ e. absurd (omega arith);
      from_few = omega arith;
      to_few = omega arith;
      output_few = omega (arith, p_end_at place.net);
      input_few = omega (arith, end_at place.net place.side);
    }
port_sound_of t Sink place k l h =
    let tile = tile_below t place.x place.y h.column h.row in
    let nets = net_few place.net in
    let side = side_few place.side in
    record {
      apart = λ e. absurd (omega arith);
      from_few = omega arith;
      to_few = omega arith;
      output_few = omega (arith, end_at place.net place.side);
      input_few = omega (arith, p_end_at place.net);
    }

port_sound : (t : Topology) (a : Wire) → IsPortWire t a → IsSound t a
unfolding IsPortWire
port_sound t a h = subst (IsSound t) (sym h.4) (port_sound_of t h.1.kind h.1 h.0 (slice_get_within t.places h.0 h.1 h.2) h.3)

-- what holds of each kind of wire holds of all
pub all_wires : (t : Topology) (Q : Wire → Type 0) → IsTopology t → ((a : Wire) → IsTileWire t a → Q a) → ((net : Net) (a : Wire) → IsLink t net a → Q a) → ((a : Wire) → IsPortWire t a → Q a) → All Q (wires_of t)
unfolding wires_of
all_wires t Q h tile one port =
    All-append Q (all_tile_wires t) (links_of t One ++ (links_of t Two ++ port_wires t)) (All-weaker (IsTileWire t) Q tile (all_tile_wires t) (all_tiles t))
    (All-append Q (links_of t One) (links_of t Two ++ port_wires t) (All-weaker (IsLink t One) Q (one One) (links_of t One) (all_links t One h.size))
    (All-append Q (links_of t Two) (port_wires t) (All-weaker (IsLink t Two) Q (one Two) (links_of t Two) (all_links t Two h.size))
    (All-weaker (IsPortWire t) Q port (port_wires t) (all_ports t h.at_edges))))

pub all_sound : (t : Topology) → IsTopology t → All (IsSound t) (wires_of t)
all_sound t h = all_wires t (IsSound t) h (λ a. tile_sound t a (some_tiles t h)) (link_sound t) (port_sound t)
