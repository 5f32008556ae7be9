-- The tests of a port's place.
use Rattle.std.proofs.Common.{◌≡◌, ℕ, suc, Bool, true, false, not, ◌&&◌, eqb, ltb, List, [], ◌∷◌, Option, Some, None, refl, sym, ap, ◌∙◌, arith, eqb-true, eq-eqb}
use Rattle.std.specs.Prelude.{IsNone, is_some}
use Rattle.std.specs.List.{Contains, list_any}
use Rattle.std.proofs.lemmas.Bool.{false≢true, and_parts, and_from, ltb-true, lt-ltb}
use Rattle.std.proofs.lemmas.List.Folds.{list_any_at}
use Rattle.raw_grid.specs.declared.parts.Net.{Net}
use Rattle.raw_grid.specs.declared.parts.Net.TheVariants as net
use Rattle.raw_grid.specs.declared.parts.Side.{Side}
use Rattle.raw_grid.specs.declared.parts.Side.TheVariants as side
use Rattle.raw_grid.specs.declared.parts.PortKind.{PortKind}
use Rattle.raw_grid.specs.declared.parts.PortKind.TheVariants as kind
use Rattle.raw_grid.specs.declared.parts.PortPlace.{PortPlace}
use Rattle.raw_grid.specs.Names.{kind_number, net_number, side_number}
use Rattle.raw_grid.specs.Topology.{Topology, IsAtEdge, neighbour}
use Rattle.raw_image.specs.Reading.{is_at_edge, same_place}

kinds_equal : (a b : PortKind) → eqb (kind_number a) (kind_number b) ≡ true → a ≡ b
kinds_equal kind.Source kind.Source h = refl
kinds_equal kind.Sink kind.Sink h = refl
kinds_equal a b h = absurd (false≢true h)

nets_equal : (a b : Net) → eqb (net_number a) (net_number b) ≡ true → a ≡ b
nets_equal net.One net.One h = refl
nets_equal net.Two net.Two h = refl
nets_equal a b h = absurd (false≢true h)

sides_equal : (a b : Side) → eqb (side_number a) (side_number b) ≡ true → a ≡ b
sides_equal side.N side.N h = refl
sides_equal side.E side.E h = refl
sides_equal side.S side.S h = refl
sides_equal side.W side.W h = refl
sides_equal a b h = absurd (false≢true h)

-- places that pass the test are equal
pub places_equal : (a b : PortPlace) → same_place a b ≡ true → a ≡ b
places_equal a b h =
    let sides = and_parts _ (eqb (side_number a.side) (side_number b.side)) h in
    let rows = and_parts _ (eqb a.y b.y) sides.0 in
    let columns = and_parts _ (eqb a.x b.x) rows.0 in
    let nets = and_parts (eqb (kind_number a.kind) (kind_number b.kind)) (eqb (net_number a.net) (net_number b.net)) columns.0 in
    λ i. record {
      kind = kinds_equal a.kind b.kind nets.0 i;
      net = nets_equal a.net b.net nets.1 i;
      x = eqb-true a.x b.x columns.1 i;
      y = eqb-true a.y b.y rows.1 i;
      side = sides_equal a.side b.side sides.1 i;
    }

-- a place passes the test at itself
pub place_itself : (a : PortPlace) → same_place a a ≡ true
place_itself a =
    rw (eq-eqb (kind_number a.kind) (kind_number a.kind) refl, eq-eqb (net_number a.net) (net_number a.net) refl, eq-eqb a.x a.x refl, eq-eqb a.y a.y refl, eq-eqb (side_number a.side) (side_number a.side) refl) refl

-- a place is taken exactly where the test finds it
pub taken : (places : List PortPlace) (place : PortPlace) → Contains places place → list_any (same_place place) places ≡ true
taken places place (k, lt, e) = list_any_at (same_place place) places k place lt (ap (same_place place) e ∙ place_itself place)

pub found : (places : List PortPlace) (place : PortPlace) → list_any (same_place place) places ≡ true → Contains places place
found [] place h = absurd (false≢true h)
found (p ∷ ps) place h = by_test (same_place place p) refl h (found ps place)
  where
    by_test : (b : Bool) → same_place place p ≡ b → list_any (same_place place) (p ∷ ps) ≡ true → (list_any (same_place place) ps ≡ true → Contains ps place) → Contains (p ∷ ps) place
    by_test true e any later = (0, omega arith, sym (places_equal place p e))
    by_test false e any later = let rest = later (rw e at any) in (suc rest.0, omega (arith, rest.1), rest.2)

none_test : (o : Option ℕ) → not (is_some o) ≡ true → IsNone o
none_test None h = refl
none_test (Some n) h = absurd (false≢true h)

none_passes : (o : Option ℕ) → IsNone o → not (is_some o) ≡ true
none_passes None h = refl
none_passes (Some n) h = absurd (cc h)

pub at_edge : (topo : Topology) (place : PortPlace) → is_at_edge topo place ≡ true → IsAtEdge topo place
at_edge topo place h =
    let edge = and_parts (ltb place.x topo.cols && ltb place.y topo.rows) (not (is_some (neighbour topo place.x place.y place.side))) h in
    let inside = and_parts (ltb place.x topo.cols) (ltb place.y topo.rows) edge.0 in
    record { column = ltb-true _ _ inside.0; row = ltb-true _ _ inside.1; edge = none_test _ edge.1 }

pub edge_passes : (topo : Topology) (place : PortPlace) → IsAtEdge topo place → is_at_edge topo place ≡ true
edge_passes topo place h =
    and_from (ltb place.x topo.cols && ltb place.y topo.rows) (not (is_some (neighbour topo place.x place.y place.side)))
    (and_from (ltb place.x topo.cols) (ltb place.y topo.rows) (lt-ltb _ _ h.column) (lt-ltb _ _ h.row)) (none_passes _ h.edge)
