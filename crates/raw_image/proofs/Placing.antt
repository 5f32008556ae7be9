-- The place of a port that was read, and whether it may stand there.
use Rattle.std.proofs.Common.{◌≡◌, ℕ, Bool, true, false, List, Ok, Err, Some, refl, ◌∙◌}
use Rattle.std.specs.List.{Contains, list_any}
use Rattle.raw_grid.specs.declared.parts.Net.{Net}
use Rattle.raw_grid.specs.declared.parts.Side.{Side}
use Rattle.raw_grid.specs.declared.parts.PortKind.{PortKind}
use Rattle.raw_grid.specs.declared.parts.PortPlace.{PortPlace}
use Rattle.raw_grid.specs.Names.{kind_with, net_with, side_with}
use Rattle.raw_grid.specs.Topology.{Topology, IsAtEdge}
use Rattle.raw_image.specs.declared.kind.ImageKind.TheVariants.{BadField}
use Rattle.raw_image.specs.declared.refused.Fault.{Fault}
use Rattle.raw_image.specs.Fields.{byte_at, fault_at}
use Rattle.raw_image.specs.Reading.{is_at_edge, same_place, placed, place_at}
use Rattle.raw_image.proofs.Places.{at_edge, edge_passes, taken, found}

-- a place that was read
place_read : (topo : Topology) (bytes a b c d e : List ℕ) (kind : PortKind) (net : Net) (x y : ℕ) (side : Side) → byte_at kind_with bytes ≡ Ok (kind, a) → byte_at net_with a ≡ Ok (net, b) → byte_at Some b ≡ Ok (x, c) → byte_at Some c ≡ Ok (y, d) → byte_at side_with d ≡ Ok (side, e)
    → place_at topo bytes ≡ placed topo (record { kind = kind; net = net; x = x; y = y; side = side }) (fault_at BadField b) (fault_at BadField d) e
unfolding place_at
place_read topo bytes a b c d e kind net x y side p q r s t = rw (p, q, r, s, t) refl

may_stand : (topo : Topology) (place : PortPlace) (off double : Fault) (rest : List ℕ) → ((IsAtEdge topo place → ⊥) → ⊥) → (IsAtEdge topo place → Contains topo.places place → ⊥) → placed topo place off double rest ≡ Ok (place, rest)
may_stand topo place off double rest on free = by_tests (is_at_edge topo place) (list_any (same_place place) topo.places) refl refl
  where
    by_tests : (b t : Bool) → is_at_edge topo place ≡ b → list_any (same_place place) topo.places ≡ t → placed topo place off double rest ≡ Ok (place, rest)
    by_tests true false h f = rw (h, f) refl
    by_tests true true h f = absurd (free (at_edge topo place h) (found topo.places place f))
    by_tests false t h f = absurd (on (λ at. absurd (cc (h, edge_passes topo place at))))

pub place_free : (topo : Topology) (bytes a b c d e : List ℕ) (kind : PortKind) (net : Net) (x y : ℕ) (side : Side) → byte_at kind_with bytes ≡ Ok (kind, a) → byte_at net_with a ≡ Ok (net, b) → byte_at Some b ≡ Ok (x, c) → byte_at Some c ≡ Ok (y, d) → byte_at side_with d ≡ Ok (side, e)
    → let place : PortPlace = record { kind = kind; net = net; x = x; y = y; side = side } in ((IsAtEdge topo place → ⊥) → ⊥) → (IsAtEdge topo place → Contains topo.places place → ⊥) → place_at topo bytes ≡ Ok (place, e)
place_free topo bytes a b c d e kind net x y side p q r s t on free =
    place_read topo bytes a b c d e kind net x y side p q r s t ∙ may_stand topo (record { kind = kind; net = net; x = x; y = y; side = side }) (fault_at BadField b) (fault_at BadField d) e on free

pub place_taken : (topo : Topology) (bytes a b c d e : List ℕ) (kind : PortKind) (net : Net) (x y : ℕ) (side : Side) → byte_at kind_with bytes ≡ Ok (kind, a) → byte_at net_with a ≡ Ok (net, b) → byte_at Some b ≡ Ok (x, c) → byte_at Some c ≡ Ok (y, d) → byte_at side_with d ≡ Ok (side, e)
    → let place : PortPlace = record { kind = kind; net = net; x = x; y = y; side = side } in IsAtEdge topo place → Contains topo.places place → place_at topo bytes ≡ Err (fault_at BadField d)
place_taken topo bytes a b c d e kind net x y side p q r s t at has =
    let place : PortPlace = record { kind = kind; net = net; x = x; y = y; side = side } in
    let edge = edge_passes topo place at in
    let there = taken topo.places place has in
    place_read topo bytes a b c d e kind net x y side p q r s t ∙ rw (edge, there) refl
