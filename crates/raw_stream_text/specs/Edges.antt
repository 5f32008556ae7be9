-- Edges of a grid, each once, by the order in which they are first named.
use Rattle.std.specs.Prelude.{ℕ, Bool, ◌&&◌, nat_eq, List, [], ◌∷◌, ◌++◌, map, Option, unwrap_or, if◌then◌else◌}
use Rattle.std.specs.Option.{is_some}
use Rattle.std.specs.List.{position}
use Rattle.raw_grid.specs.declared.parts.PortKind.{PortKind}
use Rattle.raw_grid.specs.declared.parts.PortPlace.{PortPlace}
use Rattle.raw_grid.specs.Names.{net_number, side_number}
use Rattle.raw_set_text.specs.declared.declaration.Edge.{Edge}
use Rattle.raw_set_text.specs.Entry.{place_of}

-- four numbers that tell an edge from others
abbrev pub Key : Type 0
Key = ℕ × ℕ × ℕ × ℕ

abbrev pub key_of : Edge → Key
key_of edge = (net_number edge.net, edge.tile.x, edge.tile.y, side_number edge.side)

abbrev pub same_key : Key → Key → Bool
same_key x y = ((nat_eq x.0 y.0 && nat_eq x.1 y.1) && nat_eq x.2 y.2) && nat_eq x.3 y.3

-- two edges are the same
abbrev pub same_edge : Edge → Edge → Bool
same_edge a b = same_key (key_of a) (key_of b)

-- the number of an edge among these, where it is one of them
abbrev pub edge_number : List Edge → Edge → Option ℕ
edge_number edges edge = position (λ other. same_edge other edge) edges

-- the number of an edge among these, or 0 where it is none of them
abbrev pub port_number : List Edge → Edge → ℕ
port_number edges edge = unwrap_or (edge_number edges edge) 0

-- edges with this one, which is a new one where it is none of them
abbrev pub with_edge : List Edge → Edge → List Edge
with_edge edges edge = if is_some (edge_number edges edge) then edges else edges ++ edge ∷ []

-- edges, each once, in the order in which they first come, behind those that came before
abbrev pub each_once : List Edge → List Edge → List Edge
each_once before [] = before
each_once before (edge ∷ edges) = each_once (with_edge before edge) edges

-- the places of ports of this kind at edges
abbrev pub places_of : PortKind → List Edge → List PortPlace
places_of kind edges = map (place_of kind) edges
