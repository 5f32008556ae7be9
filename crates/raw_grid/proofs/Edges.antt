-- Places at the edge: where they stand, and how many there can be.
use Rattle.std.proofs.Common.{◌≡◌, ◌≢◌, ℕ, ◌+◌, ◌*◌, ◌<◌, ◌≤◌, Bool, true, false, cond, length, map, eqb, ltb, Some, None, refl, sym, ◌∙◌, arith}
use Rattle.std.specs.Prelude.{IsNone, All, AllPairs}
use Rattle.std.specs.List.{list_any}
use Rattle.std.proofs.lemmas.Bool.{eqb-true, ltb-false}
use Rattle.std.proofs.lemmas.Bool.Decides.{Decides-eqb}
use Rattle.std.proofs.lemmas.List.{get_or-map, length-map}
use Rattle.std.proofs.lemmas.List.Elements.{All-map}
use Rattle.std.proofs.lemmas.List.Folds.{Any-from_list_any}
use Rattle.std.proofs.lemmas.Map.Made.{IsDistinct-from_AllPairs}
use Rattle.std.proofs.lemmas.Map.Steps.{length-le_from_distinct_below}
use Rattle.raw_grid.specs.declared.limits.TheConstants.{MAX_PORTS}
use Rattle.raw_grid.specs.declared.parts.Net.TheVariants.{One}
use Rattle.raw_grid.specs.declared.parts.Side.{Side}
use Rattle.raw_grid.specs.declared.parts.Side.TheVariants.{N, E, S, W}
use Rattle.raw_grid.specs.declared.parts.PortKind.TheVariants.{Source}
use Rattle.raw_grid.specs.declared.parts.PortPlace.{PortPlace}
use Rattle.raw_grid.specs.Topology.{Topology, neighbour, IsAtEdge, IsTopology}
use Rattle.raw_grid.specs.Names.{kind_number}
use Rattle.raw_grid.proofs.Numbers.{net_index, net_few, kind_few, same_net, same_kind, same_place}

none_if : {A : Type 0} (b : Bool) (x : A) → IsNone (cond b (Some x) None) → b ≡ false
none_if true x h = cc
none_if false x h = refl

-- the row or the column in which the tiles at a side lie
abbrev pub IsLast : Side → ℕ → ℕ → ℕ → ℕ → Type 0
IsLast N cols rows x y = y ≡ 0
IsLast E cols rows x y = cols ≤ x + 1
IsLast S cols rows x y = rows ≤ y + 1
IsLast W cols rows x y = x ≡ 0

pub last_from : (t : Topology) (x y : ℕ) (s : Side) → IsNone (neighbour t x y s) → IsLast s t.cols t.rows x y
last_from t x y N h = let e = ltb-false 0 y (none_if (ltb 0 y) _ h) in omega arith
last_from t x y E h = ltb-false (x + 1) t.cols (none_if (ltb (x + 1) t.cols) _ h)
last_from t x y S h = ltb-false (y + 1) t.rows (none_if (ltb (y + 1) t.rows) _ h)
last_from t x y W h = let e = ltb-false 0 x (none_if (ltb 0 x) _ h) in omega arith

-- the number of an edge among those of a grid: in the north from west to east, so in the south, and in the east and in the west from north to south
abbrev edge_number : Side → ℕ → ℕ → ℕ → ℕ → ℕ
edge_number N cols rows x y = x
edge_number S cols rows x y = cols + x
edge_number E cols rows x y = 2 * cols + y
edge_number W cols rows x y = 2 * cols + rows + y

-- the number of a place among those at the edges of a grid, four at each
abbrev place_number : ℕ → ℕ → PortPlace → ℕ
place_number cols rows p = kind_number p.kind + 2 * (net_index p.net + 2 * edge_number p.side cols rows p.x p.y)

edge_few : (cols rows : ℕ) (s : Side) (x y : ℕ) → x < cols → y < rows → edge_number s cols rows x y < 2 * (cols + rows)
edge_few cols rows N x y h k = omega arith
edge_few cols rows _ x y h k = omega arith

place_few : (t : Topology) (p : PortPlace) → IsAtEdge t p → place_number t.cols t.rows p < 8 * (t.cols + t.rows)
place_few t p h =
    let kind = kind_few p.kind in
    let net = net_few p.net in
    let edge = edge_few t.cols t.rows p.side p.x p.y h.column h.row in
    omega arith

same_edge : (cols rows : ℕ) (s r : Side) (x y v w : ℕ) → x < cols → y < rows → v < cols → w < rows → IsLast s cols rows x y → IsLast r cols rows v w → edge_number s cols rows x y ≡ edge_number r cols rows v w → (s ≡ r) × (x ≡ v) × (y ≡ w)
same_edge cols rows N N x y v w a b c d h k e = (refl, e, omega arith)
same_edge cols rows E E x y v w a b c d h k e = (refl, omega arith, omega arith)
same_edge cols rows S S x y v w a b c d h k e = (refl, omega arith, omega arith)
same_edge cols rows W W x y v w a b c d h k e = (refl, omega arith, omega arith)
same_edge cols rows N E x y v w a b c d h k e = absurd (omega arith)
same_edge cols rows N S x y v w a b c d h k e = absurd (omega arith)
same_edge cols rows N W x y v w a b c d h k e = absurd (omega arith)
same_edge cols rows E N x y v w a b c d h k e = absurd (omega arith)
same_edge cols rows E S x y v w a b c d h k e = absurd (omega arith)
same_edge cols rows E W x y v w a b c d h k e = absurd (omega arith)
same_edge cols rows S N x y v w a b c d h k e = absurd (omega arith)
same_edge cols rows S E x y v w a b c d h k e = absurd (omega arith)
same_edge cols rows S W x y v w a b c d h k e = absurd (omega arith)
same_edge cols rows W N x y v w a b c d h k e = absurd (omega arith)
same_edge cols rows W E x y v w a b c d h k e = absurd (omega arith)
same_edge cols rows W S x y v w a b c d h k e = absurd (omega arith)

place_from : (t : Topology) (p q : PortPlace) → IsAtEdge t p → IsAtEdge t q → place_number t.cols t.rows p ≡ place_number t.cols t.rows q → p ≡ q
place_from t p q h k e =
    let p_kind = kind_few p.kind in
    let q_kind = kind_few q.kind in
    let p_net = net_few p.net in
    let q_net = net_few q.net in
    let kind : kind_number p.kind ≡ kind_number q.kind = omega arith in
    let net : net_index p.net ≡ net_index q.net = omega arith in
    let edge : edge_number p.side t.cols t.rows p.x p.y ≡ edge_number q.side t.cols t.rows q.x q.y = omega arith in
    let last = last_from t p.x p.y p.side h.edge in
    let end = last_from t q.x q.y q.side k.edge in
    let at = same_edge t.cols t.rows p.side q.side p.x p.y q.x q.y h.column h.row k.column k.row last end edge in
    same_place p q (same_kind p.kind q.kind kind) (same_net p.net q.net net) at.1 at.2 at.0

-- stands for a place where a list has none
abbrev pub no_place : PortPlace
no_place = record { kind = Source; net = One; x = 0; y = 0; side = N }

numbers_apart : (t : Topology) → IsTopology t → AllPairs (λ a b. a ≢ b) (map (place_number t.cols t.rows) t.places)
numbers_apart t h i j d l m e =
    let few = length-map t.places (place_number t.cols t.rows) in
    let last : j < length t.places = omega arith in
    let first : i < length t.places = omega arith in
    let one = get_or-map (place_number t.cols t.rows) t.places i no_place d first in
    let other = get_or-map (place_number t.cols t.rows) t.places j no_place d last in
    h.distinct i j no_place l last
    (place_from t _ _ (h.at_edges i no_place first) (h.at_edges j no_place last) (sym one ∙ e ∙ other))

numbers_few : (t : Topology) → IsTopology t → All (λ n. n < 8 * (t.cols + t.rows)) (map (place_number t.cols t.rows) t.places)
numbers_few t h = All-map (λ n. n < 8 * (t.cols + t.rows)) (place_number t.cols t.rows) t.places (λ k d l. place_few t _ (h.at_edges k d l))

-- a grid has at most four ports at each edge
pub ports_at_edges : (t : Topology) → IsTopology t → length t.places ≤ 8 * (t.cols + t.rows)
ports_at_edges t h =
    let numbers = map (place_number t.cols t.rows) t.places in
    let few = length-le_from_distinct_below numbers (8 * (t.cols + t.rows)) (IsDistinct-from_AllPairs Decides-eqb numbers (numbers_apart t h)) below in
    let same = length-map t.places (place_number t.cols t.rows) in
    omega arith
  where
    below : (q : ℕ) → list_any (eqb q) (map (place_number t.cols t.rows) t.places) ≡ true → q < 8 * (t.cols + t.rows)
    below q e =
        let found = Any-from_list_any (eqb q) (map (place_number t.cols t.rows) t.places) e in
        let is = eqb-true q found.1 found.4 in
        let small = numbers_few t h found.0 found.1 found.2 in
        omega (arith, found.3)

-- a grid has at most 128 ports
pub ports_few : (t : Topology) → IsTopology t → length t.places ≤ MAX_PORTS
ports_few t h =
    let few = ports_at_edges t h in
    let columns = h.size.most_cols in
    let rows = h.size.most_rows in
    omega arith
