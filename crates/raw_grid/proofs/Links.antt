-- What is known of a wire by the part of the list in which it stands.
use Rattle.std.proofs.Common.{◌≡◌, ℕ, ◌+◌, ◌-◌, ◌*◌, ◌/◌, ◌%◌, ◌<◌, ◌≤◌, Bool, true, false, cond, ltb, Option, Some, None, refl, sym, ◌∙◌, ap, arith}
use Rattle.std.specs.Prelude.{All, option_map}
use Rattle.std.proofs.lemmas.Bool.{ltb-true}
use Rattle.std.proofs.lemmas.Nat.{div-add-mod'}
use Rattle.std.proofs.lemmas.List.Elements.{All-from_recursion}
use Rattle.raw_grid.specs.declared.parts.Net.{Net}
use Rattle.raw_grid.specs.declared.parts.Side.{Side}
use Rattle.raw_grid.specs.declared.parts.Side.TheVariants.{N, E, S, W}
use Rattle.raw_grid.specs.Ends.{opposite}
use Rattle.raw_grid.specs.Topology.{Topology, tile_count, tile_number, switch_number, neighbour, IsSize}
use Rattle.raw_grid.specs.Wires.{Wire, tile_wires, link}
use Rattle.raw_grid.proofs.Edges.{IsLast}
use Rattle.raw_grid.specs.Names.{side_number}
use Rattle.raw_grid.proofs.Numbers.{net_index, end_at, same_side, tile_column, tile_row}

-- a wire between a tile and its switch, to the tile where `back` is 0 and else from it
pub record OfTile (n tile : ℕ) (w : Wire) : Type 0 where
  pub back : ℕ
  pub few : back ≤ 1
  pub to_tile : back ≡ 0 → w.to ≡ tile
  pub from_switch : back ≡ 0 → w.from ≡ n + tile
  pub to_switch : back ≡ 1 → w.to ≡ n + tile
  pub from_tile : back ≡ 1 → w.from ≡ tile
  pub one_index : w.input ≡ w.output
  pub direction : w.input % 5 ≡ 4
  pub end_few : w.input < 10

pub all_of_tile : (t : Topology) (tile : ℕ) → All (OfTile (tile_count t) tile) (tile_wires t tile)
all_of_tile t tile =
    All-from_recursion (OfTile (tile_count t) tile) (tile_wires t tile) (to 4 refl (omega arith), (to 9 refl (omega arith), (from 4 refl (omega arith), (from 9 refl (omega arith), tt))))
  where
    to : (i : ℕ) → i % 5 ≡ 4 → i < 10 → OfTile (tile_count t) tile (record { from = switch_number t tile; output = i; to = tile; input = i })
    to i p few = record {
      back = 0;
      few = omega arith;
      to_tile = λ e. refl;
      from_switch = λ e. refl;
      to_switch = λ (e : 0 ≡ 1). absurd (omega arith);
      from_tile = λ (e : 0 ≡ 1). absurd (omega arith);
      one_index = refl;
      direction = p;
      end_few = few;
    }

    from : (i : ℕ) → i % 5 ≡ 4 → i < 10 → OfTile (tile_count t) tile (record { from = tile; output = i; to = switch_number t tile; input = i })
    from i p few = record {
      back = 1;
      few = omega arith;
      to_tile = λ (e : 1 ≡ 0). absurd (omega arith);
      from_switch = λ (e : 1 ≡ 0). absurd (omega arith);
      to_switch = λ e. refl;
      from_tile = λ e. refl;
      one_index = refl;
      direction = p;
      end_few = few;
    }

-- a step to the neighbour at a side
abbrev pub IsStep : Side → ℕ → ℕ → ℕ → ℕ → Type 0
IsStep N x y v w = (v ≡ x) × (w + 1 ≡ y)
IsStep E x y v w = (v ≡ x + 1) × (w ≡ y)
IsStep S x y v w = (v ≡ x) × (w ≡ y + 1)
IsStep W x y v w = (v + 1 ≡ x) × (w ≡ y)

-- steps to one tile at one side come from one tile
pub step_back : (s : Side) (x y v w a b : ℕ) → IsStep s x y a b → IsStep s v w a b → (x ≡ v) × (y ≡ w)
step_back N x y v w a b h k = (omega arith, omega arith)
step_back _ x y v w a b h k = (omega arith, omega arith)

-- there is no step across an edge
pub step_out : (s : Side) (cols rows x y v w : ℕ) → IsStep s x y v w → v < cols → w < rows → IsLast s cols rows x y → ⊥
step_out N cols rows x y v w h a b k = absurd (omega arith)
step_out _ cols rows x y v w h a b k = absurd (omega arith)

-- no step comes from across an edge
pub step_in : (s : Side) (cols rows x y v w : ℕ) → IsStep s x y v w → x < cols → y < rows → IsLast (opposite s) cols rows v w → ⊥
step_in N cols rows x y v w h a b k = absurd (omega arith)
step_in _ cols rows x y v w h a b k = absurd (omega arith)

-- a step leads to another tile
pub step_apart : (s : Side) (x y v w : ℕ) → IsStep s x y v w → x ≡ v → y ≡ w → ⊥
step_apart N x y v w h a b = absurd (omega arith)
step_apart _ x y v w h a b = absurd (omega arith)

-- the neighbour at a side, where there is one, is a step away and on the grid
pub record IsNext (t : Topology) (s : Side) (x y next : ℕ) : Type 0 where
  pub v : ℕ
  pub w : ℕ
  pub is : next ≡ tile_number t v w
  pub step : IsStep s x y v w
  pub column : v < t.cols
  pub row : w < t.rows

some_if : {A : Type 0} (b : Bool) (a c : A) → cond b (Some a) None ≡ Some c → (b ≡ true) × (c ≡ a)
some_if true a c e = (refl, cc)
some_if false a c e = cc

pub next_from : (t : Topology) (s : Side) (x y next : ℕ) → x < t.cols → y < t.rows → neighbour t x y s ≡ Some next → IsNext t s x y next
next_from t N x y next h k e =
    let found = some_if (ltb 0 y) (tile_number t x (y - 1)) next e in
    let some = ltb-true 0 y found.0 in
    record { v = x; w = y - 1; is = found.1; step = (refl, omega arith); column = h; row = omega arith }
next_from t E x y next h k e =
    let found = some_if (ltb (x + 1) t.cols) (tile_number t (x + 1) y) next e in
    let some = ltb-true (x + 1) t.cols found.0 in
    record { v = x + 1; w = y; is = found.1; step = (refl, refl); column = some; row = k }
next_from t S x y next h k e =
    let found = some_if (ltb (y + 1) t.rows) (tile_number t x (y + 1)) next e in
    let some = ltb-true (y + 1) t.rows found.0 in
    record { v = x; w = y + 1; is = found.1; step = (refl, refl); column = h; row = some }
next_from t W x y next h k e =
    let found = some_if (ltb 0 x) (tile_number t (x - 1) y) next e in
    let some = ltb-true 0 x found.0 in
    record { v = x - 1; w = y; is = found.1; step = (omega arith, refl); column = omega arith; row = k }

-- a link from a tile's switch at a side
pub record OfLink (t : Topology) (net : Net) (tile : ℕ) (s : Side) (w : Wire) : Type 0 where
  pub x : ℕ
  pub y : ℕ
  pub is_tile : y * t.cols + x ≡ tile
  pub column : x < t.cols
  pub row : y < t.rows
  pub next : ℕ
  pub is_next : IsNext t s x y next
  pub from : w.from ≡ switch_number t tile
  pub output : w.output ≡ 5 * net_index net + side_number s
  pub to : w.to ≡ switch_number t next
  pub input : w.input ≡ 5 * net_index net + side_number (opposite s)

mapped : {A B : Type 0} (f : A → B) (o : Option A) (b : B) → option_map f o ≡ Some b → (a : A) × (o ≡ Some a) × (b ≡ f a)
mapped f None b e = cc
mapped f (Some a) b e = (a, refl, cc)

pub of_link : (t : Topology) (net : Net) (tile : ℕ) (s : Side) (w : Wire) → IsSize t.cols t.rows → tile < tile_count t → link t net tile s ≡ Some w → OfLink t net tile s w
of_link t net tile s w size l e =
    let found = mapped _ (neighbour t (tile % t.cols) (tile / t.cols) s) w e in
    let column = tile_column t.cols t.rows tile (omega arith) in
    let row = tile_row t.cols t.rows tile (omega arith) l in
    record {
      x = tile % t.cols;
      y = tile / t.cols;
      is_tile = div-add-mod' tile t.cols;
      column = column;
      row = row;
      next = found.0;
      is_next = next_from t s (tile % t.cols) (tile / t.cols) found.0 column row found.1;
      from = ap (λ (u : Wire). u.from) found.2;
      output = ap (λ (u : Wire). u.output) found.2 ∙ end_at net s;
      to = ap (λ (u : Wire). u.to) found.2;
      input = ap (λ (u : Wire). u.input) found.2 ∙ end_at net (opposite s);
    }

-- opposite sides are known by their numbers too
pub same_opposite : (s r : Side) → side_number (opposite s) ≡ side_number (opposite r) → s ≡ r
same_opposite s r e = sym (twice s) ∙ ap opposite (same_side (opposite s) (opposite r) e) ∙ twice r
  where
    twice : (q : Side) → opposite (opposite q) ≡ q
    twice N = refl
    twice E = refl
    twice S = refl
    twice W = refl
