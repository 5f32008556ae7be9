-- Sides, networks and ends as numbers, and tiles by their columns and rows.
use Rattle.std.proofs.Common.{◌≡◌, ℕ, ◌+◌, ◌*◌, ◌/◌, ◌%◌, ◌<◌, ◌≤◌, refl, sym, ◌∙◌, ap, arith}
use Rattle.std.proofs.lemmas.Nat.{div-mul-add, mod-mul-add, div_below}
use Rattle.raw_grid.specs.declared.parts.Net.{Net}
use Rattle.raw_grid.specs.declared.parts.Net.TheVariants.{One, Two}
use Rattle.raw_grid.specs.declared.parts.Side.{Side}
use Rattle.raw_grid.specs.declared.parts.Side.TheVariants.{N, E, S, W}
use Rattle.raw_grid.specs.declared.parts.Dir.TheVariants.{P}
use Rattle.raw_grid.specs.declared.parts.PortKind.{PortKind}
use Rattle.raw_grid.specs.declared.parts.PortKind.TheVariants.{Source, Sink}
use Rattle.raw_grid.specs.declared.parts.PortPlace.{PortPlace}
use Rattle.raw_grid.specs.Ends.{end_index, side_dir}
use Rattle.raw_grid.specs.Names.{side_number, kind_number}

-- the place of a network in the order of ends
abbrev pub net_index : Net → ℕ
net_index One = 0
net_index Two = 1

pub side_few : (s : Side) → side_number s ≤ 3
side_few N = omega arith
side_few _ = omega arith

pub net_few : (net : Net) → net_index net ≤ 1
net_few One = omega arith
net_few Two = omega arith

pub kind_few : (kind : PortKind) → kind_number kind ≤ 1
kind_few Source = omega arith
kind_few Sink = omega arith

-- the index of the end at a side
pub end_at : (net : Net) (s : Side) → end_index net (side_dir s) ≡ 5 * net_index net + side_number s
end_at One N = refl
end_at One E = refl
end_at One S = refl
end_at One W = refl
end_at Two N = refl
end_at Two E = refl
end_at Two S = refl
end_at Two W = refl

-- a side, a network and a kind are known by their numbers
pub same_side : (s r : Side) → side_number s ≡ side_number r → s ≡ r
same_side N N e = refl
same_side E E e = refl
same_side S S e = refl
same_side W W e = refl
same_side N E e = absurd (omega arith)
same_side N S e = absurd (omega arith)
same_side N W e = absurd (omega arith)
same_side E N e = absurd (omega arith)
same_side E S e = absurd (omega arith)
same_side E W e = absurd (omega arith)
same_side S N e = absurd (omega arith)
same_side S E e = absurd (omega arith)
same_side S W e = absurd (omega arith)
same_side W N e = absurd (omega arith)
same_side W E e = absurd (omega arith)
same_side W S e = absurd (omega arith)

pub same_net : (m n : Net) → net_index m ≡ net_index n → m ≡ n
same_net One One e = refl
same_net Two Two e = refl
same_net One Two e = absurd (omega arith)
same_net Two One e = absurd (omega arith)

pub same_kind : (j k : PortKind) → kind_number j ≡ kind_number k → j ≡ k
same_kind Source Source e = refl
same_kind Sink Sink e = refl
same_kind Source Sink e = absurd (omega arith)
same_kind Sink Source e = absurd (omega arith)

pub same_place : (a b : PortPlace) → a.kind ≡ b.kind → a.net ≡ b.net → a.x ≡ b.x → a.y ≡ b.y → a.side ≡ b.side → a ≡ b
same_place a b kind net x y side = λ i. record { kind = kind i; net = net i; x = x i; y = y i; side = side i }

-- the column and the row of a tile are known by its number
pub same_tile : (c x y v w : ℕ) → x < c → v < c → y * c + x ≡ w * c + v → (x ≡ v) × (y ≡ w)
same_tile c x y v w h k e = (
  sym (mod-mul-add y c x h) ∙ ap (λ n. n % c) e ∙ mod-mul-add w c v k,
  sym (div-mul-add y c x h) ∙ ap (λ n. n / c) e ∙ div-mul-add w c v k,
)

-- a tile of a grid has a column and a row of the grid
pub tile_column : (c r tile : ℕ) → 0 < c → tile % c < c
tile_column c r tile h = omega arith

pub tile_row : (c r tile : ℕ) → 0 < c → tile < c * r → tile / c < r
tile_row c r tile h l = div_below tile c r h (omega arith)

-- the index of the end at the tile beside a switch
pub p_end_at : (net : Net) → end_index net P ≡ 5 * net_index net + 4
p_end_at One = refl
p_end_at Two = refl
