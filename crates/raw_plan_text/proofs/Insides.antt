-- Tiles of a grid by their numbers, and hauls between them.
use Rattle.std.proofs.Common.{◌≡◌, ◌∙◌, ◌<◌, ◌≤◌, ◌+◌, ◌*◌, ◌++◌, ◌∷◌, ℕ, suc, true, false, eqb, ltb, List, [], None, length, get_or, drop, drop-cons, map, refl, ap, arith}
use Rattle.std.proofs.Math.Nat.{mul-le-mul, mul-le-mul_left}
use Rattle.std.specs.List.{list_all}
use Rattle.std.proofs.lemmas.Bool.{and_parts, ltb-true, lt-ltb, ne_eqb}
use Rattle.std.proofs.lemmas.List.{length-map}
use Rattle.raw_grid.specs.Topology.{Topology, tile_count}
use Rattle.raw_route.specs.Hauls.{Haulage}
use Rattle.raw_route.specs.Refusals.{has_twice, fault_of, placed, first_fault}
use Rattle.raw_route.proofs.Faultless.{placed_none}
use Rattle.raw_plan_text.specs.declared.tile.Tile.{Tile}
use Rattle.raw_plan_text.specs.Forms.{Sent}
use Rattle.raw_plan_text.specs.Faults.{is_inside, number_in, targets_in}
use Rattle.raw_plan_text.specs.Meaning.{haul_of}

module _ (grid : Topology) where
  pub number_within : (tile : Tile) → is_inside grid tile ≡ true → number_in grid tile < tile_count grid
  number_within tile h =
      let p = and_parts (ltb tile.x grid.cols) (ltb tile.y grid.rows) h in
      let column = ltb-true tile.x grid.cols p.0 in
      let row = ltb-true tile.y grid.rows p.1 in
      let above : tile.y + 1 ≤ grid.rows = omega (arith, row) in
      let most = mul-le-mul_left grid.cols above in
      omega (arith, column, most)

  pub number_few : (tile : Tile) → is_inside grid tile ≡ true → grid.cols < 256 → grid.rows < 256 → number_in grid tile < 65536
  number_few tile h few_cols few_rows =
      let below = number_within tile h in
      let most : tile_count grid ≤ 255 * 255 = mul-le-mul {n₁ = grid.cols} {m₁ = grid.rows} {n₂ = 255} {m₂ = 255} (omega arith) (omega arith) in
      omega (arith, below, most)

  pub numbers_within : (tiles : List Tile) → list_all (is_inside grid) tiles ≡ true
      → list_all (λ t. ltb t (tile_count grid)) (map (number_in grid) tiles) ≡ true
  numbers_within [] h = refl
  numbers_within (tile ∷ tiles) h =
      let p = and_parts (is_inside grid tile) (list_all (is_inside grid) tiles) h in
      rw (lt-ltb (number_in grid tile) (tile_count grid) (number_within tile p.0), numbers_within tiles p.1) refl

  -- a word that is sent between tiles of the grid, to one at least and to none twice
  pub haul_faultless : (sent : Sent) → is_inside grid sent.from ≡ true → list_all (is_inside grid) sent.to ≡ true
      → 1 ≤ length sent.to → has_twice (targets_in grid sent) ≡ false → fault_of (tile_count grid) (haul_of grid sent) ≡ None
  haul_faultless sent from to some once =
      let first = lt-ltb (number_in grid sent.from) (tile_count grid) (number_within sent.from from) in
      let all = numbers_within sent.to to in
      let many : eqb (length (targets_in grid sent)) 0 ≡ false = ne_eqb _ 0 (λ none. omega (arith, length-map sent.to (number_in grid), none, some)) in
      rw (first, all, many, once) refl

-- a haul without a fault behind others
pub faultless_push : (tiles place : ℕ) (hauls : List Haulage) (haul : Haulage) → first_fault tiles place hauls ≡ None → fault_of tiles haul ≡ None → first_fault tiles place (hauls ++ haul ∷ []) ≡ None
faultless_push tiles place [] haul before e = ap (λ o. placed place o None) e
faultless_push tiles place (first ∷ hauls) haul before e =
    let p = placed_none place (fault_of tiles first) (first_fault tiles (place + 1) hauls) before in
    ap (λ o. placed place o (first_fault tiles (place + 1) (hauls ++ haul ∷ []))) p.0 ∙ faultless_push tiles (place + 1) hauls haul p.1 e

-- the number of a tile, before those of the tiles behind it
pub number_first : (f : Tile → ℕ) (tiles : List Tile) (i : ℕ) (d : Tile) → i < length tiles → map f (drop i tiles) ≡ f (get_or tiles i d) ∷ map f (drop (i + 1) tiles)
number_first f tiles i d l = let next : suc i ≡ i + 1 = omega arith in ap (map f) (drop-cons tiles i d l ∙ ap (λ n. get_or tiles i d ∷ drop n tiles) next)
