-- Tokens that are read two by two as tiles.
use Rattle.std.proofs.Common.{◌≡◌, ◌∙◌, ◌<◌, ◌≤◌, ◌+◌, ◌++◌, ◌∷◌, ℕ, suc, List, [], Option, Some, None, length, get_or, drop, refl, sym, ap, arith, append_assoc, drop-cons}
use Rattle.std.proofs.lemmas.List.{drop_all}
use Rattle.std.proofs.lemmas.Option.{none-some, same_Some}
use Rattle.raw_set_text.specs.Forms.{◌>>=◌}
use Rattle.raw_set_text.proofs.Lawful.Forms.{bind_inv}
use Rattle.raw_plan_text.specs.declared.tile.Tile.{Tile}
use Rattle.raw_plan_text.specs.Forms.{tile_of, tiles_of}

-- these tiles, and then others
abbrev pub and_then : List Tile → Option (List Tile) → Option (List Tile)
and_then done rest = rest >>= λ tiles. Some (done ++ tiles)

two_front : (tokens : List (List ℕ)) (k : ℕ) → k + 1 < length tokens → drop k tokens ≡ get_or tokens k [] ∷ get_or tokens (k + 1) [] ∷ drop (k + 2) tokens
two_front tokens k l =
    let one : suc k ≡ k + 1 = omega arith in
    let two : suc (k + 1) ≡ k + 2 = omega arith in
    drop-cons tokens k [] (omega arith) ∙ ap (λ n. get_or tokens k [] ∷ drop n tokens) one
    ∙ ap (λ rest. get_or tokens k [] ∷ rest) (drop-cons tokens (k + 1) [] l ∙ ap (λ n. get_or tokens (k + 1) [] ∷ drop n tokens) two)

one_front : (tokens : List (List ℕ)) (k : ℕ) → k + 1 ≡ length tokens → drop k tokens ≡ get_or tokens k [] ∷ []
one_front tokens k e =
    drop-cons tokens k [] (omega arith) ∙ ap (λ rest. get_or tokens k [] ∷ rest) (drop_all (suc k) tokens (omega arith))

-- a tile more
tile_then : (tile : Tile) (done : List Tile) (rest : Option (List Tile)) → and_then done (rest >>= λ tiles. Some (tile ∷ tiles)) ≡ and_then (done ++ tile ∷ []) rest
tile_then tile done None = refl
tile_then tile done (Some tiles) = ap Some (sym (append_assoc done (tile ∷ []) tiles))

module _ (tokens : List (List ℕ)) (k : ℕ) (done : List Tile) where
  pub tiles_next : (tile : Tile) → k + 1 < length tokens → tile_of (get_or tokens k []) (get_or tokens (k + 1) []) ≡ Some tile
      → and_then done (tiles_of (drop k tokens)) ≡ and_then (done ++ tile ∷ []) (tiles_of (drop (k + 2) tokens))
  tiles_next tile l e =
      ap (λ rest. and_then done (tiles_of rest)) (two_front tokens k l)
      ∙ ap (λ first. and_then done (first >>= λ x. tiles_of (drop (k + 2) tokens) >>= λ tiles. Some (x ∷ tiles))) e
      ∙ tile_then tile done (tiles_of (drop (k + 2) tokens))

  pub tiles_odd : k + 1 ≡ length tokens → and_then done (tiles_of (drop k tokens)) ≡ None
  tiles_odd e = ap (λ rest. and_then done (tiles_of rest)) (one_front tokens k e)

-- where there are tokens, there are tiles
pub some_tiles : (tokens : List (List ℕ)) (tiles : List Tile) → 0 < length tokens → tiles_of tokens ≡ Some tiles → 1 ≤ length tiles
some_tiles [] tiles l e = absurd (omega arith)
some_tiles (column ∷ []) tiles l e = absurd (none-some tiles e)
some_tiles (column ∷ row ∷ tokens) tiles l e =
    let a = bind_inv (tile_of column row) (λ x. tiles_of tokens >>= λ rest. Some (x ∷ rest)) tiles e in
    let b = bind_inv (tiles_of tokens) (λ rest. Some (a.0 ∷ rest)) tiles a.2 in
    omega (arith, ap length (same_Some (a.0 ∷ b.0) tiles b.2))
