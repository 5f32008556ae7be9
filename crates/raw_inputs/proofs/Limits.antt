-- Programs are short enough, or not.
use Rattle.std.proofs.Common.{◌≡◌, ◌⊎◌, ◌<◌, ◌≤◌, Bool, true, false, List, [], ◌∷◌, length, sum_by, inl, inr, arith}
use Rattle.std.specs.List.{AllByRecursion}
use Rattle.std.proofs.lemmas.Bool.Decides.{leb_tells}
use Rattle.std.proofs.lemmas.List.Elements.{All-from_recursion, recursion_from_All}
use Rattle.raw_tile_isa.specs.declared.limits.TheConstants.{MAX_TILE_CODE}
use Rattle.raw_switch_isa.specs.declared.limits.TheConstants.{MAX_SWITCH_CODE}
use Rattle.raw_model.specs.declared.limits.TheConstants.{MAX_ALL_CODE, MAX_ALL_SWITCH_CODE}
use Rattle.raw_model.specs.Program.{TileProgram}
use Rattle.raw_codegen.specs.Limits.{IsShort, AreShort}

short_or_long : (tile : TileProgram) → IsShort tile ⊎ (IsShort tile → ⊥)
short_or_long tile = by (leb_tells (length tile.code) MAX_TILE_CODE) (leb_tells (length tile.switch) MAX_SWITCH_CODE)
  where
    by : {a b : Bool} → ((a ≡ true) × (length tile.code ≤ MAX_TILE_CODE)) ⊎ ((a ≡ false) × (MAX_TILE_CODE < length tile.code))
        → ((b ≡ true) × (length tile.switch ≤ MAX_SWITCH_CODE)) ⊎ ((b ≡ false) × (MAX_SWITCH_CODE < length tile.switch)) → IsShort tile ⊎ (IsShort tile → ⊥)
    by (inl x) (inl y) = inl (record { code = x.1; switch = y.1 })
    by (inl x) (inr y) = inr (λ short. absurd (omega (arith, short.switch, y.1)))
    by (inr x) y = inr (λ short. absurd (omega (arith, short.code, x.1)))

each_short_or_not : (tiles : List TileProgram) → AllByRecursion IsShort tiles ⊎ (AllByRecursion IsShort tiles → ⊥)
each_short_or_not [] = inl tt
each_short_or_not (tile ∷ tiles) = by (short_or_long tile) (each_short_or_not tiles)
  where
    by : IsShort tile ⊎ (IsShort tile → ⊥) → AllByRecursion IsShort tiles ⊎ (AllByRecursion IsShort tiles → ⊥)
        → AllByRecursion IsShort (tile ∷ tiles) ⊎ (AllByRecursion IsShort (tile ∷ tiles) → ⊥)
    by (inl x) (inl y) = inl (x, y)
    by (inl x) (inr y) = inr (λ all. y all.1)
    by (inr x) y = inr (λ all. x all.0)

pub are_short_or_long : (tiles : List TileProgram) → AreShort tiles ⊎ (AreShort tiles → ⊥)
are_short_or_long tiles =
    by (each_short_or_not tiles) (leb_tells (sum_by (λ (tile : TileProgram). length tile.code) tiles) MAX_ALL_CODE)
    (leb_tells (sum_by (λ (tile : TileProgram). length tile.switch) tiles) MAX_ALL_SWITCH_CODE)
  where
    by : {a b : Bool} → AllByRecursion IsShort tiles ⊎ (AllByRecursion IsShort tiles → ⊥)
        → ((a ≡ true) × (sum_by (λ (tile : TileProgram). length tile.code) tiles ≤ MAX_ALL_CODE)) ⊎ ((a ≡ false) × (MAX_ALL_CODE < sum_by (λ (tile : TileProgram). length tile.code) tiles))
        → ((b ≡ true) × (sum_by (λ (tile : TileProgram). length tile.switch) tiles ≤ MAX_ALL_SWITCH_CODE)) ⊎ ((b ≡ false) × (MAX_ALL_SWITCH_CODE < sum_by (λ (tile : TileProgram). length tile.switch) tiles))
        → AreShort tiles ⊎ (AreShort tiles → ⊥)
    by (inl x) (inl y) (inl z) = inl (record { each = All-from_recursion IsShort tiles x; all_code = y.1; all_switch = z.1 })
    by (inl x) (inl y) (inr z) = inr (λ short. absurd (omega (arith, short.all_switch, z.1)))
    by (inl x) (inr y) z = inr (λ short. absurd (omega (arith, short.all_code, y.1)))
    by (inr x) y z = inr (λ short. x (recursion_from_All IsShort tiles short.each))
