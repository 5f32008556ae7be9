-- Counting the instructions of programs, one tile after another.
use Rattle.std.proofs.Common.{◌≡◌, ◌↔◌, ℕ, ◌+◌, ◌<◌, ◌≤◌, List, [], ◌∷◌, length, drop, get_or, sym, subst, ap, ◌∙◌, arith, sum_by, add-one, drop-cons}
use Rattle.std.proofs.lemmas.List.{drop_all}
use Rattle.std.specs.List.{All}
use Rattle.std.proofs.lemmas.List.Elements.{All-nil, All-cons, All-tail}
use Rattle.std.proofs.lemmas.List.Sums.{sum_by-cons}
use Rattle.raw_model.specs.declared.limits.TheConstants.{MAX_ALL_CODE, MAX_ALL_SWITCH_CODE}
use Rattle.raw_model.specs.Program.{TileProgram}
use Rattle.raw_codegen.specs.Limits.{IsShort, AreShort}

-- these are short, and with so many instructions before them all together are
pub record AreShortBehind (code switch : ℕ) (tiles : List TileProgram) : Type 0 where
  pub each : All IsShort tiles
  pub all_code : code + sum_by (λ (tile : TileProgram). length tile.code) tiles ≤ MAX_ALL_CODE
  pub all_switch : switch + sum_by (λ (tile : TileProgram). length tile.switch) tiles ≤ MAX_ALL_SWITCH_CODE

-- one tile more
pub one_behind : (code switch : ℕ) (x : TileProgram) (xs : List TileProgram) → IsShort x
    → AreShortBehind code switch (x ∷ xs) ↔ AreShortBehind (code + length x.code) (switch + length x.switch) xs
one_behind code switch x xs short =
    let a = sum_by-cons (λ (tile : TileProgram). length tile.code) x xs in
    let b = sum_by-cons (λ (tile : TileProgram). length tile.switch) x xs in (
      λ h. record { each = All-tail IsShort x xs h.each; all_code = let k = h.all_code in omega arith; all_switch = let k = h.all_switch in omega arith },
      λ h. record { each = All-cons IsShort x xs short h.each; all_code = let k = h.all_code in omega arith; all_switch = let k = h.all_switch in omega arith },
    )

pub behind_all : (code switch : ℕ) → code ≤ MAX_ALL_CODE → switch ≤ MAX_ALL_SWITCH_CODE → AreShortBehind code switch []
behind_all code switch h k = record { each = All-nil IsShort; all_code = omega arith; all_switch = omega arith }

-- the tile at a place has been counted
pub counted : (tiles : List TileProgram) (i : ℕ) (x : TileProgram) (code switch n m : ℕ) → i < length tiles → x ≡ get_or tiles i x → IsShort x → n ≡ length x.code → m ≡ length x.switch
    → (AreShortBehind code switch (drop i tiles) ↔ AreShort tiles) → (AreShortBehind (code + n) (switch + m) (drop (i + 1) tiles) ↔ AreShort tiles)
counted tiles i x code switch n m inside is short en em old =
    let at : drop i tiles ≡ x ∷ drop (i + 1) tiles = rw add-one (drop-cons tiles i x inside) ∙ ap (λ y. y ∷ drop (i + 1) tiles) (sym is) in
    let one = one_behind code switch x (drop (i + 1) tiles) short in (
      λ h. old.0 (subst (AreShortBehind code switch) (sym at) (one.1 (subst (λ k. AreShortBehind (code + length x.code) k (drop (i + 1) tiles)) (ap (λ k. switch + k) em) (subst (λ k. AreShortBehind k (switch + m) (drop (i + 1) tiles)) (ap (λ k. code + k) en) h)))),
      λ h. subst (λ k. AreShortBehind k (switch + m) (drop (i + 1) tiles)) (ap (λ k. code + k) (sym en)) (subst (λ k. AreShortBehind (code + length x.code) k (drop (i + 1) tiles)) (ap (λ k. switch + k) (sym em)) (one.0 (subst (AreShortBehind code switch) at (old.1 h)))),
    )

pub all_counted : (tiles : List TileProgram) (i code switch : ℕ) → length tiles ≤ i → code ≤ MAX_ALL_CODE → switch ≤ MAX_ALL_SWITCH_CODE → (AreShortBehind code switch (drop i tiles) ↔ AreShort tiles) → AreShort tiles
all_counted tiles i code switch past h k old = old.0 (rw (drop_all i tiles past) (behind_all code switch h k))
