-- The programs of the tiles are lawful and short.
use Rattle.std.proofs.Common.{◌≡◌, ℕ, ◌+◌, ◌/◌, ◌%◌, ◌^◌, ◌<◌, ◌≤◌, Bool, true, false, cond, ltb, nat_eq, List, [], ◌∷◌, length, refl, arith}
use Rattle.std.specs.List.{All}
use Rattle.std.proofs.lemmas.Bool.{ltb-true}
use Rattle.std.proofs.lemmas.List.{length-append}
use Rattle.std.proofs.lemmas.List.Elements.{All-nil, All-cons, All-append}
use Rattle.raw_generated.specs.declared.limits.TheConstants.{MAX_GENERATED_WORDS}
use Rattle.raw_tile_isa.specs.declared.table.TileOp.TheVariants as tile
use Rattle.raw_tile_isa.specs.Instruction.{Instruction, IsTileIns}
use Rattle.raw_tile_isa.specs.Load.{is_short}
use Rattle.raw_tile_isa.specs.Made.{immediate, halt}
use Rattle.raw_generated.specs.Generated.{load, branch_back, minus_one, adding_code, tile_code}

-- an addition of an immediate
addiu_lawful : (rt rs imm : ℕ) → rt < 32 → rs < 32 → imm < 2 ^ 16 → IsTileIns (immediate tile.Addiu rt rs imm)
addiu_lawful rt rs imm h k l = record { rs = k; rt = h; rd = refl; sh = refl; imm = l; target = refl }

ori_lawful : (rt rs imm : ℕ) → rt < 32 → rs < 32 → imm < 2 ^ 16 → IsTileIns (immediate tile.Ori rt rs imm)
ori_lawful rt rs imm h k l = record { rs = k; rt = h; rd = refl; sh = refl; imm = l; target = refl }

lui_lawful : (rt imm : ℕ) → rt < 32 → imm < 2 ^ 16 → IsTileIns (immediate tile.Lui rt 0 imm)
lui_lawful rt imm h l = record { rs = refl; rt = h; rd = refl; sh = refl; imm = l; target = refl }

branch_lawful : (place there : ℕ) → IsTileIns (branch_back place there)
branch_lawful place there = record { rs = omega arith; rt = omega arith; rd = refl; sh = refl; imm = omega arith; target = refl }

halt_lawful : IsTileIns halt
halt_lawful = record { rs = refl; rt = refl; rd = refl; sh = refl; imm = refl; target = refl }

-- one of four programs
one_of : (P : List Instruction → Type 0) (a b c : Bool) (w x y z : List Instruction) → P w → (b ≡ true → P x) → P y → P z → P (cond a w (cond b x (cond c y z)))
one_of P true b c w x y z p q r s = p
one_of P false true c w x y z p q r s = q refl
one_of P false false true w x y z p q r s = r
one_of P false false false w x y z p q r s = s

-- the first instructions
load_is : (P : List Instruction → Type 0) (n : ℕ) → P (immediate tile.Addiu 5 0 (n % 2 ^ 16) ∷ []) → (ltb n (2 ^ 16) ≡ true → P (immediate tile.Ori 5 0 n ∷ [])) → P (immediate tile.Lui 5 0 (n / 2 ^ 16) ∷ []) → P (immediate tile.Lui 5 0 (n / 2 ^ 16) ∷ immediate tile.Ori 5 5 (n % 2 ^ 16) ∷ []) → P (load n)
unfolding load
load_is P n p q r s = one_of P (is_short n) (ltb n (2 ^ 16)) (nat_eq (n % 2 ^ 16) 0) _ _ _ _ p q r s

pub load_few : (n : ℕ) → length (load n) ≤ 2
load_few n = load_is (λ code. length code ≤ 2) n (omega arith) (λ _. omega arith) (omega arith) (omega arith)

one_lawful : (ins : Instruction) → IsTileIns ins → All IsTileIns (ins ∷ [])
one_lawful ins h = All-cons IsTileIns ins [] h (All-nil IsTileIns)

load_lawful : (n : ℕ) → n ≤ MAX_GENERATED_WORDS → All IsTileIns (load n)
load_lawful n h =
    let high : n / 2 ^ 16 < 2 ^ 16 = omega arith in
    let low : n % 2 ^ 16 < 2 ^ 16 = omega arith in
    load_is (All IsTileIns) n
    (one_lawful (immediate tile.Addiu 5 0 (n % 2 ^ 16)) (addiu_lawful 5 0 (n % 2 ^ 16) (omega arith) (omega arith) low))
    (λ e. one_lawful (immediate tile.Ori 5 0 n) (ori_lawful 5 0 n (omega arith) (omega arith) (ltb-true _ _ e)))
    (one_lawful (immediate tile.Lui 5 0 (n / 2 ^ 16)) (lui_lawful 5 (n / 2 ^ 16) (omega arith) high))
    (All-cons IsTileIns (immediate tile.Lui 5 0 (n / 2 ^ 16)) (immediate tile.Ori 5 5 (n % 2 ^ 16) ∷ []) (lui_lawful 5 (n / 2 ^ 16) (omega arith) high) (one_lawful (immediate tile.Ori 5 5 (n % 2 ^ 16)) (ori_lawful 5 5 (n % 2 ^ 16) (omega arith) (omega arith) low)))

adding_lawful : (place t : ℕ) → t < 16 → All IsTileIns (adding_code place t)
adding_lawful place t h =
    let last : List Instruction = halt ∷ [] in
    let fourth : List Instruction = branch_back (place + 3) (place + 1) ∷ last in
    let third : List Instruction = immediate tile.Addiu 5 5 minus_one ∷ fourth in
    let second : List Instruction = immediate tile.Addiu 24 24 t ∷ third in
    All-cons IsTileIns (immediate tile.Addiu 24 5 minus_one) second (addiu_lawful 24 5 minus_one (omega arith) (omega arith) (omega arith))
    (All-cons IsTileIns (immediate tile.Addiu 24 24 t) third (addiu_lawful 24 24 t (omega arith) (omega arith) (omega arith))
    (All-cons IsTileIns (immediate tile.Addiu 5 5 minus_one) fourth (addiu_lawful 5 5 minus_one (omega arith) (omega arith) (omega arith))
    (All-cons IsTileIns (branch_back (place + 3) (place + 1)) last (branch_lawful (place + 3) (place + 1))
    (one_lawful halt halt_lawful))))

-- all instructions of a tile
pub code_lawful : (n t : ℕ) → n ≤ MAX_GENERATED_WORDS → t < 16 → All IsTileIns (tile_code n t)
code_lawful n t h k = All-append IsTileIns (load n) (adding_code (length (load n)) t) (load_lawful n h) (adding_lawful (length (load n)) t k)

pub code_few : (n t : ℕ) → length (tile_code n t) ≤ 7
code_few n t = omega (arith, length-append (load n) (adding_code (length (load n)) t), load_few n)
