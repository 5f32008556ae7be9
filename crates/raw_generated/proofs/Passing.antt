-- The programs of the switches are lawful and short, and each end that they name has a wire.
use Rattle.std.proofs.Common.{◌≡◌, ℕ, ◌+◌, ◌/◌, ◌%◌, ◌<◌, ◌≤◌, Bool, true, ltb, List, [], ◌∷◌, length, get_or, refl, ◌∙◌, subst, arith}
use Rattle.std.specs.List.{All, list_all, range_with_len}
use Rattle.std.proofs.lemmas.Bool.{ltb-true}
use Rattle.std.proofs.lemmas.List.Elements.{All-nil, All-cons, All-weaker}
use Rattle.std.proofs.lemmas.List.Sums.{AllPass-from_list_all}
use Rattle.std.proofs.lemmas.List.FromFn.{get_or-range_with_len}
use Rattle.raw_switch_isa.specs.declared.instruction.SwitchSource.TheVariants.{Input}
use Rattle.raw_switch_isa.specs.Instruction.{SwitchInstruction, IsSwitchIns}
use Rattle.raw_switch_isa.specs.Ends.{ends}
use Rattle.raw_switch_isa.specs.Made.{no_routes, nop, halt, bnezd, move_from, with_route}
use Rattle.raw_grid.specs.declared.parts.Net.TheVariants.{One}
use Rattle.raw_grid.specs.declared.parts.Side.{Side}
use Rattle.raw_grid.specs.declared.parts.Side.TheVariants.{N, E, S, W}
use Rattle.raw_grid.specs.Ends.{side_end, tile_end}
use Rattle.raw_grid.specs.Wires.{wires_of, input_wire, output_wire}
use Rattle.raw_model.specs.Program.{has_wires}
use Rattle.raw_generated.specs.Generated.{grid, entered_by, left_by, switch_code}

codes_below : (routes : List ℕ) → list_all (λ code. ltb code 7) routes ≡ true → All (λ code. code < 7) routes
codes_below routes e =
    All-weaker (λ code. ltb code 7 ≡ true) (λ code. code < 7) (λ code. ltb-true code 7) routes (AllPass-from_list_all (λ code. ltb code 7) routes e)

move_lawful : IsSwitchIns (move_from 0 (Input (tile_end One)))
move_lawful = record { rd = omega arith; src = omega arith; target = refl; rsel = refl; ten = refl; codes = codes_below no_routes refl }

-- a route to the tile
pub in_lawful : (a : Side) → IsSwitchIns (with_route nop (tile_end One) (Input (side_end One a)))
in_lawful N = record { rd = refl; src = refl; target = refl; rsel = refl; ten = refl; codes = codes_below (with_route nop (tile_end One) (Input (side_end One N))).routes refl }
in_lawful E = record { rd = refl; src = refl; target = refl; rsel = refl; ten = refl; codes = codes_below (with_route nop (tile_end One) (Input (side_end One E))).routes refl }
in_lawful S = record { rd = refl; src = refl; target = refl; rsel = refl; ten = refl; codes = codes_below (with_route nop (tile_end One) (Input (side_end One S))).routes refl }
in_lawful W = record { rd = refl; src = refl; target = refl; rsel = refl; ten = refl; codes = codes_below (with_route nop (tile_end One) (Input (side_end One W))).routes refl }

-- a route from the tile
pub out_lawful : (b : Side) → IsSwitchIns (with_route (bnezd 0 1) (side_end One b) (Input (tile_end One)))
out_lawful N = record { rd = omega arith; src = refl; target = omega arith; rsel = refl; ten = refl; codes = codes_below (with_route (bnezd 0 1) (side_end One N) (Input (tile_end One))).routes refl }
out_lawful E = record { rd = omega arith; src = refl; target = omega arith; rsel = refl; ten = refl; codes = codes_below (with_route (bnezd 0 1) (side_end One E) (Input (tile_end One))).routes refl }
out_lawful S = record { rd = omega arith; src = refl; target = omega arith; rsel = refl; ten = refl; codes = codes_below (with_route (bnezd 0 1) (side_end One S) (Input (tile_end One))).routes refl }
out_lawful W = record { rd = omega arith; src = refl; target = omega arith; rsel = refl; ten = refl; codes = codes_below (with_route (bnezd 0 1) (side_end One W) (Input (tile_end One))).routes refl }

halt_lawful : IsSwitchIns (halt)
halt_lawful = record { rd = refl; src = refl; target = refl; rsel = refl; ten = refl; codes = codes_below no_routes refl }

-- all instructions of a switch
pub switch_lawful : (t : ℕ) → All IsSwitchIns (switch_code t)
unfolding switch_code
switch_lawful t =
    let a = entered_by (t % 4) (t / 4) in
    let b = left_by (t % 4) (t / 4) in
    let first : SwitchInstruction = move_from 0 (Input (tile_end One)) in
    let second : SwitchInstruction = with_route nop (tile_end One) (Input (side_end One a)) in
    let third : SwitchInstruction = with_route (bnezd 0 1) (side_end One b) (Input (tile_end One)) in
    let last : SwitchInstruction = halt in
    All-cons IsSwitchIns first (second ∷ third ∷ last ∷ []) move_lawful
    (All-cons IsSwitchIns second (third ∷ last ∷ []) (in_lawful a)
    (All-cons IsSwitchIns third (last ∷ []) (out_lawful b)
    (All-cons IsSwitchIns last [] halt_lawful (All-nil IsSwitchIns))))

pub switch_few : (t : ℕ) → length (switch_code t) ≤ 7
unfolding switch_code
switch_few t = omega arith

-- whether the switch of a tile has a wire at each end that its program names
abbrev is_wired : ℕ → Bool
is_wired t = list_all (has_wires grid (16 + t)) (switch_code t)

all_wired : list_all is_wired (range_with_len 0 16) ≡ true
unfolding switch_code wires_of input_wire output_wire ends
all_wired = refl

-- each end that the switch of a tile names has a wire
pub switch_wired : (t : ℕ) → t < 16 → All (λ ins. has_wires grid (16 + t) ins ≡ true) (switch_code t)
switch_wired t h =
    let at = AllPass-from_list_all is_wired (range_with_len 0 16) all_wired t 0 h in
    let first : 0 + t ≡ t = omega arith in
    let same : get_or (range_with_len 0 16) t 0 ≡ t = get_or-range_with_len 0 16 t 0 h ∙ first in
    AllPass-from_list_all (has_wires grid (16 + t)) (switch_code t) (subst (λ (k : ℕ). is_wired k ≡ true) same at)
