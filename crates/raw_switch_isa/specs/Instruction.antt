-- A switch instruction, and the rules that it keeps.
use Rattle.std.specs.Prelude.{◌≡◌, ℕ, ◌^◌, ◌<◌, Bool, true, false, ◌==◌, List, length, All}
use Rattle.std.specs.List.{list_any}
use Rattle.raw_switch_isa.specs.declared.table.SwitchOp.{SwitchOp}
use Rattle.raw_switch_isa.specs.Table.{uses, is_rd, is_src, is_target}

-- an instruction; routes has a code for each output, N, E, S, W, P of network 1 and then of network 2
pub record SwitchInstruction : Type 0 where
  pub op : SwitchOp
  pub rd : ℕ
  pub src : ℕ
  pub target : ℕ
  pub rsel : ℕ
  pub routes : List ℕ

-- a field is below its limit where it is used, and else 0
abbrev pub IsField : Bool → ℕ → ℕ → Type 0
IsField true limit value = value < limit
IsField false limit value = value ≡ 0

-- whether some route sends the register rsel
abbrev pub sends_register : List ℕ → Bool
sends_register routes = list_any (λ code. code == 6) routes

-- the rules of an instruction: ranges, and 0 in each field that is not used
pub record IsSwitchIns (ins : SwitchInstruction) : Type 0 where
  pub rd : IsField (uses is_rd ins.op) 4 ins.rd
  pub src : IsField (uses is_src ins.op) 14 ins.src
  pub target : IsField (uses is_target ins.op) (2 ^ 16) ins.target
  pub rsel : IsField (sends_register ins.routes) 4 ins.rsel
  pub ten : length ins.routes ≡ 10
  pub codes : All (λ code. code < 7) ins.routes
