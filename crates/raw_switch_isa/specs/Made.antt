-- Instructions by their operations and routes.
use Rattle.std.specs.Prelude.{◌≡◌, ℕ, ◌+◌, ◌/◌, ◌%◌, ◌<◌, true, List, [], ◌∷◌, None, slice_set}
use Rattle.raw_switch_isa.specs.declared.table.SwitchOp.{SwitchOp}
use Rattle.raw_switch_isa.specs.declared.table.SwitchOp.TheVariants.{Nop, Jump, Beqz, Bnez, Bnezd, Move, Halt}
use Rattle.raw_switch_isa.specs.declared.instruction.SwitchSource.{SwitchSource}
use Rattle.raw_switch_isa.specs.declared.instruction.SwitchSource.TheVariants.{Register, Input}
use Rattle.raw_switch_isa.specs.Instruction.{SwitchInstruction, sends_register}
use Rattle.raw_switch_isa.specs.Ends.{route_source, IsSource}

-- no output has a route
abbrev pub no_routes : List ℕ
no_routes = 0 ∷ 0 ∷ 0 ∷ 0 ∷ 0 ∷ 0 ∷ 0 ∷ 0 ∷ 0 ∷ 0 ∷ []

-- an operation with the values of its fields, and no route
abbrev pub unrouted : SwitchOp → ℕ → ℕ → ℕ → SwitchInstruction
unrouted op rd src target = record { op = op; rd = rd; src = src; target = target; rsel = 0; routes = no_routes }

-- the instructions without routes
abbrev pub nop : SwitchInstruction
nop = unrouted Nop 0 0 0

abbrev pub halt : SwitchInstruction
halt = unrouted Halt 0 0 0

abbrev pub jump : ℕ → SwitchInstruction
jump target = unrouted Jump 0 0 target

abbrev pub beqz : ℕ → ℕ → SwitchInstruction
beqz register target = unrouted Beqz register 0 target

abbrev pub bnez : ℕ → ℕ → SwitchInstruction
bnez register target = unrouted Bnez register 0 target

abbrev pub bnezd : ℕ → ℕ → SwitchInstruction
bnezd register target = unrouted Bnezd register 0 target

-- the value of the field src for a source: below 4 a register, from 4 on an input
abbrev pub source_field : SwitchSource → ℕ
source_field (Register register) = register
source_field (Input input) = 4 + input

abbrev pub move_from : ℕ → SwitchSource → SwitchInstruction
move_from register source = unrouted Move register (source_field source) 0

-- the instruction with these routes in place of its own, none of which sends a register
abbrev pub with_routes : SwitchInstruction → List ℕ → SwitchInstruction
with_routes ins routes = record ins { rsel = 0; routes = routes }

-- the instruction with a route more: what an output sends
abbrev pub with_route : SwitchInstruction → ℕ → SwitchSource → SwitchInstruction
with_route ins output (Register register) = record ins { rsel = register; routes = slice_set ins.routes output 6 }
with_route ins output (Input input) = record ins { routes = slice_set ins.routes output (input % 5 + 1) }

-- an output may send it beside what the instruction's routes send: an input of its own network, or a register where no route sends another one
abbrev pub MaySend : SwitchInstruction → ℕ → SwitchSource → Type 0
MaySend ins output (Register register) = sends_register ins.routes ≡ true → ins.rsel ≡ register
MaySend ins output (Input input) = input / 5 ≡ output / 5

-- a route from a source to an output, for which the instruction has none
pub record IsNewRoute (ins : SwitchInstruction) (output : ℕ) (source : SwitchSource) : Type 0 where
  pub is_output : output < 10
  pub is_source : IsSource source
  pub free : route_source ins output ≡ None
  pub may : MaySend ins output source
