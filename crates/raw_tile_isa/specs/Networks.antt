-- What an instruction takes from the networks and sends to them.
use Rattle.std.specs.Prelude.{ℕ, Bool, false, ◌==◌, count_by}
use Rattle.std.specs.Option.{option_map_or}
use Rattle.raw_tile_isa.specs.Instruction.{Instruction, source_registers, destination_register}

-- how many values the instruction takes from a network's register: one for each place at which it reads it
abbrev pub taken_from : ℕ → Instruction → ℕ
taken_from network ins = count_by (λ register. register == network) (source_registers ins)

-- whether the instruction sends its result to a network's register
abbrev pub sends_to : ℕ → Instruction → Bool
sends_to network ins = option_map_or (λ register. register == network) (destination_register ins) false
