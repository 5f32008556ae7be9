-- The switch instruction that a word shows.
use Rattle.std.specs.Prelude.{ℕ, ◌/◌, ◌^◌, nat_lt, ◌==◌, ◌&&◌, Bool, List, map, Option, Some, None, if◌then◌else◌}
use Rattle.std.specs.List.{list_all}
use Rattle.std.specs.Option.{option_and_then}
use Rattle.raw_switch_isa.specs.declared.table.SwitchOp.{SwitchOp}
use Rattle.raw_switch_isa.specs.Table.{op_with, uses, is_rd, is_src, is_target}
use Rattle.raw_switch_isa.specs.Instruction.{SwitchInstruction, sends_register}
use Rattle.raw_switch_isa.specs.Code.{code_of, bits_where, route_at}
use Rattle.raw_switch_isa.specs.Ends.{ends}

-- the route codes that a word shows
abbrev pub routes_in : ℕ → List ℕ
routes_in word = map (route_at word) ends

-- an instruction with the fields that a word shows
abbrev pub fields_of : SwitchOp → ℕ → SwitchInstruction
fields_of op word = record {
  op = op;
  rd = bits_where (uses is_rd op) word 58 4;
  src = bits_where (uses is_src op) word 54 16;
  target = bits_where (uses is_target op) word 38 (2 ^ 16);
  rsel = bits_where (sends_register (routes_in word)) word 36 4;
  routes = routes_in word;
}

-- whether an instruction moves from what a switch has, its routes are codes, and its word is this one
abbrev pub is_coded : SwitchInstruction → ℕ → Bool
is_coded ins word = nat_lt ins.src 14 && list_all (λ code. nat_lt code 7) ins.routes && code_of ins == word

-- the instruction that a word shows, where the word is its word: so a field or a bit that it does not use is 0
unfoldable pub decode_of : ℕ → Option SwitchInstruction
decode_of word =
    option_and_then
    (λ op. if is_coded (fields_of op word) word then Some (fields_of op word) else None)
    (op_with (word / 2 ^ 60))
