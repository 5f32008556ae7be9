-- What the operands of an instruction say.
use Rattle.std.specs.Prelude.{◌≡◌, ◌<◌, ℕ, ◌+◌, ◌-◌, ◌%◌, ◌^◌, Bool, false, ◌&&◌, List, [], ◌∷◌, length, take, drop, codes, Option, Some, None, Result, Ok, Err, nat_lt, slice_index, ◌==◌, if◌then◌else◌}
use Rattle.std.specs.List.{position_or_len, before_first, after_first}
use Rattle.raw_text.specs.Number.{number_of, digits_up_to, begins_with}
use Rattle.raw_tile_isa.specs.declared.table.Operand.{Operand}
use Rattle.raw_tile_isa.specs.declared.table.Operand.TheVariants.{Rd, Rs, Rt, Shift, Signed, Unsigned, Branch, Jump, Memory}
pub use Rattle.raw_tile_isa.specs.Load.{is_short}
use Rattle.raw_tile_isa.specs.Instruction.{is_rs, is_rt, is_rd, is_sh, is_imm, is_target}
use Rattle.raw_asm.specs.declared.kind.AsmKind.{AsmKind}
use Rattle.raw_asm.specs.declared.kind.AsmKind.TheVariants.{BadOperand}
use Rattle.raw_asm.specs.declared.operand.Target.{Target}
use Rattle.raw_asm.specs.declared.operand.Target.TheVariants.{Label, Number}
use Rattle.raw_asm.specs.Names.{ends_with}
use Rattle.raw_asm.specs.Faults.{◌>>=◌, or_fault, in_range}
use Rattle.raw_asm.specs.Language.{target_of}
use Rattle.raw_tile_asm.specs.declared.operands.Fields.{Fields}

-- a register: '$' and its number below 32, in decimal without leading zeros
unfoldable pub register_of : List ℕ → Option ℕ
register_of token =
    if begins_with (codes "$") token then (if nat_lt 1 (length (drop 1 token)) && (slice_index (drop 1 token) 0 == 48) then None else digits_up_to 31 10 (drop 1 token))
    else None

-- the 16 bits of a word that as a signed number is at least -2^15 and below 2^15
abbrev pub signed_half : ℕ → Result ℕ AsmKind
signed_half n = in_range (is_short n) (n % 2 ^ 16)

-- an opening bracket
abbrev pub is_open : ℕ → Bool
is_open b = b == 40

-- what stands before the first opening bracket and what stands behind it
abbrev pub cut_at_open : List ℕ → Option (List ℕ × List ℕ)
cut_at_open inner = if nat_lt (position_or_len is_open inner) (length inner) then Some (before_first is_open inner, after_first is_open inner) else None

-- the two parts of 'I($s)'
unfoldable pub memory_parts : List ℕ → Option (List ℕ × List ℕ)
memory_parts token = if ends_with (codes ")") token then cut_at_open (take (length token - 1) token) else None

-- the distance of a branch from the instruction behind it, in 16 bits: that to a number has to fit, and
-- that to a label fits in each program that is not too long
abbrev pub branch_field : ℕ → Target → Result ℕ AsmKind
branch_field place (Number n) = signed_half ((n + 2 ^ 32 - (place + 1)) % 2 ^ 32)
branch_field place (Label there) = Ok ((there + 2 ^ 32 - (place + 1)) % 2 ^ 16)

-- the instruction to which a jump goes, in 26 bits
abbrev pub jump_field : Target → Result ℕ AsmKind
jump_field (Number n) = in_range (nat_lt n (2 ^ 26)) n
jump_field (Label there) = Ok (there % 2 ^ 26)

-- the fields with that which an operand of an instruction at a place fills
unfoldable pub with_operand : (List ℕ → Option ℕ) → ℕ → Operand → List ℕ → Fields → Result Fields AsmKind
with_operand labels place Rd token f = or_fault BadOperand (register_of token) >>= λ r. Ok (record f { rd = r })
with_operand labels place Rs token f = or_fault BadOperand (register_of token) >>= λ r. Ok (record f { rs = r })
with_operand labels place Rt token f = or_fault BadOperand (register_of token) >>= λ r. Ok (record f { rt = r })
with_operand labels place Shift token f = do
  n ← or_fault BadOperand (number_of token)
  n ← in_range (nat_lt n 32) n
  Ok (record f { sh = n })
with_operand labels place Signed token f = do
  n ← or_fault BadOperand (number_of token)
  n ← signed_half n
  Ok (record f { imm = n })
with_operand labels place Unsigned token f = do
  n ← or_fault BadOperand (number_of token)
  n ← in_range (nat_lt n (2 ^ 16)) n
  Ok (record f { imm = n })
with_operand labels place Branch token f = do
  t ← target_of labels token
  n ← branch_field place t
  Ok (record f { imm = n })
with_operand labels place Jump token f = do
  t ← target_of labels token
  n ← jump_field t
  Ok (record f { target = n })
with_operand labels place Memory token f = do
  parts ← or_fault BadOperand (memory_parts token)
  r ← or_fault BadOperand (register_of parts.1)
  n ← or_fault BadOperand (number_of parts.0)
  n ← signed_half n
  Ok (record f { imm = n; rs = r })

-- the fields after all operands, from left to right
unfoldable pub with_operands : (List ℕ → Option ℕ) → ℕ → List Operand → List (List ℕ) → Fields → Result Fields AsmKind
with_operands labels place [] tokens f = Ok f
with_operands labels place (form ∷ forms) [] f = Err BadOperand
with_operands labels place (form ∷ forms) (token ∷ tokens) f = do
  g ← with_operand labels place form token f
  with_operands labels place forms tokens g

-- each field is below its limit
pub record AreSmall (f : Fields) : Type 0 where
  pub rs : f.rs < 32
  pub rt : f.rt < 32
  pub rd : f.rd < 32
  pub sh : f.sh < 32
  pub imm : f.imm < 2 ^ 16
  pub target : f.target < 2 ^ 26

-- an operand fills no field but its own
pub record KeepsOthers (form : Operand) (f g : Fields) : Type 0 where
  pub rs : is_rs form ≡ false → g.rs ≡ f.rs
  pub rt : is_rt form ≡ false → g.rt ≡ f.rt
  pub rd : is_rd form ≡ false → g.rd ≡ f.rd
  pub sh : is_sh form ≡ false → g.sh ≡ f.sh
  pub imm : is_imm form ≡ false → g.imm ≡ f.imm
  pub target : is_target form ≡ false → g.target ≡ f.target
