-- Loading a word into a register, by one instruction or two.
use Rattle.std.specs.Prelude.{◌≡◌, ℕ, ◌-◌, ◌*◌, ◌/◌, ◌%◌, ◌^◌, ◌<◌, Bool, true, false, ◌||◌, nat_lt, nat_le, ◌==◌, if◌then◌else◌, bit_or, List, [], ◌∷◌, length, All, Option, Some, None, ◌⊎◌}
use Rattle.std.specs.Option.{option_and_then}
use Rattle.raw_tile_isa.specs.declared.table.TileOp.{TileOp}
use Rattle.raw_tile_isa.specs.declared.table.TileOp.TheVariants.{Addiu, Lui, Ori}
use Rattle.raw_tile_isa.specs.Instruction.{Instruction, IsTileIns, source_registers, destination_register, is_network}
use Rattle.raw_tile_isa.specs.Made.{immediate}
use Rattle.raw_tile_isa.specs.Words.{word_add, sign_extended}

-- a word that as a signed number is at least -2^15 and below 2^15
abbrev pub is_short : ℕ → Bool
is_short n = nat_lt n (2 ^ 15) || nat_le (2 ^ 32 - 2 ^ 15) n

-- a word that one instruction loads: a short one, one below 2^16, or one whose low half is 0
abbrev pub is_one : ℕ → Bool
is_one w = is_short w || nat_lt w (2 ^ 16) || (w % 2 ^ 16 == 0)

-- the instructions that load a word into a register; of two the second reads what the first wrote
abbrev pub load : ℕ → ℕ → List Instruction
load register w =
    if is_short w then immediate Addiu register 0 (w % 2 ^ 16) ∷ []
    else (if nat_lt w (2 ^ 16) then immediate Ori register 0 w ∷ []
    else (if w % 2 ^ 16 == 0 then immediate Lui register 0 (w / 2 ^ 16) ∷ []
    else immediate Lui register 0 (w / 2 ^ 16) ∷ immediate Ori register register (w % 2 ^ 16) ∷ []))

-- what an instruction of a load makes of its immediate and of the word at its rs, as its row of the table of effects has it
abbrev pub made_by : TileOp → ℕ → ℕ → Option ℕ
made_by Addiu imm a = Some (word_add a (sign_extended imm))
made_by Ori imm a = Some (bit_or a imm)
made_by Lui imm a = Some (imm * 2 ^ 16)
made_by _ imm a = None

-- the word that the instructions of a load leave in a register where it was a before: their rs is that register, or register 0, which is 0
abbrev pub word_after : ℕ → List Instruction → ℕ → Option ℕ
word_after register [] a = Some a
word_after register (ins ∷ more) a =
    option_and_then (word_after register more) (made_by ins.op ins.imm (if ins.rs == 0 then 0 else a))

-- an instruction that keeps its row's rules, writes the register, and reads no register but that and register 0
pub record WritesAlone (register : ℕ) (ins : Instruction) : Type 0 where
  pub rules : IsTileIns ins
  pub writes : destination_register ins ≡ Some register
  pub reads : All (λ source. (source ≡ register) ⊎ (source ≡ 0)) (source_registers ins)

-- instructions that load a word into a register
pub record IsLoad (register w : ℕ) (code : List Instruction) : Type 0 where
  pub each : All (WritesAlone register) code
  pub few : length code ≡ (if is_one w then 1 else 2)
  -- one instruction makes the word, which is sent where the register is that of a network
  pub made : is_one w ≡ true → (a : ℕ) → word_after register code a ≡ Some w
  -- two make it in a register that keeps what is written to it, which register 0 and those of the networks do not
  pub kept : 0 < register → is_network register ≡ false → (a : ℕ) → word_after register code a ≡ Some w

-- so do those of each word
abbrev pub EachLoads : Type 0
EachLoads = (register w : ℕ) → register < 32 → w < 2 ^ 32 → IsLoad register w (load register w)
