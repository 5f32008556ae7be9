-- Rows of tiles and switches on terms. A local state of the machine stands for one with terms: the registers hold numbers of terms,
-- and so does the memory, one for each of its words.
use Rattle.std.specs.Prelude.{ℕ, ◌+◌, ◌*◌, ◌/◌, ◌%◌, ◌^◌, Bool, not, ◌==◌, Option, Some, None, List, [], ◌∷◌, slice_set, slice_index, unwrap_or, if◌then◌else◌}
use Rattle.std.specs.Option.{option_map}
use Rattle.std.specs.Int.{w16, w32, to_be_bytes, from_be_bytes}
use Rattle.raw_tile_isa.specs.declared.table.TileOp.{TileOp}
use Rattle.raw_tile_isa.specs.declared.table.TileOp.TheVariants.{Sll, Srl, Sra, Sllv, Srlv, Srav, Jr, Jalr, Addu, Subu, And, Or, Xor, Nor, Slt, Sltu, Mul, Mulhi, Mulhu, Clz, Popc, Halt, Bltz, Bgez, Beq, Bne, Blez, Bgtz, Addiu, Slti, Sltiu, Andi, Ori, Xori, Lui, Lb, Lh, Lw, Lbu, Lhu, Sb, Sh, Sw, J, Jal}
use Rattle.raw_tile_isa.specs.declared.networks.TheConstants.{LINK}
use Rattle.raw_tile_isa.specs.Instruction.{Instruction}
use Rattle.raw_tile_isa.specs.Words.{word_add, word_sub, word_leading_zeros, word_ones, sign_extended, sign_extended_byte}
use Rattle.raw_switch_isa.specs.declared.table.SwitchOp.{SwitchOp}
use Rattle.raw_switch_isa.specs.declared.table.SwitchOp.TheVariants as switch
use Rattle.raw_switch_isa.specs.Instruction.{SwitchInstruction}
use Rattle.raw_switch_isa.specs.Ends.{move_source}
use Rattle.raw_model.specs.declared.marks.Mark.TheVariants as mark
use Rattle.raw_model.specs.declared.marks.Cause.{Cause}
use Rattle.raw_model.specs.declared.marks.Cause.TheVariants.{Pc}
use Rattle.raw_model.specs.Local.{TileLocal, SwitchLocal}
use Rattle.raw_model.specs.TileTable.{TileEffect, mark_at, gives_at, goes, stops, following, is_below_zero, is_above_zero, address_of, access_fault, unless_fault, half_at, stored, loads}
use Rattle.raw_model.specs.SwitchTable.{source_value, control}
use Rattle.raw_model.specs.SwitchTable.{goes as switch_goes, following as switch_following, effect_of as switch_effect_of}
use Rattle.raw_flow.specs.declared.node.FlowOp.{FlowOp}
use Rattle.raw_flow.specs.declared.node.FlowOp.TheVariants as op
use Rattle.raw_flow.specs.declared.node.Node.{Node}
use Rattle.raw_flow.specs.declared.node.Node.TheVariants.{Const}
use Rattle.raw_term.specs.declared.action.Operand.{Operand}
use Rattle.raw_term.specs.declared.action.Operand.TheVariants.{Rs, Rt, Immediate}
use Rattle.raw_term.specs.declared.action.Action.{Action}
use Rattle.raw_term.specs.declared.action.Action.TheVariants.{Make, Give, Go, Stop, Load, Store, Read, Write}
use Rattle.raw_term.specs.Terms.{word_in, Numbered, with_node, made}

-- where a branch goes
abbrev pub branch : ℕ → Instruction → Bool → Action
branch next ins test = Go (if test then word_add next (sign_extended ins.imm) else next)

-- what is done with a word, where there is one
abbrev pub with_one : Option ℕ → (ℕ → Action) → Option Action
with_one None f = None
with_one (Some x) f = Some (f x)

abbrev pub with_two : Option ℕ → Option ℕ → (ℕ → ℕ → Action) → Option Action
with_two None b f = None
with_two (Some x) b f = with_one b (f x)

-- the byte and the half word at an address, in the memory word that they are a part of
abbrev pub byte_in : ℕ → ℕ → ℕ
byte_in word address = slice_index (to_be_bytes w32 word) (address % 4)

abbrev pub half_in : ℕ → ℕ → ℕ
half_in word address = half_at (to_be_bytes w32 word) (address % 4)

-- the memory word after bytes are stored from an address on
abbrev pub word_with : ℕ → ℕ → List ℕ → ℕ
word_with word address bytes = from_be_bytes w32 (stored (to_be_bytes w32 word) (address % 4) bytes)

-- a load or a store of a part of a memory word, at an address that does not trap; `cell` is that word and `b` the word at rt, where these are words
abbrev pub part_action : TileOp → Instruction → ℕ → Option ℕ → Option ℕ → Option Action
part_action Lb ins address b cell = with_one cell (λ w. Read ins.rt address (sign_extended_byte (byte_in w address)))
part_action Lh ins address b cell = with_one cell (λ w. Read ins.rt address (sign_extended (half_in w address)))
part_action Lbu ins address b cell = with_one cell (λ w. Read ins.rt address (byte_in w address))
part_action Lhu ins address b cell = with_one cell (λ w. Read ins.rt address (half_in w address))
part_action Sb ins address b cell = with_two cell b (λ w y. Write address (word_with w address (y % 2 ^ 8 ∷ [])))
part_action Sh ins address b cell = with_two cell b (λ w y. Write address (word_with w address (to_be_bytes w16 (y % 2 ^ 16))))
part_action _ ins address b cell = None

-- how many bytes such a part has
abbrev pub part_bytes : TileOp → ℕ
part_bytes Lb = 1
part_bytes Lbu = 1
part_bytes Sb = 1
part_bytes _ = 2

-- an access that traps wants nothing more
abbrev pub unless_trap : Option Cause → Option Action → Option Action
unless_trap None action = action
unless_trap (Some cause) action = Some (Stop (mark.Trapped cause))

abbrev pub on_part : TileOp → Instruction → Option ℕ → Option ℕ → Option ℕ → Option Action
on_part op ins None b cell = None
on_part op ins (Some x) b cell =
    unless_trap (access_fault (address_of ins x) (part_bytes op)) (part_action op ins (address_of ins x) b cell)

-- what the row of an instruction does whose follower has the number `next`; `a` and `b` are the words at rs and rt, and `cell` is that of the
-- memory word at the address, where these are words. None where it wants a word that is none.
abbrev pub action_of : TileOp → ℕ → Instruction → Option ℕ → Option ℕ → Option ℕ → Option Action
action_of Sll next ins a b cell = Some (Make op.ShiftLeft Rt (Immediate ins.sh) ins.rd)
action_of Srl next ins a b cell = Some (Make op.ShiftRight Rt (Immediate ins.sh) ins.rd)
action_of Sra next ins a b cell = Some (Make op.ShiftRightSigned Rt (Immediate ins.sh) ins.rd)
action_of Sllv next ins a b cell = Some (Make op.ShiftLeft Rt Rs ins.rd)
action_of Srlv next ins a b cell = Some (Make op.ShiftRight Rt Rs ins.rd)
action_of Srav next ins a b cell = Some (Make op.ShiftRightSigned Rt Rs ins.rd)
action_of Jr next ins a b cell = with_one a (λ x. Go x)
action_of Jalr next ins a b cell = with_one a (λ x. Give ins.rd next x)
action_of Addu next ins a b cell = Some (Make op.Add Rs Rt ins.rd)
action_of Subu next ins a b cell = Some (Make op.Sub Rs Rt ins.rd)
action_of And next ins a b cell = Some (Make op.And Rs Rt ins.rd)
action_of Or next ins a b cell = Some (Make op.Or Rs Rt ins.rd)
action_of Xor next ins a b cell = Some (Make op.Xor Rs Rt ins.rd)
action_of Nor next ins a b cell = Some (Make op.Nor Rs Rt ins.rd)
action_of Slt next ins a b cell = Some (Make op.Less Rs Rt ins.rd)
action_of Sltu next ins a b cell = Some (Make op.LessUnsigned Rs Rt ins.rd)
action_of Mul next ins a b cell = Some (Make op.Mul Rs Rt ins.rd)
action_of Mulhi next ins a b cell = Some (Make op.MulHigh Rs Rt ins.rd)
action_of Mulhu next ins a b cell = Some (Make op.MulHighUnsigned Rs Rt ins.rd)
action_of Clz next ins a b cell = with_one a (λ x. Give ins.rd (word_leading_zeros x) next)
action_of Popc next ins a b cell = with_one a (λ x. Give ins.rd (word_ones x) next)
action_of Halt next ins a b cell = Some (Stop mark.Halted)
action_of Bltz next ins a b cell = with_one a (λ x. branch next ins (is_below_zero x))
action_of Bgez next ins a b cell = with_one a (λ x. branch next ins (not (is_below_zero x)))
action_of Beq next ins a b cell = with_two a b (λ x y. branch next ins (x == y))
action_of Bne next ins a b cell = with_two a b (λ x y. branch next ins (not (x == y)))
action_of Blez next ins a b cell = with_one a (λ x. branch next ins (not (is_above_zero x)))
action_of Bgtz next ins a b cell = with_one a (λ x. branch next ins (is_above_zero x))
action_of Addiu next ins a b cell = Some (Make op.Add Rs (Immediate (sign_extended ins.imm)) ins.rt)
action_of Slti next ins a b cell = Some (Make op.Less Rs (Immediate (sign_extended ins.imm)) ins.rt)
action_of Sltiu next ins a b cell = Some (Make op.LessUnsigned Rs (Immediate (sign_extended ins.imm)) ins.rt)
action_of Andi next ins a b cell = Some (Make op.And Rs (Immediate ins.imm) ins.rt)
action_of Ori next ins a b cell = Some (Make op.Or Rs (Immediate ins.imm) ins.rt)
action_of Xori next ins a b cell = Some (Make op.Xor Rs (Immediate ins.imm) ins.rt)
action_of Lui next ins a b cell = Some (Give ins.rt (ins.imm * 2 ^ 16) next)
action_of Lb next ins a b cell = on_part Lb ins a b cell
action_of Lh next ins a b cell = on_part Lh ins a b cell
action_of Lw next ins a b cell = with_one a (λ x. Load ins.rt (address_of ins x))
action_of Lbu next ins a b cell = on_part Lbu ins a b cell
action_of Lhu next ins a b cell = on_part Lhu ins a b cell
action_of Sb next ins a b cell = on_part Sb ins a b cell
action_of Sh next ins a b cell = on_part Sh ins a b cell
action_of Sw next ins a b cell = with_one a (λ x. Store (address_of ins x))
action_of J next ins a b cell = Some (Go ins.target)
action_of Jal next ins a b cell = Some (Give LINK next ins.target)

-- a table, and what a tile's row does with numbers of its terms
pub record TileTerms : Type 0 where
  pub nodes : List Node
  pub effect : TileEffect

-- the term of an operand, where those at rs and rt are a and b
abbrev pub term_at : List Node → Operand → ℕ → ℕ → Numbered
term_at nodes Rs a b = record { nodes = nodes; number = a }
term_at nodes Rt a b = record { nodes = nodes; number = b }
term_at nodes (Immediate word) a b = with_node nodes (Const word)

-- a term that goes to a register
abbrev pub put : ℕ → TileLocal → ℕ → ℕ → Option ℕ → Numbered → TileTerms
put size l register pc touched r = record { nodes = r.nodes; effect = gives_at size l register r.number pc touched }

-- of the second of two operands, and of an operation
abbrev pub made_second : FlowOp → Operand → ℕ → ℕ → Numbered → Numbered
made_second f second a b r = made (term_at r.nodes second a b).nodes f r.number (term_at r.nodes second a b).number

-- the term of the word at an address goes to a register
abbrev pub loads_term : ℕ → TileLocal → ℕ → ℕ → TileEffect
loads_term size l register address = loads size l register address 4 (slice_index l.memory (address / 4))

-- a term goes to the memory word at an address
abbrev pub stored_term : ℕ → TileLocal → ℕ → ℕ → TileEffect
stored_term size l address c =
    record {
      next = record l { memory = slice_set l.memory (address / 4) c; pc = following l; count = l.count + 1; mark = mark_at size (following l) };
      sent1 = None;
      sent2 = None;
      touched = Some address;
    }

-- a store of a term
abbrev pub stores_term : ℕ → TileLocal → ℕ → ℕ → TileEffect
stores_term size l address c = unless_fault (access_fault address 4) l (stored_term size l address c)

abbrev pub put_cell : ℕ → TileLocal → ℕ → Numbered → TileTerms
put_cell size l address r = record { nodes = r.nodes; effect = stored_term size l address r.number }

-- what an action does, in a program of this size, where the terms at rs and rt are a and b
abbrev pub acted : List Node → ℕ → TileLocal → ℕ → ℕ → Action → TileTerms
acted nodes size l a b (Make f first second register) = put size l register (following l) None (made_second f second a b (term_at nodes first a b))
acted nodes size l a b (Give register word pc) = put size l register pc None (with_node nodes (Const word))
acted nodes size l a b (Go pc) = record { nodes = nodes; effect = goes size l pc }
acted nodes size l a b (Stop mark) = record { nodes = nodes; effect = stops l mark }
acted nodes size l a b (Load register address) = record { nodes = nodes; effect = loads_term size l register address }
acted nodes size l a b (Store address) = record { nodes = nodes; effect = stores_term size l address b }
acted nodes size l a b (Read register address word) = put size l register (following l) (Some address) (with_node nodes (Const word))
acted nodes size l a b (Write address word) = put_cell size l address (with_node nodes (Const word))

-- the word of the memory word that an access of this instruction touches, where it is one and the address is known
abbrev pub cell_of : List Node → TileLocal → Instruction → Option ℕ → Option ℕ
cell_of nodes l ins None = None
cell_of nodes l ins (Some x) = word_in nodes (slice_index l.memory (address_of ins x / 4))

-- the row of the instruction, if there is one
abbrev pub term_effect : List Node → Option Instruction → ℕ → TileLocal → ℕ → ℕ → Option TileTerms
term_effect nodes None size l a b = Some (record { nodes = nodes; effect = stops l (mark.Trapped Pc) })
term_effect nodes (Some ins) size l a b =
    option_map (acted nodes size l a b) (action_of ins.op (following l) ins (word_in nodes a) (word_in nodes b) (cell_of nodes l ins (word_in nodes a)))

-- a table, and a switch with numbers of its terms
pub record SwitchTerms : Type 0 where
  pub nodes : List Node
  pub next : SwitchLocal

-- a branch on the word of a register, where it is one
abbrev pub switch_branch : List Node → ℕ → SwitchLocal → Option ℕ → (ℕ → ℕ) → Option SwitchTerms
switch_branch nodes size l None pc = None
switch_branch nodes size l (Some x) pc = Some (record { nodes = nodes; next = switch_goes size l l.regs (pc x) })

-- the register that counts down has the term of the word less 1
abbrev pub counted : ℕ → SwitchLocal → SwitchInstruction → ℕ → Numbered → SwitchTerms
counted size l ins x r =
    record { nodes = r.nodes; next = switch_goes size l (slice_set l.regs ins.rd r.number) (if x == 0 then switch_following l else ins.target) }

abbrev pub count_down : List Node → ℕ → SwitchLocal → SwitchInstruction → Option ℕ → Option SwitchTerms
count_down nodes size l ins None = None
count_down nodes size l ins (Some x) = Some (counted size l ins x (with_node nodes (Const (word_sub x 1))))

-- the switch after an instruction; branches want words
abbrev pub term_control : List Node → SwitchOp → ℕ → SwitchLocal → SwitchInstruction → ℕ → Option SwitchTerms
term_control nodes switch.Beqz size l ins value =
    switch_branch nodes size l (word_in nodes (slice_index l.regs ins.rd)) (λ x. if x == 0 then ins.target else switch_following l)
term_control nodes switch.Bnez size l ins value =
    switch_branch nodes size l (word_in nodes (slice_index l.regs ins.rd)) (λ x. if x == 0 then switch_following l else ins.target)
term_control nodes switch.Bnezd size l ins value = count_down nodes size l ins (word_in nodes (slice_index l.regs ins.rd))
term_control nodes switch.Nop size l ins value = Some (record { nodes = nodes; next = control switch.Nop size l ins value })
term_control nodes switch.Jump size l ins value = Some (record { nodes = nodes; next = control switch.Jump size l ins value })
term_control nodes switch.Move size l ins value = Some (record { nodes = nodes; next = control switch.Move size l ins value })
term_control nodes switch.Halt size l ins value = Some (record { nodes = nodes; next = control switch.Halt size l ins value })

-- the switch after its next instruction
abbrev pub term_switch : List Node → Option SwitchInstruction → ℕ → SwitchLocal → List (Option ℕ) → Option SwitchTerms
term_switch nodes None size l given = Some (record { nodes = nodes; next = (switch_effect_of None size l given).next })
term_switch nodes (Some ins) size l given = term_control nodes ins.op size l ins (unwrap_or (source_value l.regs given (move_source ins)) 0)
