-- The table of a switch's instructions: what each does to the switch and sends.
use Rattle.std.specs.Prelude.{ℕ, ◌+◌, ◌%◌, ◌^◌, ◌==◌, Option, Some, None, List, map, length, slice_get, slice_set, slice_index, slice_index_or, unwrap_or, if◌then◌else◌}
use Rattle.raw_tile_isa.specs.Words.{word_sub}
use Rattle.raw_switch_isa.specs.declared.table.SwitchOp.{SwitchOp}
use Rattle.raw_switch_isa.specs.declared.table.SwitchOp.TheVariants.{Nop, Jump, Beqz, Bnez, Bnezd, Move, Halt}
use Rattle.raw_switch_isa.specs.declared.instruction.SwitchSource.{SwitchSource}
use Rattle.raw_switch_isa.specs.declared.instruction.SwitchSource.TheVariants.{Register, Input}
use Rattle.raw_switch_isa.specs.Instruction.{SwitchInstruction}
use Rattle.raw_switch_isa.specs.Ends.{ends, route_source, move_source}
use Rattle.raw_model.specs.declared.marks.Mark.{Mark}
use Rattle.raw_model.specs.declared.marks.Mark.TheVariants.{Halted, Trapped}
use Rattle.raw_model.specs.declared.marks.Cause.TheVariants.{Pc}
use Rattle.raw_model.specs.Local.{SwitchLocal}
use Rattle.raw_model.specs.TileTable.{mark_at}

-- what a row does: the local state after it, and for each of the ten outputs the value sent, if there
-- is one
pub record SwitchEffect : Type 0 where
  pub next : SwitchLocal
  pub sent : List (Option ℕ)

-- the value of a source: that of a register, or the one given for an input. One given value serves
-- every use of its input.
abbrev pub source_value : List ℕ → List (Option ℕ) → Option SwitchSource → Option ℕ
source_value regs given None = None
source_value regs given (Some (Register register)) = Some (slice_index regs register)
source_value regs given (Some (Input input)) = slice_index_or given input None

-- the values that the routes send, by output, with the registers as they were before the instruction
abbrev pub routed : SwitchInstruction → List ℕ → List (Option ℕ) → List (Option ℕ)
routed ins regs given = map (λ output. source_value regs given (route_source ins output)) ends

-- the pc of the instruction that follows
abbrev pub following : SwitchLocal → ℕ
following l = (l.pc + 1) % 2 ^ 32

-- the switch goes on at this pc with these registers, in a program of this size
abbrev pub goes : ℕ → SwitchLocal → List ℕ → ℕ → SwitchLocal
goes size l regs pc = record { regs = regs; pc = pc; count = l.count + 1; mark = mark_at size pc }

-- the switch stops with this mark: only the count rises
abbrev pub stops : SwitchLocal → Mark → SwitchLocal
stops l mark = record l { count = l.count + 1; mark = mark }

-- the switch after an instruction, in a program of this size; `value` is that of a move's source
abbrev pub control : SwitchOp → ℕ → SwitchLocal → SwitchInstruction → ℕ → SwitchLocal
control Nop size l ins value = goes size l l.regs (following l)
control Jump size l ins value = goes size l l.regs ins.target
control Beqz size l ins value = goes size l l.regs (if slice_index l.regs ins.rd == 0 then ins.target else following l)
control Bnez size l ins value = goes size l l.regs (if slice_index l.regs ins.rd == 0 then following l else ins.target)
control Bnezd size l ins value =
    goes size l (slice_set l.regs ins.rd (word_sub (slice_index l.regs ins.rd) 1)) (if slice_index l.regs ins.rd == 0 then following l else ins.target)
control Move size l ins value = goes size l (slice_set l.regs ins.rd value) (following l)
control Halt size l ins value = stops l Halted

-- the instruction that is next; none where the pc is past the program
abbrev pub next_instruction : List SwitchInstruction → SwitchLocal → Option SwitchInstruction
next_instruction code l = slice_get code l.pc

-- the row of the instruction, if there is one
abbrev pub effect_of : Option SwitchInstruction → ℕ → SwitchLocal → List (Option ℕ) → SwitchEffect
effect_of None size l given = record { next = stops l (Trapped Pc); sent = map (λ _. None) ends }
effect_of (Some ins) size l given =
    record {
      next = control ins.op size l ins (unwrap_or (source_value l.regs given (move_source ins)) 0);
      sent = routed ins l.regs given;
    }

-- the effect of the instruction at the switch's pc, with the values given by input
abbrev pub switch_row : List SwitchInstruction → SwitchLocal → List (Option ℕ) → SwitchEffect
switch_row code l given = effect_of (next_instruction code l) (length code) l given
