-- A row of a switch's table keeps the switch within its ranges, and sends words.
use Rattle.std.proofs.Common.{◌≡◌, ℕ, ◌^◌, ◌<◌, eqb, List, [], ◌∷◌, length, set, drop, Option, Some, None, refl, ◌∙◌, arith, length-set}
use Rattle.std.specs.Prelude.{slice_index, slice_index_or, unwrap_or}
use Rattle.std.specs.List.{All}
use Rattle.std.proofs.lemmas.List.Elements.{All-nil, All-cons, All-set, All-map, All-drop}
use Rattle.raw_tile_isa.specs.Words.{word_sub}
use Rattle.raw_tile_isa.proofs.WordLimits.{give_words}
use Rattle.raw_switch_isa.specs.declared.table.SwitchOp.{SwitchOp}
use Rattle.raw_switch_isa.specs.declared.table.SwitchOp.TheVariants.{Nop, Jump, Beqz, Bnez, Bnezd, Move, Halt}
use Rattle.raw_switch_isa.specs.declared.instruction.SwitchSource.{SwitchSource}
use Rattle.raw_switch_isa.specs.declared.instruction.SwitchSource.TheVariants.{Register, Input}
use Rattle.raw_switch_isa.specs.Table.{uses, is_target}
use Rattle.raw_switch_isa.specs.Instruction.{SwitchInstruction, IsSwitchIns, IsField}
use Rattle.raw_switch_isa.specs.Ends.{ends, route_source, move_source}
use Rattle.raw_grid.specs.Topology.{Topology}
use Rattle.raw_model.specs.declared.marks.Mark.{Mark}
use Rattle.raw_model.specs.declared.marks.Mark.TheVariants.{Going, Halted, Trapped}
use Rattle.raw_model.specs.declared.marks.Cause.TheVariants.{Pc}
use Rattle.raw_model.specs.Local.{SwitchLocal}
use Rattle.raw_model.specs.SwitchTable.{source_value, following, goes, stops, control, effect_of}
use Rattle.raw_model.specs.Machine.{taken_at, given_first, given_at, given_to}
use Rattle.raw_model.proofs.Words.{All-each, read_at, word_in, IsWordIf}
use Rattle.raw_model.proofs.TileRows.{going_inside, either_below}

-- what a row finds of its switch
pub record IsSwitch (l : SwitchLocal) : Type 0 where
  pub registers : length l.regs ≡ 4
  pub words : All (λ word. word < 2 ^ 32) l.regs
  pub pc : l.pc < 2 ^ 32

-- what it leaves, in a program of this size
pub record IsSoundSwitch (size : ℕ) (next : SwitchLocal) : Type 0 where
  pub switch : IsSwitch next
  pub inside : next.mark ≡ Going → next.pc < size

-- the values given for the inputs are words
given_word : (wires values : List ℕ) → All (λ word. word < 2 ^ 32) values → IsWordIf (given_first wires values)
given_word [] values words = tt
given_word (wire ∷ wires) values words = word_in values 0 words

given_words : (t : Topology) (p : ℕ) (ins : SwitchInstruction) (inputs values : List ℕ)
    → All (λ word. word < 2 ^ 32) values → All IsWordIf (given_at t p ins inputs values)
given_words t p ins [] values words = All-nil IsWordIf
given_words t p ins (end ∷ others) values words =
    All-cons IsWordIf (given_first (taken_at t p ins end) values) _
    (given_word (taken_at t p ins end) values words)
    (given_words t p ins others (drop (length (taken_at t p ins end)) values) (All-drop (λ word. word < 2 ^ 32) (length (taken_at t p ins end)) values words))

pub all_given : (t : Topology) (p : ℕ) (o : Option SwitchInstruction) (values : List ℕ)
    → All (λ word. word < 2 ^ 32) values → All IsWordIf (given_to t p o values)
all_given t p None values words = All-nil IsWordIf
all_given t p (Some ins) values words = given_words t p ins ends values words

module _ (size : ℕ) (l : SwitchLocal) (is : IsSwitch l) (given : List (Option ℕ)) (words : All IsWordIf given) where
  -- the value of a source is a word
  source_word : (o : Option SwitchSource) → IsWordIf (source_value l.regs given o)
  source_word None = tt
  source_word (Some (Register register)) = word_in l.regs register is.words
  source_word (Some (Input input)) = read_at IsWordIf given input None tt words

  or_zero : (o : Option ℕ) → IsWordIf o → unwrap_or o 0 < 2 ^ 32
  or_zero None word = omega arith
  or_zero (Some value) word = word

  sound_stops : (mark : Mark) → (mark ≡ Going → ⊥) → IsSoundSwitch size (stops l mark)
  sound_stops mark ended =
      record {
        switch = record { registers = is.registers; words = is.words; pc = is.pc };
        inside = λ e. absurd (ended e);
      }

  sound_goes : (pc : ℕ) → pc < 2 ^ 32 → IsSoundSwitch size (goes size l l.regs pc)
  sound_goes pc below =
      record {
        switch = record { registers = is.registers; words = is.words; pc = below };
        inside = going_inside size pc;
      }

  sound_sets : (register value pc : ℕ) → value < 2 ^ 32 → pc < 2 ^ 32
      → IsSoundSwitch size (goes size l (set l.regs register value) pc)
  sound_sets register value pc word below =
      record {
        switch = record {
          registers = length-set l.regs register value ∙ is.registers;
          words = All-set (λ word. word < 2 ^ 32) l.regs register value word is.words;
          pc = below;
        };
        inside = going_inside size pc;
      }

  following_below : following l < 2 ^ 32
  following_below = omega arith

  -- each row of the table
  control_sound : (op : SwitchOp) (ins : SwitchInstruction) (value : ℕ) → value < 2 ^ 32
      → IsField (uses is_target op) (2 ^ 16) ins.target → IsSoundSwitch size (control op size l ins value)
  control_sound Nop ins value word target = sound_goes (following l) following_below
  control_sound Jump ins value word target = sound_goes ins.target (let h : ins.target < 2 ^ 16 = target in omega arith)
  control_sound Beqz ins value word target =
      sound_goes _ (either_below (eqb (slice_index l.regs ins.rd) 0) ins.target (following l) (let h : ins.target < 2 ^ 16 = target in omega arith) following_below)
  control_sound Bnez ins value word target =
      sound_goes _ (either_below (eqb (slice_index l.regs ins.rd) 0) (following l) ins.target following_below (let h : ins.target < 2 ^ 16 = target in omega arith))
  control_sound Bnezd ins value word target =
      sound_sets ins.rd (word_sub (slice_index l.regs ins.rd) 1) _
      (give_words (slice_index l.regs ins.rd) 1 (word_in l.regs ins.rd is.words) (omega arith)).sub
      (either_below (eqb (slice_index l.regs ins.rd) 0) (following l) ins.target following_below (let h : ins.target < 2 ^ 16 = target in omega arith))
  control_sound Move ins value word target = sound_sets ins.rd value (following l) word following_below
  control_sound Halt ins value word target = sound_stops Halted (λ e. cc e)

  -- the effect of the instruction that is next, if there is one
  pub effect_sound : (o : Option SwitchInstruction) → ((ins : SwitchInstruction) → o ≡ Some ins → IsSwitchIns ins)
      → IsSoundSwitch size (effect_of o size l given).next
  effect_sound None lawful = sound_stops (Trapped Pc) (λ e. cc e)
  effect_sound (Some ins) lawful =
      control_sound ins.op ins (unwrap_or (source_value l.regs given (move_source ins)) 0)
      (or_zero (source_value l.regs given (move_source ins)) (source_word (move_source ins)))
      (lawful ins refl).target

  -- what it sends are words
  sent_words : (o : Option SwitchInstruction) → All IsWordIf (effect_of o size l given).sent
  sent_words None = All-map IsWordIf (λ _. None) ends (All-each (λ end. Unit {0}) (λ end. tt) ends)
  sent_words (Some ins) =
      All-map IsWordIf (λ output. source_value l.regs given (route_source ins output)) ends
      (All-each (λ output. IsWordIf (source_value l.regs given (route_source ins output))) (λ output. source_word (route_source ins output)) ends)

  pub sent_word : (o : Option SwitchInstruction) (end : ℕ) → IsWordIf (slice_index_or (effect_of o size l given).sent end None)
  sent_word o end = read_at IsWordIf (effect_of o size l given).sent end None tt (sent_words o)
