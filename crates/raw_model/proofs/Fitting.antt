-- What fits a program set fits it after each step.
use Rattle.std.proofs.Common.{◌≡◌, ℕ, ◌-◌, ◌*◌, ◌^◌, ◌<◌, ◌≤◌, Bool, true, false, cond, ◌||◌, leb, List, [], ◌∷◌, length, drop, Option, Some, None, refl, ◌∙◌, arith, length-set}
use Rattle.std.specs.Prelude.{slice_get, slice_index, slice_index_or}
use Rattle.std.specs.List.{flat_map, All}
use Rattle.std.proofs.lemmas.Bool.{leb-false, or_parts}
use Rattle.std.proofs.lemmas.List.{length_push}
use Rattle.std.proofs.lemmas.List.Elements.{All-nil, All-cons, All-append, All-drop, All-map}
use Rattle.raw_network.specs.Network.{Sent}
use Rattle.raw_network.specs.Network.{values_on, row_at, step_from}
use Rattle.raw_network.specs.Wired.{IsInvariant}
use Rattle.raw_network.specs.Laws.{AreFit}
use Rattle.raw_network.proofs.Bounds.{depth_kept}
use Rattle.raw_network.proofs.Kept.{fit_after}
use Rattle.raw_network.proofs.Wires.{length-moved}
use Rattle.raw_tile_isa.specs.Instruction.{Instruction, IsTileIns, uses, is_rs, reads_rt, is_network}
use Rattle.raw_switch_isa.specs.Instruction.{IsSwitchIns}
use Rattle.raw_switch_isa.specs.Ends.{ends}
use Rattle.raw_grid.specs.Wires.{output_wire}
use Rattle.raw_grid.specs.Topology.{tile_count}
use Rattle.raw_model.specs.Program.{ProgramSet, TileProgram, PortProgram, IsTileProgram, IsPortProgram, IsSet}
use Rattle.raw_model.specs.Local.{Local, Tile, Switch, Source, Sink, TileLocal, SwitchLocal}
use Rattle.raw_model.specs.TileTable.{next_instruction}
use Rattle.raw_model.specs.SwitchTable.{switch_row}
use Rattle.raw_model.specs.SwitchTable.{next_instruction as next_switch_instruction}
use Rattle.raw_model.specs.Machine.{program_code, tile_code, program_switch, switch_code, operand, values_after, first_operand, second_operand, tile_effect, sent_to, given_to, port_outputs, port_program, words_of, capacity_of, is_ended, is_stopped, row, machine_of}
use Rattle.raw_model.specs.Start.{MachineState, FitsTile, FitsSwitch, IsFit, Fits}
use Rattle.raw_model.specs.Rest.{enabled, step, IsLawfulFrom, end_from}
use Rattle.raw_model.proofs.Once.{sends_once}
use Rattle.raw_model.proofs.Finite.{tile_counts, switch_counts}
use Rattle.raw_model.proofs.Words.{All-each, all_at, word_in, IsWordIf}
use Rattle.raw_model.proofs.TileRows.{IsTile, IsSound, either_below}
use Rattle.raw_model.proofs.TileRows.{effect_sound as tile_sound}
use Rattle.raw_model.proofs.SwitchRows.{IsSwitch, IsSoundSwitch, all_given, sent_word}
use Rattle.raw_model.proofs.SwitchRows.{effect_sound as switch_sound}

abbrev AreWords : List ℕ → Type 0
AreWords words = All (λ word. word < 2 ^ 32) words

-- the operands of a tile are words
operand_word : (regs values : List ℕ) (register : ℕ) → AreWords regs → AreWords values → operand regs values register < 2 ^ 32
operand_word regs values register r v =
    either_below (is_network register) (slice_index values 0) (slice_index regs register) (word_in values 0 v) (word_in regs register r)

first_word : (o : Option Instruction) (regs values : List ℕ) → AreWords regs → AreWords values → first_operand o regs values < 2 ^ 32
first_word None regs values r v = omega arith
first_word (Some ins) regs values r v =
    either_below (uses is_rs ins.op) (operand regs values ins.rs) 0 (operand_word regs values ins.rs r v) (omega arith)

chosen_words : (b : Bool) (xs ys : List ℕ) → AreWords xs → AreWords ys → AreWords (cond b xs ys)
chosen_words true xs ys x y = x
chosen_words false xs ys x y = y

second_word : (o : Option Instruction) (regs values : List ℕ) → AreWords regs → AreWords values → second_operand o regs values < 2 ^ 32
second_word None regs values r v = omega arith
second_word (Some ins) regs values r v =
    let left = chosen_words (uses is_rs ins.op) (values_after values ins.rs) values
    (chosen_words (is_network ins.rs) (drop 1 values) values (All-drop (λ word. word < 2 ^ 32) 1 values v) v) v in
    either_below (reads_rt ins.op) _ 0 (operand_word regs _ ins.rt r left) (omega arith)

-- values on their way are words
sent_is_word : (o value : Option ℕ) → IsWordIf value → All (λ (m : Sent). m.value < 2 ^ 32) (sent_to o value)
sent_is_word None value word = All-nil (λ (m : Sent). m.value < 2 ^ 32)
sent_is_word (Some w) None word = All-nil (λ (m : Sent). m.value < 2 ^ 32)
sent_is_word (Some w) (Some value) word =
    All-cons (λ (m : Sent). m.value < 2 ^ 32) (record { wire = w; value = value }) [] word (All-nil (λ (m : Sent). m.value < 2 ^ 32))

all_sent_words : (ms : ℕ → List Sent) → ((end : ℕ) → All (λ (m : Sent). m.value < 2 ^ 32) (ms end)) → (list : List ℕ)
    → All (λ (m : Sent). m.value < 2 ^ 32) (flat_map ms list)
all_sent_words ms each [] = All-nil (λ (m : Sent). m.value < 2 ^ 32)
all_sent_words ms each (end ∷ others) =
    All-append (λ (m : Sent). m.value < 2 ^ 32) (ms end) (flat_map ms others) (each end) (all_sent_words ms each others)

module _ (set : ProgramSet) (valid : IsSet set) where
  -- programs are of lawful instructions, and ports have words
  code_lawful : (p : ℕ) → All IsTileIns (tile_code set p)
  code_lawful p = from (slice_get set.tiles p) refl
    where
      from : (o : Option TileProgram) → slice_get set.tiles p ≡ o → All IsTileIns (program_code o)
      from None here = All-nil IsTileIns
      from (Some tile) here = (all_at IsTileProgram set.tiles p tile valid.tile_programs here).instructions

  pub switch_lawful : (p : ℕ) → All IsSwitchIns (switch_code set p)
  switch_lawful p = from (slice_get set.tiles (p - tile_count set.topo)) refl
    where
      from : (o : Option TileProgram) → slice_get set.tiles (p - tile_count set.topo) ≡ o → All IsSwitchIns (program_switch o)
      from None here = All-nil IsSwitchIns
      from (Some tile) here = (all_at IsTileProgram set.tiles (p - tile_count set.topo) tile valid.tile_programs here).switch_instructions

  port_words : (p : ℕ) → AreWords (words_of (port_program set p))
  port_words p = from (port_program set p) refl
    where
      from : (o : Option PortProgram) → port_program set p ≡ o → AreWords (words_of o)
      from None here = All-nil (λ word. word < 2 ^ 32)
      from (Some port) here = (all_at IsPortProgram set.ports (p - 2 * tile_count set.topo) port valid.port_programs here).words

  -- the row of a tile that fits
  module _ (p : ℕ) (l : TileLocal) (values : List ℕ) (fits : FitsTile set.limit (tile_code set p) l) (words : AreWords values) where
    tile_is : IsTile l
    tile_is =
        record {
          registers = record {
            many = fits.registers;
            words = fits.words;
            register_0 = fits.register_0;
            register_24 = fits.register_24;
            register_25 = fits.register_25;
          };
          pc = fits.pc;
          memory = fits.memory;
          bytes = fits.bytes;
        }

    tile_row_sound : IsSound (length (tile_code set p)) (tile_effect (tile_code set p) l values)
    tile_row_sound =
        tile_sound (length (tile_code set p)) l tile_is (next_instruction (tile_code set p) l)
        (first_operand (next_instruction (tile_code set p) l) l.regs values)
        (second_operand (next_instruction (tile_code set p) l) l.regs values)
        (λ ins here. all_at IsTileIns (tile_code set p) l.pc ins (code_lawful p) here)
        (first_word (next_instruction (tile_code set p) l) l.regs values fits.words words)
        (second_word (next_instruction (tile_code set p) l) l.regs values fits.words words)

    tile_fits : (is_ended l.mark || leb set.limit l.count) ≡ false
        → FitsTile set.limit (tile_code set p) (tile_effect (tile_code set p) l values).next
    tile_fits going =
        let below = leb-false set.limit l.count (or_parts (is_ended l.mark) (leb set.limit l.count) going).1 in
        let more = tile_counts (next_instruction (tile_code set p) l) (length (tile_code set p)) l
        (first_operand (next_instruction (tile_code set p) l) l.regs values)
        (second_operand (next_instruction (tile_code set p) l) l.regs values) in
        record {
          registers = tile_row_sound.tile.registers.many;
          words = tile_row_sound.tile.registers.words;
          register_0 = tile_row_sound.tile.registers.register_0;
          register_24 = tile_row_sound.tile.registers.register_24;
          register_25 = tile_row_sound.tile.registers.register_25;
          pc = tile_row_sound.tile.pc;
          inside = tile_row_sound.inside;
          count = omega arith;
          memory = tile_row_sound.tile.memory;
          bytes = tile_row_sound.tile.bytes;
        }

  -- the row of a switch that fits
  module _ (p : ℕ) (l : SwitchLocal) (values : List ℕ) (fits : FitsSwitch set.limit (switch_code set p) l) (words : AreWords values) where
    switch_is : IsSwitch l
    switch_is = record { registers = fits.registers; words = fits.words; pc = fits.pc }

    switch_row_sound : IsSoundSwitch (length (switch_code set p)) (switch_row (switch_code set p) l (given_to set.topo p (next_switch_instruction (switch_code set p) l) values)).next
    switch_row_sound =
        switch_sound (length (switch_code set p)) l switch_is
        (given_to set.topo p (next_switch_instruction (switch_code set p) l) values)
        (all_given set.topo p (next_switch_instruction (switch_code set p) l) values words)
        (next_switch_instruction (switch_code set p) l)
        (λ ins here. all_at IsSwitchIns (switch_code set p) l.pc ins (switch_lawful p) here)

    switch_fits : (is_ended l.mark || leb set.limit l.count) ≡ false
        → FitsSwitch set.limit (switch_code set p) (switch_row (switch_code set p) l (given_to set.topo p (next_switch_instruction (switch_code set p) l) values)).next
    switch_fits going =
        let below = leb-false set.limit l.count (or_parts (is_ended l.mark) (leb set.limit l.count) going).1 in
        let more = switch_counts (next_switch_instruction (switch_code set p) l) (length (switch_code set p)) l
        (given_to set.topo p (next_switch_instruction (switch_code set p) l) values) in
        record {
          registers = switch_row_sound.switch.registers;
          words = switch_row_sound.switch.words;
          pc = switch_row_sound.switch.pc;
          inside = switch_row_sound.inside;
          count = omega arith;
        }

  next_fits : (p : ℕ) (l : Local) (values : List ℕ) → IsFit set p l → is_stopped set p l ≡ false → AreWords values
      → IsFit set p (row set p l values).next
  next_fits p (Tile l) values fits going words = (fits.0, tile_fits p l values fits.1 words going)
  next_fits p (Switch l) values fits going words = (fits.0, switch_fits p l values fits.1 words going)
  next_fits p (Source l) values fits going words =
      let below = leb-false (length (words_of (port_program set p))) l.done going in
      (fits.0, record { done = omega arith; got = fits.1.got })
  next_fits p (Sink l) values fits going words =
      let below = leb-false (capacity_of (port_program set p)) l.done going in
      let more = length_push l.got (slice_index values 0) in
      let same = fits.1.got in (
        fits.0,
        record {
          done = omega arith;
          got = omega arith;
          words = All-append (λ word. word < 2 ^ 32) l.got (slice_index values 0 ∷ []) fits.1.words
              (All-cons (λ word. word < 2 ^ 32) (slice_index values 0) [] (word_in values 0 words) (All-nil (λ word. word < 2 ^ 32)));
        },
      )

  sent_fine : (p : ℕ) (l : Local) (values : List ℕ) → IsFit set p l → AreWords values
      → All (λ (m : Sent). m.value < 2 ^ 32) (row set p l values).sent
  sent_fine p (Tile l) values fits words =
      let sound = tile_row_sound p l values fits.1 words in
      All-append (λ (m : Sent). m.value < 2 ^ 32) _ _
      (sent_is_word (output_wire set.topo p 4) (tile_effect (tile_code set p) l values).sent1 sound.sent1)
      (sent_is_word (output_wire set.topo p 9) (tile_effect (tile_code set p) l values).sent2 sound.sent2)
  sent_fine p (Switch l) values fits words =
      let given = given_to set.topo p (next_switch_instruction (switch_code set p) l) values in
      all_sent_words
      (λ end. sent_to (output_wire set.topo p end) (slice_index_or (switch_row (switch_code set p) l given).sent end None))
      (λ end. sent_is_word (output_wire set.topo p end) (slice_index_or (switch_row (switch_code set p) l given).sent end None)
      (sent_word (length (switch_code set p)) l (switch_is p l values fits.1 words) given
      (all_given set.topo p (next_switch_instruction (switch_code set p) l) values words)
      (next_switch_instruction (switch_code set p) l) end)) ends
  sent_fine p (Source l) values fits words =
      let value = slice_index (words_of (port_program set p)) l.done in
      All-map (λ (m : Sent). m.value < 2 ^ 32) (λ w. record { wire = w; value = value }) (port_outputs set.topo p)
      (All-each (λ w. value < 2 ^ 32) (λ w. word_in (words_of (port_program set p)) l.done (port_words p)) (port_outputs set.topo p))
  sent_fine p (Sink l) values fits words = All-nil (λ (m : Sent). m.value < 2 ^ 32)

  -- local states that fit, and words on wires, are an invariant of the machine
  pub invariant : IsInvariant (machine_of set) (IsFit set) (λ value. value < 2 ^ 32)
  unfolding machine_of
  invariant =
      record {
        next = λ p l values fits going many words. next_fits p l values fits going words;
        sent = λ p l values fits going many words. sent_fine p l values fits words;
      }

  -- a step of an enabled processor
  module _ (s : MachineState) (p : ℕ) (fits : Fits set s) (on : enabled set s p ≡ true) where
    same_locals : (o : Option Local) → length (step_from (machine_of set) s p o).locals ≡ length s.locals
    same_locals None = refl
    same_locals (Some l) = length-set s.locals p _

    same_wires : (o : Option Local) → length (step_from (machine_of set) s p o).wires ≡ length s.wires
    same_wires None = refl
    same_wires (Some l) = length-moved ((machine_of set).takes p l) (row_at (machine_of set) p l s.wires).sent s.wires

    still_fit : AreFit (IsFit set) (λ value. value < 2 ^ 32) (step set s p)
    still_fit =
        fit_after (machine_of set) (IsFit set) (λ value. value < 2 ^ 32) invariant s p on
        (record { locals = fits.locals; values = fits.values })

    still_within : (w : ℕ) → length (values_on (step set s p).wires w) ≤ set.depth
    unfolding machine_of
    still_within = depth_kept (machine_of set) (sends_once set) s p on fits.depth

    -- keeps a state that fits
    pub step_fits : Fits set (step set s p)
    step_fits =
        record {
          processors = same_locals (slice_get s.locals p) ∙ fits.processors;
          locals = still_fit.locals;
          wires = same_wires (slice_get s.locals p) ∙ fits.wires;
          depth = still_within;
          values = still_fit.values;
        }

  -- and so does each lawful list
  pub end_fits : (s : MachineState) (h : List ℕ) → Fits set s → IsLawfulFrom set s h → Fits set (end_from set s h)
  end_fits s [] fits lawful = fits
  end_fits s (p ∷ ps) fits lawful = end_fits (step set s p) ps (step_fits s p fits lawful.0) lawful.1
