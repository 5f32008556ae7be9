-- A tile's branch on a term that stands in a register.
use Rattle.std.proofs.Common.{◌≡◌, ℕ, Bool, true, false, ◌||◌, not, ◌&&◌, cond, List, [], ◌∷◌, ◌++◌, length, Option, Some, None, refl, sym, ap, ap₂, ◌∙◌, subst}
use Rattle.std.specs.Prelude.{slice_index, IsSomeAnd, ◌==◌}
use Rattle.std.specs.Option.{option_map, option_to_list}
use Rattle.std.specs.List.{flat_map}
use Rattle.raw_network.specs.Network.{fronts, taken, appended, has_values, has_room}
use Rattle.raw_grid.specs.Topology.{Topology}
use Rattle.raw_grid.specs.Wires.{output_wire, input_wire}
use Rattle.raw_tile_isa.specs.declared.table.TileOp.{TileOp}
use Rattle.raw_tile_isa.specs.declared.table.TileOp.TheVariants.{Beq, Bne}
use Rattle.raw_tile_isa.specs.declared.networks.TheConstants.{NETWORK_1, NETWORK_2}
use Rattle.raw_tile_isa.specs.Instruction.{Instruction, uses, is_rs, reads_rt, is_network, register_at}
use Rattle.raw_tile_isa.specs.Table.{row_of}
use Rattle.raw_model.specs.Program.{ProgramSet}
use Rattle.raw_model.specs.Local.{Tile, TileLocal}
use Rattle.raw_model.specs.TileTable.{goes, moved, following, next_instruction}
use Rattle.raw_model.specs.Machine.{machine_of, is_stopped, takes, sends, tile_code, tile_takes, tile_sends, source_wire, destination_wire, first_operand, second_operand, operand, values_after, sent_to}
use Rattle.raw_flow.specs.declared.node.Node.{Node}
use Rattle.raw_term.specs.Terms.{word_in}
use Rattle.raw_term.specs.TermRows.{TileTerms, action_of, acted, cell_of, term_effect}
use Rattle.raw_term.specs.TermMachine.{TermRow, tile_term_row}
use Rattle.raw_term.proofs.Terms.{none_some}
use Rattle.raw_prove.specs.Turns.{ready, next_row}
use Rattle.raw_rows.specs.Noted.{noted_pc, noted_tile, NotedRow, noting, noted_tile_row, noted_row}
use Rattle.raw_lengths.specs.Noting.{IsTileLook, IsTileLookAt, first_held, IsNotedAfter, IsNoted}

-- such a branch reads both registers, writes none, and wants words
reads_first : (o : TileOp) (next pc : ℕ) (ins : Instruction) → noted_pc o next ins ≡ Some pc → uses is_rs o ≡ true
reads_first Bne next pc ins e = refl
reads_first Beq next pc ins e = refl
reads_first _ next pc ins e = none_some pc e

reads_second : (o : TileOp) (next pc : ℕ) (ins : Instruction) → noted_pc o next ins ≡ Some pc → reads_rt o ≡ true
reads_second Bne next pc ins e = refl
reads_second Beq next pc ins e = refl
reads_second _ next pc ins e = none_some pc e

writes_none : (o : TileOp) (next pc : ℕ) (ins : Instruction) → noted_pc o next ins ≡ Some pc → register_at (row_of o).destination ins ≡ None
writes_none Bne next pc ins e = refl
writes_none Beq next pc ins e = refl
writes_none _ next pc ins e = none_some pc e

wants_word : (o : TileOp) (next pc : ℕ) (ins : Instruction) (b cell : Option ℕ) → noted_pc o next ins ≡ Some pc → action_of o next ins None b cell ≡ None
wants_word Bne next pc ins b cell e = refl
wants_word Beq next pc ins b cell e = refl
wants_word _ next pc ins b cell e = none_some pc e

no_wire : (topo : Topology) (p r : ℕ) → is_network r ≡ false → source_wire topo p r ≡ []
no_wire topo p r e = by (r == NETWORK_1) (r == NETWORK_2) e where
  by : (a b : Bool) → (a || b) ≡ false → cond a (option_to_list (input_wire topo p 4)) (cond b (option_to_list (input_wire topo p 9)) []) ≡ []
  by false false f = refl
  by false true f = absurd (cc f)
  by true b f = absurd (cc f)

nothing_sent : (o : Option ℕ) → sent_to o None ≡ []
nothing_sent None = refl
nothing_sent (Some w) = refl

module _ (topo : Topology) (p : ℕ) (ins : Instruction) (next pc : ℕ) (goes_to : noted_pc ins.op next ins ≡ Some pc) (first : is_network ins.rs ≡ false) (second : is_network ins.rt ≡ false) where
  takes_none : tile_takes topo p (Some ins) ≡ []
  takes_none =
      ap₂ (λ (a b : Bool). flat_map (source_wire topo p) (cond a (ins.rs ∷ []) [] ++ cond b (ins.rt ∷ []) [])) (reads_first ins.op next pc ins goes_to) (reads_second ins.op next pc ins goes_to)
      ∙ ap₂ (λ (a b : List ℕ). a ++ (b ++ [])) (no_wire topo p ins.rs first) (no_wire topo p ins.rt second)

  sends_none : tile_sends topo p (Some ins) ≡ []
  sends_none = ap (λ (o : Option ℕ). flat_map (destination_wire topo p) (option_to_list o)) (writes_none ins.op next pc ins goes_to)

  first_is : (regs values : List ℕ) → first_operand (Some ins) regs values ≡ slice_index regs ins.rs
  first_is regs values =
      ap (λ (a : Bool). cond a (operand regs values ins.rs) 0) (reads_first ins.op next pc ins goes_to)
      ∙ ap (λ (a : Bool). cond a (slice_index values 0) (slice_index regs ins.rs)) first

  second_is : (regs values : List ℕ) → second_operand (Some ins) regs values ≡ slice_index regs ins.rt
  second_is regs values =
      ap (λ (a : Bool). cond a (operand regs (cond (uses is_rs ins.op) (values_after values ins.rs) values) ins.rt) 0) (reads_second ins.op next pc ins goes_to)
      ∙ ap (λ (a : Bool). cond a (slice_index (cond (uses is_rs ins.op) (values_after values ins.rs) values) 0) (slice_index regs ins.rt)) second

module _ (set : ProgramSet) (p : ℕ) (l : TileLocal) (nodes : List Node) (wires : List (List ℕ)) (pc : ℕ) (going : is_stopped set p (Tile l) ≡ false) where
  abbrev size : ℕ
  size = length (tile_code set p)

  -- the next instruction, and what is said of it
  module _ (ins : Instruction) (here : next_instruction (tile_code set p) l ≡ Some ins) (look : IsTileLook nodes l pc ins) where
    takes_is : takes set p (Tile l) ≡ []
    takes_is = ap (tile_takes set.topo p) here ∙ takes_none set.topo p ins (following l) pc look.goes look.first look.second

    sends_is : sends set p (Tile l) ≡ []
    sends_is = ap (tile_sends set.topo p) here ∙ sends_none set.topo p ins (following l) pc look.goes look.first look.second

    may_step : ready set p (Tile l) wires ≡ true
    unfolding machine_of
    may_step =
        ap (λ (b : Bool). not b && (has_values (takes set p (Tile l)) wires && has_room set.depth (sends set p (Tile l)) wires)) going
        ∙ ap₂ (λ (us vs : List ℕ). has_values us wires && has_room set.depth vs wires) takes_is sends_is

    effect_none : (values : List ℕ) → term_effect nodes (Some ins) size l (first_operand (Some ins) l.regs values) (second_operand (Some ins) l.regs values) ≡ None
    effect_none values =
        let a : ℕ = first_operand (Some ins) l.regs values in
        let b : ℕ = second_operand (Some ins) l.regs values in
        let none : word_in nodes a ≡ None = ap (word_in nodes) (first_is set.topo p ins (following l) pc look.goes look.first look.second l.regs values) ∙ look.none in
        ap (option_map (acted nodes size l a b))
        (ap (λ (x : Option ℕ). action_of ins.op (following l) ins x (word_in nodes b) (cell_of nodes l ins x)) none ∙ wants_word ins.op (following l) pc ins (word_in nodes b) None look.goes)

    hangs_here : next_row set nodes p (Tile l) wires ≡ None
    hangs_here =
        let values : List ℕ = fronts (takes set p (Tile l)) wires in
        ap (λ (o : Option Instruction). option_map (tile_term_row set.topo p) (term_effect nodes o size l (first_operand o l.regs values) (second_operand o l.regs values))) here
        ∙ ap (option_map (tile_term_row set.topo p)) (effect_none values)

    abbrev row_then : TermRow
    row_then = tile_term_row set.topo p (record { nodes = nodes; effect = goes size l pc })

    row_is : (values : List ℕ) → noted_row set nodes p (Tile l) values ≡ Some (noting (slice_index l.regs ins.rs) row_then)
    row_is values =
        let a : ℕ = first_operand (Some ins) l.regs values in
        let zero_is : word_in nodes (second_operand (Some ins) l.regs values) ≡ Some 0 =
        ap (word_in nodes) (second_is set.topo p ins (following l) pc look.goes look.first look.second l.regs values) ∙ look.zero in
        ap (noted_tile_row set.topo p nodes size l values) here
        ∙ ap₂ (λ (x q : Option ℕ). option_map (λ (t : TileTerms). noting a (tile_term_row set.topo p t)) (noted_tile nodes size l x q)) zero_is look.goes
        ∙ ap (λ (c : ℕ). Some (noting c row_then)) (first_is set.topo p ins (following l) pc look.goes look.first look.second l.regs values)

    leaves : appended row_then.row.sent (taken (takes set p (Tile l)) wires) ≡ wires
    leaves =
        ap₂ (λ ms us. appended ms (taken us wires)) (ap₂ (λ ms ns. ms ++ ns) (nothing_sent (output_wire set.topo p 4)) (nothing_sent (output_wire set.topo p 9))) takes_is

    noted_here : IsNoted set p nodes (Tile l) wires (slice_index l.regs ins.rs) nodes (Tile (moved size l pc)) wires
    noted_here = record {
      may = may_step;
      hangs = hangs_here;
      does = subst (λ (o : Option NotedRow). IsSomeAnd o (IsNotedAfter set p (Tile l) wires (slice_index l.regs ins.rs) nodes (Tile (moved size l pc)) wires)) (sym (row_is (fronts (takes set p (Tile l)) wires)))
          (record { term_is = refl; after = record { nodes_are = refl; next_is = refl; wires_are = leaves } });
    }

  by_next : (o : Option Instruction) → next_instruction (tile_code set p) l ≡ o → IsTileLookAt nodes l pc o → IsNoted set p nodes (Tile l) wires (first_held l.regs o) nodes (Tile (moved size l pc)) wires
  by_next None e h = absurd h
  by_next (Some ins) e h = noted_here ins e h

  -- the program is that of the set
  pub tile_noted : (code : List Instruction) → code ≡ tile_code set p → IsTileLookAt nodes l pc (next_instruction code l)
      → IsNoted set p nodes (Tile l) wires (first_held l.regs (next_instruction code l)) nodes (Tile (moved (length code) l pc)) wires
  tile_noted code is h =
      subst (λ (c : List Instruction). IsTileLookAt nodes l pc (next_instruction c l) → IsNoted set p nodes (Tile l) wires (first_held l.regs (next_instruction c l)) nodes (Tile (moved (length c) l pc)) wires)
      (sym is) (by_next (next_instruction (tile_code set p) l) refl) h
