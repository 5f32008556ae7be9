-- A switch's branch on a term that stands in a register.
use Rattle.std.proofs.Common.{◌≡◌, ℕ, true, false, cond, List, length, Option, Some, None, refl, sym, ap, ap₂, ◌∙◌, subst}
use Rattle.std.specs.Prelude.{slice_index, unwrap_or, IsSomeAnd, ◌==◌}
use Rattle.std.specs.Option.{option_map}
use Rattle.raw_network.specs.Network.{Row, fronts, taken, appended}
use Rattle.raw_switch_isa.specs.declared.table.SwitchOp.{SwitchOp}
use Rattle.raw_switch_isa.specs.declared.table.SwitchOp.TheVariants as switch
use Rattle.raw_switch_isa.specs.Instruction.{SwitchInstruction}
use Rattle.raw_switch_isa.specs.Ends.{move_source}
use Rattle.raw_model.specs.Program.{ProgramSet}
use Rattle.raw_model.specs.Local.{Local, Switch, SwitchLocal}
use Rattle.raw_model.specs.SwitchTable.{next_instruction, effect_of, source_value, following}
use Rattle.raw_model.specs.Machine.{is_stopped, takes, switch_code, given_to, switch_network_row, row}
use Rattle.raw_serial.specs.Needs.{IsTaken}
use Rattle.raw_flow.specs.declared.node.Node.{Node}
use Rattle.raw_term.specs.Terms.{word_in}
use Rattle.raw_term.specs.TermRows.{SwitchTerms, switch_branch, count_down, term_control, term_switch}
use Rattle.raw_term.specs.TermMachine.{switch_term_row}
use Rattle.raw_prove.proofs.Ready.{ready_met}
use Rattle.raw_rows.specs.Noted.{noting, noted_switch_row}
use Rattle.raw_lengths.specs.Noting.{is_branch, IsLookAt, IsBranch, IsNotedAfter, IsNoted}

-- a branch wants a word
wants_word : (o : SwitchOp) (nodes : List Node) (size : ℕ) (l : SwitchLocal) (ins : SwitchInstruction) (value : ℕ) → is_branch o ≡ true → word_in nodes (slice_index l.regs ins.rd) ≡ None
    → term_control nodes o size l ins value ≡ None
wants_word switch.Beqz nodes size l ins value e none = ap (λ (x : Option ℕ). switch_branch nodes size l x (λ (y : ℕ). cond (y == 0) ins.target (following l))) none
wants_word switch.Bnez nodes size l ins value e none = ap (λ (x : Option ℕ). switch_branch nodes size l x (λ (y : ℕ). cond (y == 0) (following l) ins.target)) none
wants_word switch.Bnezd nodes size l ins value e none = ap (λ (x : Option ℕ). count_down nodes size l ins x) none
wants_word _ nodes size l ins value e none = absurd (cc e)

module _ (set : ProgramSet) (p : ℕ) (l : SwitchLocal) (before : List Node) (wires left : List (List ℕ)) (values : List ℕ) (going : is_stopped set p (Switch l) ≡ false) (took : IsTaken set p (Switch l) wires left values) where
  abbrev size : ℕ
  size = length (switch_code set p)

  abbrev own : List ℕ
  own = fronts (takes set p (Switch l)) wires

  abbrev row_of_it : Option SwitchInstruction → Row Local
  row_of_it o = switch_network_row set.topo p (effect_of o size l (given_to set.topo p o own))

  hangs_at : (o : Option SwitchInstruction) → IsLookAt before l o → option_map (switch_term_row (row_of_it o)) (term_switch before o size l (given_to set.topo p o own)) ≡ None
  hangs_at None h = absurd h
  hangs_at (Some ins) h =
      ap (option_map (switch_term_row (row_of_it (Some ins))))
      (wants_word ins.op before size l ins (unwrap_or (source_value l.regs (given_to set.topo p (Some ins) own) (move_source ins)) 0) h.op h.none)

  module _ (term : ℕ) (nodes : List Node) (next : SwitchLocal) (later : List (List ℕ)) where
    does_at : (o : Option SwitchInstruction) → IsBranch before size l o term nodes next → appended (row_of_it o).sent (taken (takes set p (Switch l)) wires) ≡ later
        → IsSomeAnd (noted_switch_row set.topo p before size l own o) (IsNotedAfter set p (Switch l) wires term nodes (Switch next) later)
    does_at None h is = absurd h
    does_at (Some ins) h is =
        subst
        (λ (k : Option SwitchTerms). IsSomeAnd (option_map (λ (t : SwitchTerms). noting (slice_index l.regs ins.rd) (switch_term_row (row_of_it (Some ins)) t)) k) (IsNotedAfter set p (Switch l) wires term nodes (Switch next) later))
        (sym h.does) (record { term_is = h.term_is; after = record { nodes_are = refl; next_is = refl; wires_are = is } })

    pub switch_noted : (code : List SwitchInstruction) → code ≡ switch_code set p → later ≡ appended (row set p (Switch l) values).sent left → IsLookAt before l (next_instruction (switch_code set p) l)
        → IsBranch before (length code) l (next_instruction code l) term nodes next → IsNoted set p before (Switch l) wires term nodes (Switch next) later
    switch_noted code is later_is look h =
        let branch : IsBranch before size l (next_instruction (switch_code set p) l) term nodes next =
        subst (λ (c : List SwitchInstruction). IsBranch before (length c) l (next_instruction c l) term nodes next) is h in
        let sent : appended (row_of_it (next_instruction (switch_code set p) l)).sent (taken (takes set p (Switch l)) wires) ≡ later =
        sym (later_is ∙ ap₂ (λ (vs : List ℕ) (ws : List (List ℕ)). appended (row set p (Switch l) vs).sent ws) took.values took.rest) in
        record {
          may = ready_met set p (Switch l) wires going took.met;
          hangs = hangs_at (next_instruction (switch_code set p) l) look;
          does = does_at (next_instruction (switch_code set p) l) branch sent;
        }
