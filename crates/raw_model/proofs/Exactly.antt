-- A row sends one value to each wire that it names, and none where its address is not lawful.
use Rattle.std.proofs.Common.{◌≡◌, ℕ, ◌<◌, Bool, true, false, cond, eqb, List, [], ◌∷◌, ◌++◌, length, Option, Some, None, is_some, ◌⊎◌, refl, sym, ap, ap₂, ◌∙◌, ⊎_elim, arith}
use Rattle.std.specs.Prelude.{slice_index, slice_index_or}
use Rattle.std.specs.List.{flat_map, AllByRecursion}
use Rattle.std.specs.Option.{option_to_list}
use Rattle.std.proofs.lemmas.Bool.{eqb-true}
use Rattle.raw_network.specs.Network.{count_of}
use Rattle.raw_network.specs.Runs.{sent_on}
use Rattle.raw_tile_isa.specs.Instruction.{Instruction, destination_register}
use Rattle.raw_switch_isa.specs.declared.table.SwitchOp.{SwitchOp}
use Rattle.raw_switch_isa.specs.declared.table.SwitchOp.TheVariants.{Nop, Jump, Move, Halt}
use Rattle.raw_switch_isa.specs.declared.instruction.SwitchSource.{SwitchSource}
use Rattle.raw_switch_isa.specs.Instruction.{SwitchInstruction}
use Rattle.raw_switch_isa.specs.Ends.{ends, route_source}
use Rattle.raw_grid.specs.Topology.{Topology}
use Rattle.raw_grid.specs.Wires.{output_wire}
use Rattle.raw_model.specs.Program.{ProgramSet, IsSet}
use Rattle.raw_model.specs.Local.{Local, Tile, Switch, Source, Sink, TileLocal, SwitchLocal}
use Rattle.raw_model.specs.TileTable.{TileEffect, next_instruction, sent_by, row_effect, effect_of}
use Rattle.raw_model.specs.SwitchTable.{source_value, routed, control, following}
use Rattle.raw_model.specs.SwitchTable.{next_instruction as next_switch_instruction, effect_of as switch_effect_of}
use Rattle.raw_model.specs.Machine.{tile_code, switch_code, destination_wire, tile_sends, first_operand, second_operand, tile_network_row, sent_to, filled_at, switch_sends, switch_network_row, given_to, port_outputs, port_program, words_of, sends, row}
use Rattle.raw_model.specs.Start.{IsFit}
use Rattle.raw_model.specs.Needs.{is_address_trap, is_trapped_at_address, SendsOneEach, AreGiven}
use Rattle.raw_model.proofs.Counts.{sent_each, sent_same, sent_none, sent_all}
use Rattle.raw_model.proofs.Rows.{SendsNothing, SendsBy, WritesNone, IsTrapRow, IsFullRow, no_address_trap, row_is}
use Rattle.raw_model.proofs.Once.{by_register, nothing_short, all_once}
use Rattle.raw_model.proofs.Given.{all_named_given}

not_both : (b : Bool) → b ≡ true → b ≡ false → ⊥
not_both b e f = cc

module _ (t : Topology) (p : ℕ) where
  sent_as : (effect : TileEffect) (first second : Option ℕ) → effect.sent1 ≡ first → effect.sent2 ≡ second
      → (tile_network_row t p effect).sent ≡ sent_to (output_wire t p 4) first ++ sent_to (output_wire t p 9) second
  sent_as effect first second e f = λ i. sent_to (output_wire t p 4) (e i) ++ sent_to (output_wire t p 9) (f i)

  nothing_sent : (effect : TileEffect) → SendsNothing effect → (tile_network_row t p effect).sent ≡ []
  nothing_sent effect none =
      sent_as effect None None none.sent1 none.sent2
      ∙ ap₂ (λ xs ys. xs ++ ys) (sent_none (output_wire t p 4)) (sent_none (output_wire t p 9))

  -- an unlawful address sends nothing
  trap_sends : (o : Option Instruction) (size : ℕ) (l : TileLocal) (a b : ℕ) → is_address_trap (effect_of o size l a b).next.mark ≡ true
      → (tile_network_row t p (effect_of o size l a b)).sent ≡ []
  trap_sends None size l a b trap = absurd (cc trap)
  trap_sends (Some ins) size l a b trap =
      ⊎_elim
      (λ (is : IsTrapRow (row_effect ins.op size l ins a b)). nothing_sent (row_effect ins.op size l ins a b) is.nothing)
      (λ (full : IsFullRow (destination_register ins) (row_effect ins.op size l ins a b)).
      absurd (not_both (is_address_trap (row_effect ins.op size l ins a b).next.mark) trap full.mark))
      (row_is ins.op size l ins a b).sends

  module _ (w : ℕ) where
    full_sends : (destination : Option ℕ) (effect : TileEffect) → WritesNone destination effect ⊎ SendsBy destination effect
        → length (sent_on w (tile_network_row t p effect).sent) ≡ count_of w (flat_map (destination_wire t p) (option_to_list destination))
    full_sends destination effect is = ⊎_elim nothing one is
      where
        nothing : WritesNone destination effect
            → length (sent_on w (tile_network_row t p effect).sent) ≡ count_of w (flat_map (destination_wire t p) (option_to_list destination))
        nothing none =
            ap (λ ms. length (sent_on w ms)) (nothing_sent effect none.nothing)
            ∙ sym (ap (λ o. count_of w (flat_map (destination_wire t p) (option_to_list o))) none.named)

        one : SendsBy destination effect
            → length (sent_on w (tile_network_row t p effect).sent) ≡ count_of w (flat_map (destination_wire t p) (option_to_list destination))
        one by =
            ap (λ ms. length (sent_on w ms)) (sent_as effect (sent_by 24 by.register by.value) (sent_by 25 by.register by.value) by.sent1 by.sent2)
            ∙ by_register t p w (eqb by.register 24) (eqb by.register 25)
            (λ e f. let x = eqb-true by.register 24 e in let y = eqb-true by.register 25 f in absurd (omega arith))
            (output_wire t p 4) (output_wire t p 9) by.value
            ∙ sym (ap (λ o. count_of w (flat_map (destination_wire t p) (option_to_list o))) by.named)

    tile_exact : (o : Option Instruction) (size : ℕ) (l : TileLocal) (a b : ℕ) → is_address_trap (effect_of o size l a b).next.mark ≡ false
        → length (sent_on w (tile_network_row t p (effect_of o size l a b)).sent) ≡ count_of w (tile_sends t p o)
    tile_exact None size l a b going =
        ap (λ ms. length (sent_on w ms)) (nothing_sent (effect_of None size l a b) (record { sent1 = refl; sent2 = refl }))
    tile_exact (Some ins) size l a b going =
        ⊎_elim
        (λ (is : IsTrapRow (row_effect ins.op size l ins a b)).
        absurd (not_both (is_address_trap (row_effect ins.op size l ins a b).next.mark) is.mark going))
        (λ (full : IsFullRow (destination_register ins) (row_effect ins.op size l ins a b)).
        full_sends (destination_register ins) (row_effect ins.op size l ins a b) full.sends)
        (row_is ins.op size l ins a b).sends

    -- a route that has a value sends it
    by_route : (end : ℕ) (o : Option SwitchSource) (value : Option ℕ) → is_some value ≡ is_some o
        → length (sent_on w (sent_to (output_wire t p end) value)) ≡ count_of w (cond (is_some o) (option_to_list (output_wire t p end)) [])
    by_route end None None e = ap (λ ms. length (sent_on w ms)) (sent_none (output_wire t p end))
    by_route end None (Some value) e = absurd (cc e)
    by_route end (Some source) None e = absurd (cc e)
    by_route end (Some source) (Some value) e = sent_same w (output_wire t p end) value

    module _ (ins : SwitchInstruction) (regs : List ℕ) (given : List (Option ℕ)) (are : AreGiven ins regs given) where
      abbrev SendsAt : ℕ → Type 0
      SendsAt end =
          length (sent_on w (sent_to (output_wire t p end) (slice_index_or (routed ins regs given) end None))) ≡ count_of w (filled_at t p ins end)

      at : (end : ℕ) → end < 10
          → length (sent_on w (sent_to (output_wire t p end) (source_value regs given (route_source ins end)))) ≡ count_of w (filled_at t p ins end)
      at end below = by_route end (route_source ins end) (source_value regs given (route_source ins end)) (are.routes end below)

      at_each : AllByRecursion SendsAt ends
      unfolding ends
      at_each = (
        at 0 (omega arith),
        (at 1 (omega arith), (at 2 (omega arith), (at 3 (omega arith), (at 4 (omega arith), (at 5 (omega arith), (at 6 (omega arith), (at 7 (omega arith), (at 8 (omega arith), (at 9 (omega arith), tt))))))))),
      )

      routes_exact : length (sent_on w (flat_map (λ end. sent_to (output_wire t p end) (slice_index_or (routed ins regs given) end None)) ends))
          ≡ count_of w (flat_map (filled_at t p ins) ends)
      routes_exact =
          sent_all w (λ end. sent_to (output_wire t p end) (slice_index_or (routed ins regs given) end None)) (filled_at t p ins) ends at_each

    switch_exact : (o : Option SwitchInstruction) (size : ℕ) (l : SwitchLocal) (values : List ℕ)
        → ((ins : SwitchInstruction) → o ≡ Some ins → AreGiven ins l.regs (given_to t p (Some ins) values))
        → length (sent_on w (switch_network_row t p (switch_effect_of o size l (given_to t p o values))).sent) ≡ count_of w (switch_sends t p o)
    switch_exact None size l values are = let none = nothing_short t p w in omega arith
    switch_exact (Some ins) size l values are = routes_exact ins l.regs (given_to t p (Some ins) values) (are ins refl)

-- a switch has no address
switch_marks : (op : SwitchOp) (size : ℕ) (l : SwitchLocal) (ins : SwitchInstruction) (value : ℕ) → is_address_trap (control op size l ins value).mark ≡ false
switch_marks Nop size l ins value = no_address_trap size (following l)
switch_marks Jump size l ins value = no_address_trap size ins.target
switch_marks Move size l ins value = no_address_trap size (following l)
switch_marks Halt size l ins value = refl
switch_marks _ size l ins value = no_address_trap size _

switch_row_marks : (o : Option SwitchInstruction) (size : ℕ) (l : SwitchLocal) (given : List (Option ℕ))
    → is_address_trap (switch_effect_of o size l given).next.mark ≡ false
switch_row_marks None size l given = refl
switch_row_marks (Some ins) size l given = switch_marks ins.op size l ins _

module _ (set : ProgramSet) (p : ℕ) where
  -- how many values a row sends to a wire
  all_exact : IsSet set → (l : Local) (values : List ℕ) → IsFit set p l → is_trapped_at_address (row set p l values).next ≡ false
      → (w : ℕ) → length (sent_on w (row set p l values).sent) ≡ count_of w (sends set p l)
  all_exact valid (Tile l) values fit going w =
      tile_exact set.topo p w (next_instruction (tile_code set p) l) (length (tile_code set p)) l
      (first_operand (next_instruction (tile_code set p) l) l.regs values)
      (second_operand (next_instruction (tile_code set p) l) l.regs values) going
  all_exact valid (Switch l) values fit going w =
      switch_exact set.topo p w (next_switch_instruction (switch_code set p) l) (length (switch_code set p)) l values
      (λ ins here. all_named_given set valid p l ins values fit here)
  all_exact valid (Source l) values fit going w = sent_each w (slice_index (words_of (port_program set p)) l.done) (port_outputs set.topo p)
  all_exact valid (Sink l) values fit going w = refl

  no_values : (values : List ℕ) → length values ≡ 0 → values ≡ []
  no_values [] e = refl
  no_values (value ∷ values) e = absurd (omega arith)

  pub one_each : (l : Local) (values : List ℕ) → IsSet set → IsFit set p l → is_trapped_at_address (row set p l values).next ≡ false
      → SendsOneEach (sends set p l) (row set p l values).sent
  one_each l values valid fit going = record {
    one = λ w named. let exact = all_exact valid l values fit going w in let once = all_once set p l w in omega arith;
    none = λ w unnamed. no_values (sent_on w (row set p l values).sent) (all_exact valid l values fit going w ∙ unnamed);
  }

  pub none_at_trap : (l : Local) (values : List ℕ) → is_trapped_at_address (row set p l values).next ≡ true → (row set p l values).sent ≡ []
  none_at_trap (Tile l) values trap =
      trap_sends set.topo p (next_instruction (tile_code set p) l) (length (tile_code set p)) l
      (first_operand (next_instruction (tile_code set p) l) l.regs values)
      (second_operand (next_instruction (tile_code set p) l) l.regs values) trap
  none_at_trap (Switch l) values trap =
      let given = given_to set.topo p (next_switch_instruction (switch_code set p) l) values in
      let going = switch_row_marks (next_switch_instruction (switch_code set p) l) (length (switch_code set p)) l given in
      absurd (not_both _ trap going)
  none_at_trap (Source l) values trap = absurd (cc trap)
  none_at_trap (Sink l) values trap = refl
