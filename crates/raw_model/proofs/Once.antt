-- A row sends at most one value to each wire, and only to wires that it names.
use Rattle.std.proofs.Common.{◌≡◌, ℕ, zero, suc, ◌+◌, ◌≤◌, ◌<◌, Bool, true, false, cond, eqb, List, [], ◌∷◌, ◌++◌, length, map, Option, Some, None, ◌⊎◌, inl, inr, refl, sym, ap, ◌∙◌, subst, ⊎_elim, arith}
use Rattle.std.specs.Prelude.{slice_index, slice_index_or, is_some}
use Rattle.std.specs.List.{flat_map}
use Rattle.std.specs.Option.{option_to_list}
use Rattle.std.proofs.lemmas.Bool.{cases_eq, eqb-true}
use Rattle.raw_network.specs.Network.{Sent, count_of}
use Rattle.raw_network.specs.Runs.{sent_on}
use Rattle.raw_network.specs.Wired.{SendsOnce}
use Rattle.raw_network.proofs.Wires.{count_here, count_there}
use Rattle.raw_tile_isa.specs.Instruction.{Instruction, destination_register}
use Rattle.raw_switch_isa.specs.Instruction.{SwitchInstruction}
use Rattle.raw_switch_isa.specs.declared.instruction.SwitchSource.{SwitchSource}
use Rattle.raw_switch_isa.specs.Ends.{ends, is_filled, route_source}
use Rattle.raw_grid.specs.Topology.{Topology}
use Rattle.raw_grid.specs.Wires.{output_wire}
use Rattle.raw_grid.proofs.WireLaws.{the_wire, output_ends, one_output}
use Rattle.raw_model.specs.Program.{ProgramSet}
use Rattle.raw_model.specs.Local.{Local, Tile, Switch, Source, Sink, TileLocal, SwitchLocal}
use Rattle.raw_model.specs.TileTable.{TileEffect, next_instruction, row_effect, effect_of}
use Rattle.raw_model.specs.TileTable.{sent_by}
use Rattle.raw_model.specs.SwitchTable.{source_value, routed}
use Rattle.raw_model.specs.SwitchTable.{next_instruction as next_switch_instruction, effect_of as switch_effect_of}
use Rattle.raw_model.specs.Machine.{tile_code, switch_code, destination_wire, tile_sends, first_operand, second_operand, tile_network_row, sent_to, filled_at, switch_sends, switch_network_row, given_to, port_outputs, port_program, words_of, sends, row, machine_of}
use Rattle.raw_model.proofs.Counts.{count-append, sent-more, sent_each, sent_one, sent_same, sent_none, sent_short, named_short, option_once, option_other, count_cond}
use Rattle.raw_model.proofs.Rows.{SendsNothing, SendsBy, WritesNone, IsTrapRow, IsFullRow, row_is}

-- an end stands once in the list of ends
abbrev ends_from : ℕ → ℕ → List ℕ
ends_from i zero = []
ends_from i (suc n) = i ∷ ends_from (i + 1) n

above_none : (k i n : ℕ) → k < i → count_of k (ends_from i n) ≡ 0
above_none k i zero h = refl
above_none k i (suc n) h =
    let ne : i ≡ k → ⊥ = λ (e : i ≡ k). absurd (omega arith) in
    count_there k i (ends_from (i + 1) n) ne ∙ above_none k (i + 1) n (omega arith)

from_once : (k i n : ℕ) → count_of k (ends_from i n) ≤ 1
from_once k i zero = omega arith
from_once k i (suc n) =
    ⊎_elim
    (λ (e : i ≡ k).
    let a = subst (λ u. count_of u (i ∷ ends_from (i + 1) n) ≡ suc (count_of u (ends_from (i + 1) n))) e (count_here i (ends_from (i + 1) n)) in
    let b = above_none k (i + 1) n (omega arith) in omega arith)
    (λ (ne : i ≡ k → ⊥). let a = count_there k i (ends_from (i + 1) n) ne in let b = from_once k (i + 1) n in omega arith)
    (cases_eq i k)

ends_once : (k : ℕ) → count_of k ends ≤ 1
unfolding ends
ends_once k = from_once k 0 10

module _ (t : Topology) (p w : ℕ) where
  -- two different ends of a processor do not share a wire
  two_ends : (i j : ℕ) → (i ≡ j → ⊥) → count_of w (option_to_list (output_wire t p i)) + count_of w (option_to_list (output_wire t p j)) ≤ 1
  two_ends i j differ =
      ⊎_elim
      (λ (none : count_of w (option_to_list (output_wire t p i)) ≡ 0).
      let a = option_once w (output_wire t p j) in omega arith)
      (λ (some : count_of w (option_to_list (output_wire t p i)) ≡ 0 → ⊥).
      let b : count_of w (option_to_list (output_wire t p j)) ≡ 0 =
      option_other w (output_wire t p j) (λ f. some (option_other w (output_wire t p i) (λ e. differ (one_output t w p p i j e f)))) in
      let a = option_once w (output_wire t p i) in omega arith)
      (cases_eq (count_of w (option_to_list (output_wire t p i))) 0)

  ports_once : count_of w (port_outputs t p) ≤ 1
  ports_once =
      let a = count-append w (option_to_list (output_wire t p 4)) (option_to_list (output_wire t p 9)) in
      let b = two_ends 4 9 (λ (e : 4 ≡ 9). absurd (omega arith)) in
      omega arith

  destination_once : (register : ℕ) → count_of w (destination_wire t p register) ≤ 1
  destination_once register =
      count_cond w 1 (eqb register 24) (option_to_list (output_wire t p 4)) _ (option_once w (output_wire t p 4))
      (count_cond w 1 (eqb register 25) (option_to_list (output_wire t p 9)) [] (option_once w (output_wire t p 9)) (omega arith))

  written_once : (o : Option ℕ) → count_of w (flat_map (destination_wire t p) (option_to_list o)) ≤ 1
  written_once None = omega arith
  written_once (Some register) =
      let a = count-append w (destination_wire t p register) [] in
      let b = destination_once register in
      omega arith

  tile_once : (o : Option Instruction) → count_of w (tile_sends t p o) ≤ 1
  tile_once None = omega arith
  tile_once (Some ins) = written_once (destination_register ins)

  -- a value sent by a register goes to the wire that the register names
  pub by_register : (b c : Bool) → (b ≡ true → c ≡ true → ⊥) → (o u : Option ℕ) (value : ℕ) →
      length (sent_on w (sent_to o (cond b (Some value) None) ++ sent_to u (cond c (Some value) None)))
      ≡ count_of w (cond b (option_to_list o) (cond c (option_to_list u) []) ++ [])
  by_register true true differ o u value = absurd (differ refl refl)
  by_register true false differ o u value =
      let a = sent-more w (sent_to o (Some value)) (sent_to u None) in
      let b = ap (λ ms. length (sent_on w ms)) (sent_none u) in
      let c = sent_same w o value in
      let d = count-append w (option_to_list o) [] in
      omega arith
  by_register false true differ o u value =
      let a = sent-more w (sent_to o None) (sent_to u (Some value)) in
      let b = ap (λ ms. length (sent_on w ms)) (sent_none o) in
      let c = sent_same w u value in
      let d = count-append w (option_to_list u) [] in
      omega arith
  by_register false false differ o u value =
      let a = sent-more w (sent_to o None) (sent_to u None) in
      let b = ap (λ ms. length (sent_on w ms)) (sent_none o) in
      let c = ap (λ ms. length (sent_on w ms)) (sent_none u) in
      omega arith

  -- what an effect of the table sends is no more than what its instruction names
  sends_short : (destination : Option ℕ) (effect : TileEffect) → SendsNothing effect ⊎ SendsBy destination effect →
      length (sent_on w (tile_network_row t p effect).sent) ≤ count_of w (flat_map (destination_wire t p) (option_to_list destination))
  sends_short destination effect is = ⊎_elim nothing one is
    where
      out : Option ℕ → Option ℕ → List Sent
      out first second = sent_to (output_wire t p 4) first ++ sent_to (output_wire t p 9) second

      same : (first second : Option ℕ) → effect.sent1 ≡ first → effect.sent2 ≡ second
          → (tile_network_row t p effect).sent ≡ out first second
      same first second e f = (λ i. out (e i) (f i))

      nothing : SendsNothing effect → length (sent_on w (tile_network_row t p effect).sent) ≤ count_of w (flat_map (destination_wire t p) (option_to_list destination))
      nothing none =
          let a = ap (λ ms. length (sent_on w ms)) (same None None none.sent1 none.sent2) in
          let b = sent-more w (sent_to (output_wire t p 4) None) (sent_to (output_wire t p 9) None) in
          let c = ap (λ ms. length (sent_on w ms)) (sent_none (output_wire t p 4)) in
          let d = ap (λ ms. length (sent_on w ms)) (sent_none (output_wire t p 9)) in
          omega arith

      one : SendsBy destination effect → length (sent_on w (tile_network_row t p effect).sent) ≤ count_of w (flat_map (destination_wire t p) (option_to_list destination))
      one by =
          let a = ap (λ ms. length (sent_on w ms)) (same (sent_by 24 by.register by.value) (sent_by 25 by.register by.value) by.sent1 by.sent2) in
          let b = by_register (eqb by.register 24) (eqb by.register 25)
          (λ e f. let x = eqb-true by.register 24 e in let y = eqb-true by.register 25 f in absurd (omega arith))
          (output_wire t p 4) (output_wire t p 9) by.value in
          let c = ap (λ o. count_of w (flat_map (destination_wire t p) (option_to_list o))) by.named in
          omega arith

  tile_short : (o : Option Instruction) (size : ℕ) (l : TileLocal) (a b : ℕ) →
      length (sent_on w (tile_network_row t p (effect_of o size l a b)).sent) ≤ count_of w (tile_sends t p o)
  tile_short None size l a b =
      let x = sent-more w (sent_to (output_wire t p 4) None) (sent_to (output_wire t p 9) None) in
      let y = ap (λ ms. length (sent_on w ms)) (sent_none (output_wire t p 4)) in
      let z = ap (λ ms. length (sent_on w ms)) (sent_none (output_wire t p 9)) in
      omega arith
  tile_short (Some ins) size l a b =
      sends_short (destination_register ins) (row_effect ins.op size l ins a b)
      (⊎_elim
      (λ (trap : IsTrapRow (row_effect ins.op size l ins a b)). inl trap.nothing)
      (λ (full : IsFullRow (destination_register ins) (row_effect ins.op size l ins a b)).
      ⊎_elim (λ (none : WritesNone (destination_register ins) (row_effect ins.op size l ins a b)). inl none.nothing)
      (λ (by : SendsBy (destination_register ins) (row_effect ins.op size l ins a b)). inr by) full.sends)
      (row_is ins.op size l ins a b).sends)

  -- one output of a switch can name the wire, and no other
  output_of : ℕ
  output_of = (the_wire t w).output

  output_named : (end : ℕ) → count_of w (option_to_list (output_wire t p end)) ≤ count_of output_of (end ∷ [])
  unfolding output_of
  output_named end =
      ⊎_elim
      (λ (e : end ≡ (the_wire t w).output).
      let a = subst (λ i. count_of i (end ∷ []) ≡ 1) e (count_here end []) in
      let b = option_once w (output_wire t p end) in omega arith)
      (λ (ne : end ≡ (the_wire t w).output → ⊥).
      let a = option_other w (output_wire t p end) (λ f. ne (sym (output_ends t w p end f).1)) in omega arith)
      (cases_eq end (the_wire t w).output)

  switch_once : (o : Option SwitchInstruction) → count_of w (switch_sends t p o) ≤ 1
  switch_once None = omega arith
  switch_once (Some ins) =
      let a = named_short w output_of (filled_at t p ins)
      (λ end. count_cond w (count_of output_of (end ∷ [])) (is_filled ins end) (option_to_list (output_wire t p end)) [] (output_named end) (omega arith)) ends in
      let b = ends_once output_of in
      omega arith

  -- what a route sends is no more than what it names
  routed_short : (ins : SwitchInstruction) (regs : List ℕ) (given : List (Option ℕ)) (end : ℕ) →
      length (sent_on w (sent_to (output_wire t p end) (source_value regs given (route_source ins end)))) ≤ count_of w (filled_at t p ins end)
  routed_short ins regs given end = by_route (route_source ins end)
    where
      by_route : (o : Option SwitchSource) →
          length (sent_on w (sent_to (output_wire t p end) (source_value regs given o)))
          ≤ count_of w (cond (is_some o) (option_to_list (output_wire t p end)) [])
      by_route None = let a = ap (λ ms. length (sent_on w ms)) (sent_none (output_wire t p end)) in omega arith
      by_route (Some source) = sent_one w (output_wire t p end) (source_value regs given (Some source))

  -- the value at a place of the routed ones, and none past the outputs
  routed_at : (ins : SwitchInstruction) (regs : List ℕ) (given : List (Option ℕ)) (end : ℕ) →
      (slice_index_or (routed ins regs given) end None ≡ source_value regs given (route_source ins end)) ⊎ (slice_index_or (routed ins regs given) end None ≡ None)
  unfolding ends
  routed_at ins regs given (suc (suc (suc (suc (suc (suc (suc (suc (suc (suc end)))))))))) = inr refl
  routed_at ins regs given _ = inl refl

  no_wires : (xs : List ℕ) → flat_map {A = ℕ} (λ _. []) xs ≡ []
  no_wires [] = refl
  no_wires (x ∷ xs) = no_wires xs

  nothing_at : (xs : List ℕ) (i : ℕ) → slice_index_or (map {B = Option ℕ} (λ _. None) xs) i None ≡ None
  nothing_at [] i = refl
  nothing_at (x ∷ xs) zero = refl
  nothing_at (x ∷ xs) (suc i) = nothing_at xs i

  value_short : (o value : Option ℕ) (ws : List ℕ) → value ≡ None → length (sent_on w (sent_to o value)) ≤ count_of w ws
  value_short o value ws e =
      let a = ap (λ v. length (sent_on w (sent_to o v))) e in
      let b = ap (λ ms. length (sent_on w ms)) (sent_none o) in
      omega arith

  pub nothing_short : length (sent_on w (flat_map (λ end. sent_to (output_wire t p end) (slice_index_or (map {B = Option ℕ} (λ _. None) ends) end None)) ends)) ≤ 0
  nothing_short =
      let a = sent_short w (λ end. sent_to (output_wire t p end) (slice_index_or (map {B = Option ℕ} (λ _. None) ends) end None)) (λ end. [])
      (λ end. value_short (output_wire t p end) (slice_index_or (map {B = Option ℕ} (λ _. None) ends) end None) [] (nothing_at ends end)) ends in
      let b = ap (λ ws. count_of w ws) (no_wires ends) in
      omega arith

  switch_short : (o : Option SwitchInstruction) (size : ℕ) (l : SwitchLocal) (given : List (Option ℕ)) →
      length (sent_on w (switch_network_row t p (switch_effect_of o size l given)).sent) ≤ count_of w (switch_sends t p o)
  switch_short None size l given = nothing_short
  switch_short (Some ins) size l given =
      sent_short w (λ end. sent_to (output_wire t p end) (slice_index_or (routed ins l.regs given) end None)) (filled_at t p ins)
      (λ end.
      ⊎_elim
      (λ (e : slice_index_or (routed ins l.regs given) end None ≡ source_value l.regs given (route_source ins end)).
      subst (λ v. length (sent_on w (sent_to (output_wire t p end) v)) ≤ count_of w (filled_at t p ins end)) (sym e)
      (routed_short ins l.regs given end))
      (λ (e : slice_index_or (routed ins l.regs given) end None ≡ None).
      value_short (output_wire t p end) (slice_index_or (routed ins l.regs given) end None) (filled_at t p ins end) e)
      (routed_at ins l.regs given end)) ends

module _ (set : ProgramSet) (p : ℕ) where
  pub all_once : (l : Local) (w : ℕ) → count_of w (sends set p l) ≤ 1
  all_once (Tile l) w = tile_once set.topo p w (next_instruction (tile_code set p) l)
  all_once (Switch l) w = switch_once set.topo p w (next_switch_instruction (switch_code set p) l)
  all_once (Source l) w = ports_once set.topo p w
  all_once (Sink l) w = omega arith

  all_short : (l : Local) (values : List ℕ) (w : ℕ) → length (sent_on w (row set p l values).sent) ≤ count_of w (sends set p l)
  all_short (Tile l) values w =
      tile_short set.topo p w (next_instruction (tile_code set p) l) (length (tile_code set p)) l
      (first_operand (next_instruction (tile_code set p) l) l.regs values)
      (second_operand (next_instruction (tile_code set p) l) l.regs values)
  all_short (Switch l) values w =
      switch_short set.topo p w (next_switch_instruction (switch_code set p) l) (length (switch_code set p)) l
      (given_to set.topo p (next_switch_instruction (switch_code set p) l) values)
  all_short (Source l) values w =
      let a = sent_each w (slice_index (words_of (port_program set p)) l.done) (port_outputs set.topo p) in omega arith
  all_short (Sink l) values w = omega arith

-- a row of the machine sends at most one value to each wire, and names it
pub sends_once : (set : ProgramSet) → SendsOnce (machine_of set)
unfolding machine_of
sends_once set = record { named_once = all_once set; sent_named = all_short set }
