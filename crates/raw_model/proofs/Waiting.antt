-- Each wire of a row is among the wires of its processor.
use Rattle.std.proofs.Common.{◌≡◌, ℕ, ◌<◌, ◌≤◌, Bool, true, false, cond, eqb, List, [], ◌∷◌, ◌++◌, Option, Some, None, sym, subst, ⊎_elim, arith}
use Rattle.std.specs.List.{flat_map}
use Rattle.std.specs.Option.{option_to_list}
use Rattle.std.proofs.lemmas.Bool.{cases_eq, cases_lt}
use Rattle.raw_network.specs.Network.{count_of}
use Rattle.raw_network.proofs.Wires.{count_there}
use Rattle.raw_network.specs.Waits.{IsCovered}
use Rattle.raw_tile_isa.specs.Instruction.{Instruction, source_registers, destination_register}
use Rattle.raw_switch_isa.specs.Instruction.{SwitchInstruction}
use Rattle.raw_switch_isa.specs.Ends.{ends, is_used_input, is_filled}
use Rattle.raw_grid.specs.Topology.{Topology}
use Rattle.raw_grid.specs.Wires.{input_wire, output_wire}
use Rattle.raw_model.specs.Program.{ProgramSet}
use Rattle.raw_model.specs.Local.{Local, Tile, Switch, Source, Sink}
use Rattle.raw_model.specs.TileTable.{next_instruction}
use Rattle.raw_model.specs.SwitchTable.{next_instruction as next_switch_instruction}
use Rattle.raw_model.specs.Machine.{tile_code, switch_code, source_wire, destination_wire, tile_takes, tile_sends, switch_takes, switch_sends, takes, sends, machine_of}
use Rattle.raw_model.specs.Waits.{inputs_at, outputs_at}
use Rattle.raw_model.proofs.Counts.{count-append, count_cond}

-- what stands in the one list stands in the other
abbrev AreAmong : List ℕ → List ℕ → Type 0
AreAmong ws vs = (w : ℕ) → 0 < count_of w ws → 0 < count_of w vs

none_among : (vs : List ℕ) → AreAmong [] vs
none_among vs w some = absurd (omega arith)

joined_among : (us ws vs : List ℕ) → AreAmong us vs → AreAmong ws vs → AreAmong (us ++ ws) vs
joined_among us ws vs first second w some =
    let a = count-append w us ws in
    ⊎_elim
    (λ (h : 0 < count_of w us). first w h)
    (λ (h : count_of w us ≤ 0). second w (omega arith))
    (cases_lt 0 (count_of w us))

parts_among : {A : Type 0} (f : A → List ℕ) (vs : List ℕ) → ((x : A) → AreAmong (f x) vs) → (xs : List A) → AreAmong (flat_map f xs) vs
parts_among f vs each [] = none_among vs
parts_among f vs each (x ∷ xs) = joined_among (f x) (flat_map f xs) vs (each x) (parts_among f vs each xs)

chosen_among : (b : Bool) (us ws vs : List ℕ) → AreAmong us vs → AreAmong ws vs → AreAmong (cond b us ws) vs
chosen_among true us ws vs first second = first
chosen_among false us ws vs first second = second

-- a part is among all
part_among : (f : ℕ → List ℕ) (k : ℕ) (xs : List ℕ) → 0 < count_of k xs → AreAmong (f k) (flat_map f xs)
part_among f k [] there w some = absurd (omega arith)
part_among f k (x ∷ xs) there w some =
    let a = count-append w (f x) (flat_map f xs) in
    ⊎_elim
    (λ (e : x ≡ k). let b : 0 < count_of w (f x) = subst (λ i. 0 < count_of w (f i)) (sym e) some in omega arith)
    (λ (ne : x ≡ k → ⊥).
    let b = part_among f k xs (subst (λ n. 0 < n) (count_there k x xs ne) there) w some in omega arith)
    (cases_eq x k)

-- parts of each part are among all
less_among : (f g : ℕ → List ℕ) → ((x w : ℕ) → count_of w (f x) ≤ count_of w (g x)) → (xs : List ℕ) → (w : ℕ)
    → count_of w (flat_map f xs) ≤ count_of w (flat_map g xs)
less_among f g each [] w = omega arith
less_among f g each (x ∷ xs) w =
    let a = count-append w (f x) (flat_map f xs) in
    let b = count-append w (g x) (flat_map g xs) in
    let c = each x w in
    let d = less_among f g each xs w in
    omega arith

-- the wires at the ends of a processor, of which those that a row names are some
module _ (own : ℕ → List ℕ) where
  end_4 : AreAmong (own 4) (flat_map own ends)
  unfolding ends
  end_4 = part_among own 4 ends (omega arith)

  end_9 : AreAmong (own 9) (flat_map own ends)
  unfolding ends
  end_9 = part_among own 9 ends (omega arith)

  network_among : (b c : Bool) → AreAmong (cond b (own 4) (cond c (own 9) [])) (flat_map own ends)
  network_among b c =
      chosen_among b (own 4) (cond c (own 9) []) (flat_map own ends) end_4
      (chosen_among c (own 9) [] (flat_map own ends) end_9 (none_among (flat_map own ends)))

  both_among : AreAmong (own 4 ++ own 9) (flat_map own ends)
  both_among = joined_among (own 4) (own 9) (flat_map own ends) end_4 end_9

  tested_among : (test : ℕ → Bool) → AreAmong (flat_map (λ end. cond (test end) (own end) []) ends) (flat_map own ends)
  tested_among test w some =
      let a = less_among (λ end. cond (test end) (own end) []) own
      (λ end v. count_cond v (count_of v (own end)) (test end) (own end) [] (omega arith) (omega arith)) ends w in
      omega arith

module _ (t : Topology) (p : ℕ) where
  tile_takes_among : (o : Option Instruction) → AreAmong (tile_takes t p o) (inputs_at t p)
  unfolding inputs_at
  tile_takes_among None = none_among (inputs_at t p)
  tile_takes_among (Some ins) =
      parts_among (source_wire t p) (inputs_at t p)
      (λ register. network_among (λ end. option_to_list (input_wire t p end)) (eqb register 24) (eqb register 25)) (source_registers ins)

  tile_sends_among : (o : Option Instruction) → AreAmong (tile_sends t p o) (outputs_at t p)
  unfolding outputs_at
  tile_sends_among None = none_among (outputs_at t p)
  tile_sends_among (Some ins) =
      parts_among (destination_wire t p) (outputs_at t p)
      (λ register. network_among (λ end. option_to_list (output_wire t p end)) (eqb register 24) (eqb register 25)) (option_to_list (destination_register ins))

  switch_takes_among : (o : Option SwitchInstruction) → AreAmong (switch_takes t p o) (inputs_at t p)
  unfolding inputs_at
  switch_takes_among None = none_among (inputs_at t p)
  switch_takes_among (Some ins) = tested_among (λ end. option_to_list (input_wire t p end)) (is_used_input ins)

  switch_sends_among : (o : Option SwitchInstruction) → AreAmong (switch_sends t p o) (outputs_at t p)
  unfolding outputs_at
  switch_sends_among None = none_among (outputs_at t p)
  switch_sends_among (Some ins) = tested_among (λ end. option_to_list (output_wire t p end)) (is_filled ins)

module _ (set : ProgramSet) (p : ℕ) where
  takes_among : (l : Local) → AreAmong (takes set p l) (inputs_at set.topo p)
  unfolding inputs_at
  takes_among (Tile l) = tile_takes_among set.topo p (next_instruction (tile_code set p) l)
  takes_among (Switch l) = switch_takes_among set.topo p (next_switch_instruction (switch_code set p) l)
  takes_among (Source l) = none_among (inputs_at set.topo p)
  takes_among (Sink l) = both_among (λ end. option_to_list (input_wire set.topo p end))

  sends_among : (l : Local) → AreAmong (sends set p l) (outputs_at set.topo p)
  unfolding outputs_at
  sends_among (Tile l) = tile_sends_among set.topo p (next_instruction (tile_code set p) l)
  sends_among (Switch l) = switch_sends_among set.topo p (next_switch_instruction (switch_code set p) l)
  sends_among (Source l) = both_among (λ end. option_to_list (output_wire set.topo p end))
  sends_among (Sink l) = none_among (outputs_at set.topo p)

-- each wire of a row is among the wires of its processor
pub covered : (set : ProgramSet) → IsCovered (machine_of set) (inputs_at set.topo) (outputs_at set.topo)
unfolding machine_of
covered set = record { takes = λ p l. takes_among set p l; sends = λ p l. sends_among set p l }
