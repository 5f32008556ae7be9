-- What each kind of processor takes and sends, by its ends.
use Rattle.std.proofs.Common.{◌≡◌, ℕ, zero, suc, ◌+◌, ◌-◌, ◌<◌, Bool, true, false, cond, eqb, List, [], ◌∷◌, ◌++◌, map, drop, length, Option, Some, None, refl, sym, ap, ap₂, ◌∙◌, subst, ⊎_elim, arith}
use Rattle.std.specs.Prelude.{is_some, slice_get, slice_index, slice_index_or}
use Rattle.std.specs.List.{flat_map, filter, list_all}
use Rattle.std.specs.Option.{option_to_list}
use Rattle.std.proofs.lemmas.Bool.{and_parts}
use Rattle.std.proofs.lemmas.List.{map-append}
use Rattle.raw_network.specs.Network.{Sent, count_of}
use Rattle.raw_network.proofs.Wires.{count_here, count_there, all_at_count}
use Rattle.std.proofs.lemmas.Bool.{cases_eq}
use Rattle.raw_model.specs.Machine.{port_program, words_of}
use Rattle.raw_tile_isa.specs.Instruction.{Instruction, source_registers, destination_register}
use Rattle.raw_switch_isa.specs.Instruction.{SwitchInstruction}
use Rattle.raw_switch_isa.specs.declared.instruction.SwitchSource.{SwitchSource}
use Rattle.raw_switch_isa.specs.Ends.{ends, is_used_input, is_filled, inputs_of, outputs_of, route_source}
use Rattle.raw_grid.specs.Topology.{tile_count}
use Rattle.raw_grid.specs.Wires.{input_wire, output_wire, Joins}
use Rattle.raw_grid.specs.Wires as topo
use Rattle.raw_grid.proofs.WireLaws.{the_wire, input_ends, output_ends, input_owner, output_owner, ten_inputs}
use Rattle.raw_grid.proofs.EndLaws.{to_tile_one, to_tile_two, from_tile_one, from_tile_two}
use Rattle.raw_model.specs.Program.{ProgramSet, TileProgram, IsSet, has_wires}
use Rattle.raw_model.specs.Local.{Tile, Switch, Source, Sink, TileLocal, SwitchLocal, PortLocal}
use Rattle.raw_model.specs.TileTable.{next_instruction}
use Rattle.raw_model.specs.SwitchTable.{source_value, routed, switch_row, effect_of}
use Rattle.raw_model.specs.SwitchTable.{next_instruction as next_switch_instruction}
use Rattle.raw_model.specs.Machine.{tile_code, switch_code, program_switch, source_wire, destination_wire, tile_takes, tile_sends, tile_effect, sent_to, taken_at, filled_at, switch_takes, switch_sends, given_first, given_at, given_to, switch_network_row, port_outputs}
use Rattle.raw_model.proofs.Words.{all_at}
use Rattle.raw_model.proofs.Needed.{end_once}
use Rattle.raw_fabric_rule.specs.ByEnds.{producer, producer_end, consumer, consumer_end, needs, gives, next_local, touched_by, fills, sent}
use Rattle.raw_fabric_rule.specs.ByKind.{IsWireOf, sent_by_end, source_end, destination_end, tile_needs, tile_gives, switch_needs, switch_gives, end_if, handed_at, handed_to, outputs_filled, values_filled}
use Rattle.raw_fabric_rule.proofs.Nets.{wire_input, wire_output}

-- ---- lists
map-cond : {A B : Type 0} (f : A → B) (b : Bool) (xs ys : List A) → map f (cond b xs ys) ≡ cond b (map f xs) (map f ys)
map-cond f true xs ys = refl
map-cond f false xs ys = refl

map-flat : {A B C : Type 0} (f : B → C) (g : A → List B) (xs : List A) → map f (flat_map g xs) ≡ flat_map (λ x. map f (g x)) xs
map-flat f g [] = refl
map-flat f g (x ∷ xs) = map-append f (g x) (flat_map g xs) ∙ ap (λ ys. map f (g x) ++ ys) (map-flat f g xs)

flat_same : {A B : Type 0} (g h : A → List B) (xs : List A) → ((x : A) → g x ≡ h x) → flat_map g xs ≡ flat_map h xs
flat_same g h xs e = λ i. flat_map (λ x. e x i) xs

some_is : (o : Option ℕ) → is_some o ≡ true → (w : ℕ) × (o ≡ Some w)
some_is None e = cc
some_is (Some w) e = (w, refl)

kept : (g : ℕ → Bool) (e : ℕ) → g e ≡ true → (xs : List ℕ) → 0 < count_of e xs → 0 < count_of e (filter g xs)
kept g e here [] pos = absurd (omega arith)
kept g e here (x ∷ xs) pos =
    ⊎_elim
    (λ (same : x ≡ e). subst (λ b. 0 < count_of e (cond b (x ∷ filter g xs) (filter g xs))) (sym (ap g same ∙ here))
    (subst (λ u. 0 < count_of u (x ∷ filter g xs)) same (let c = count_here x (filter g xs) in omega arith)))
    (λ (ne : x ≡ e → ⊥). more (g x) ne (kept g e here xs (subst (λ n. 0 < n) (count_there e x xs ne) pos)))
    (cases_eq x e)
  where
    more : (b : Bool) → (x ≡ e → ⊥) → 0 < count_of e (filter g xs) → 0 < count_of e (cond b (x ∷ filter g xs) (filter g xs))
    more true ne h = let c = count_there e x (filter g xs) ne in omega arith
    more false ne h = h

-- ---- ends and wires
module _ (set : ProgramSet) where
  pub end_of_input : (p e w : ℕ) → input_wire set.topo p e ≡ Some w → consumer_end set w ≡ e
  unfolding consumer_end topo.consumer_end the_wire
  end_of_input p e w is = (input_ends set.topo w p e is).1

  pub end_of_output : (p e w : ℕ) → output_wire set.topo p e ≡ Some w → producer_end set w ≡ 10 + e
  unfolding producer_end topo.producer_end the_wire
  end_of_output p e w is = ap (λ n. 10 + n) (output_ends set.topo w p e is).1

  pub joined : IsSet set → (w p o q i : ℕ) → Joins set.topo w p o q i → IsWireOf set w p o q i
  unfolding producer consumer
  joined is w p o q i j = record {
    producer_is = output_owner set.topo w p o j.0;
    producer_end_is = end_of_output p o w j.0;
    consumer_is = input_owner set.topo w q i j.1;
    consumer_end_is = end_of_input q i w j.1;
    from_is = wire_output set p o w j.0;
    to_is = wire_input set q i w (ten_inputs set.topo w q i is.topology j.1) j.1;
  }

  input_at_end : (p e : ℕ) → is_some (input_wire set.topo p e) ≡ true → map (consumer_end set) (option_to_list (input_wire set.topo p e)) ≡ e ∷ []
  input_at_end p e there =
      let w = some_is (input_wire set.topo p e) there in ap (λ o. map (consumer_end set) (option_to_list o)) w.1 ∙ ap (λ n. n ∷ []) (end_of_input p e w.0 w.1)

  output_at_end : (p e : ℕ) → is_some (output_wire set.topo p e) ≡ true → map (producer_end set) (option_to_list (output_wire set.topo p e)) ≡ (10 + e) ∷ []
  output_at_end p e there =
      let w = some_is (output_wire set.topo p e) there in ap (λ o. map (producer_end set) (option_to_list o)) w.1 ∙ ap (λ n. n ∷ []) (end_of_output p e w.0 w.1)

  any_input : (p e : ℕ) → map (consumer_end set) (option_to_list (input_wire set.topo p e)) ≡ end_if e (input_wire set.topo p e)
  any_input p e = from (input_wire set.topo p e) refl
    where
      from : (o : Option ℕ) → input_wire set.topo p e ≡ o → map (consumer_end set) (option_to_list o) ≡ end_if e o
      from None is = refl
      from (Some w) is = ap (λ n. n ∷ []) (end_of_input p e w is)

  any_output : (p e : ℕ) → map (producer_end set) (option_to_list (output_wire set.topo p e)) ≡ end_if (10 + e) (output_wire set.topo p e)
  any_output p e = from (output_wire set.topo p e) refl
    where
      from : (o : Option ℕ) → output_wire set.topo p e ≡ o → map (producer_end set) (option_to_list o) ≡ end_if (10 + e) o
      from None is = refl
      from (Some w) is = ap (λ n. n ∷ []) (end_of_output p e w is)

  -- a value on its way to an output
  sent_end : (p e : ℕ) (value : Option ℕ) → (is_some value ≡ true → is_some (output_wire set.topo p e) ≡ true)
      → map (λ (m : Sent). producer_end set m.wire) (sent_to (output_wire set.topo p e) value) ≡ end_if (10 + e) value
  sent_end p e value there = from (output_wire set.topo p e) value refl there
    where
      from : (o value : Option ℕ) → output_wire set.topo p e ≡ o → (is_some value ≡ true → is_some o ≡ true) → map (λ (m : Sent). producer_end set m.wire) (sent_to o value) ≡ end_if (10 + e) value
      from None None is h = refl
      from None (Some x) is h = absurd (let z = h refl in cc)
      from (Some w) None is h = refl
      from (Some w) (Some x) is h = ap (λ n. n ∷ []) (end_of_output p e w is)

  sent_value_at : (p e : ℕ) (value : Option ℕ) → (is_some value ≡ true → is_some (output_wire set.topo p e) ≡ true)
      → map (λ (m : Sent). m.value) (sent_to (output_wire set.topo p e) value) ≡ option_to_list value
  sent_value_at p e value there = from (output_wire set.topo p e) value there
    where
      from : (o value : Option ℕ) → (is_some value ≡ true → is_some o ≡ true) → map (λ (m : Sent). m.value) (sent_to o value) ≡ option_to_list value
      from None None h = refl
      from None (Some x) h = absurd (let z = h refl in cc)
      from (Some w) None h = refl
      from (Some w) (Some x) h = refl

-- ---- tiles
module _ (set : ProgramSet) (is : IsSet set) (p : ℕ) (lt : p < tile_count set.topo) where
  in4 : is_some (input_wire set.topo p 4) ≡ true
  in4 = ap is_some (to_tile_one set.topo p is.topology lt).1

  in9 : is_some (input_wire set.topo p 9) ≡ true
  in9 = ap is_some (to_tile_two set.topo p is.topology lt).1

  out4 : is_some (output_wire set.topo p 4) ≡ true
  out4 = ap is_some (from_tile_one set.topo p is.topology lt).0

  out9 : is_some (output_wire set.topo p 9) ≡ true
  out9 = ap is_some (from_tile_two set.topo p is.topology lt).0

  source_is : (register : ℕ) → map (consumer_end set) (source_wire set.topo p register) ≡ source_end register
  source_is register =
      map-cond (consumer_end set) (eqb register 24) _ _
      ∙ ap₂ (λ a b. cond (eqb register 24) a b) (input_at_end set p 4 in4)
      (map-cond (consumer_end set) (eqb register 25) _ _ ∙ ap (λ a. cond (eqb register 25) a []) (input_at_end set p 9 in9))

  destination_is : (register : ℕ) → map (producer_end set) (destination_wire set.topo p register) ≡ destination_end register
  destination_is register =
      map-cond (producer_end set) (eqb register 24) _ _
      ∙ ap₂ (λ a b. cond (eqb register 24) a b) (output_at_end set p 4 out4)
      (map-cond (producer_end set) (eqb register 25) _ _ ∙ ap (λ a. cond (eqb register 25) a []) (output_at_end set p 9 out9))

  takes_of : (o : Option Instruction) → map (consumer_end set) (tile_takes set.topo p o) ≡ tile_needs o
  takes_of None = refl
  takes_of (Some ins) = map-flat (consumer_end set) (source_wire set.topo p) (source_registers ins) ∙ flat_same _ source_end (source_registers ins) source_is

  sends_of : (o : Option Instruction) → map (producer_end set) (tile_sends set.topo p o) ≡ tile_gives o
  sends_of None = refl
  sends_of (Some ins) = map-flat (producer_end set) (destination_wire set.topo p) (option_to_list (destination_register ins)) ∙ flat_same _ destination_end (option_to_list (destination_register ins)) destination_is

  pub needs_tile : (l : TileLocal) → needs set p (Tile l) ≡ tile_needs (next_instruction (tile_code set p) l)
  unfolding needs
  needs_tile l = takes_of (next_instruction (tile_code set p) l)

  pub gives_tile : (l : TileLocal) → gives set p (Tile l) ≡ tile_gives (next_instruction (tile_code set p) l)
  unfolding gives
  gives_tile l = sends_of (next_instruction (tile_code set p) l)

  pub fills_tile : (l : TileLocal) (values : List ℕ) → fills set p (Tile l) values ≡ end_if 14 (tile_effect (tile_code set p) l values).sent1 ++ end_if 19 (tile_effect (tile_code set p) l values).sent2
  unfolding fills
  fills_tile l values = let effect = tile_effect (tile_code set p) l values in
      map-append (λ (m : Sent). producer_end set m.wire) (sent_to (output_wire set.topo p 4) effect.sent1) (sent_to (output_wire set.topo p 9) effect.sent2)
      ∙ ap₂ (λ (a b : List ℕ). a ++ b) (sent_end set p 4 effect.sent1 (λ _. out4)) (sent_end set p 9 effect.sent2 (λ _. out9))

  pub sent_tile : (l : TileLocal) (values : List ℕ) → sent set p (Tile l) values ≡ option_to_list (tile_effect (tile_code set p) l values).sent1 ++ option_to_list (tile_effect (tile_code set p) l values).sent2
  unfolding sent
  sent_tile l values = let effect = tile_effect (tile_code set p) l values in
      map-append (λ (m : Sent). m.value) (sent_to (output_wire set.topo p 4) effect.sent1) (sent_to (output_wire set.topo p 9) effect.sent2)
      ∙ ap₂ (λ (a b : List ℕ). a ++ b) (sent_value_at set p 4 effect.sent1 (λ _. out4)) (sent_value_at set p 9 effect.sent2 (λ _. out9))

pub next_tile : (set : ProgramSet) (p : ℕ) (l : TileLocal) (values : List ℕ) → next_local set p (Tile l) values ≡ Tile (tile_effect (tile_code set p) l values).next
unfolding next_local
next_tile set p l values = refl

pub touched_tile : (set : ProgramSet) (p : ℕ) (l : TileLocal) (values : List ℕ) → touched_by set p (Tile l) values ≡ option_to_list (tile_effect (tile_code set p) l values).touched
unfolding touched_by
touched_tile set p l values = refl

-- ---- switches
-- the instructions of a switch have a wire at each end that they name
module _ (set : ProgramSet) (is : IsSet set) (tile : ℕ) where
  abbrev p : ℕ
  p = tile_count set.topo + tile

  lawful_code : (ins : SwitchInstruction) (pc : ℕ) → slice_get (switch_code set p) pc ≡ Some ins → has_wires set.topo p ins ≡ true
  lawful_code ins pc at = from (slice_get set.tiles tile) refl (ap (λ n. slice_get (program_switch (slice_get set.tiles n)) pc) (let z : tile ≡ tile_count set.topo + tile - tile_count set.topo = omega arith in z) ∙ at)
    where
      from : (o : Option TileProgram) → slice_get set.tiles tile ≡ o → slice_get (program_switch o) pc ≡ Some ins → has_wires set.topo p ins ≡ true
      from None e at = cc
      from (Some t) e at = all_at (λ i. has_wires set.topo p i ≡ true) t.switch pc ins (is.wires tile t e) at

  inputs_are : (ins : SwitchInstruction) (xs : List ℕ) → list_all (λ e. is_some (input_wire set.topo p e)) (filter (is_used_input ins) xs) ≡ true
      → map (consumer_end set) (flat_map (taken_at set.topo p ins) xs) ≡ filter (is_used_input ins) xs
  inputs_are ins [] h = refl
  inputs_are ins (x ∷ xs) h = one (is_used_input ins x) h (inputs_are ins xs)
    where
      one : (b : Bool) → list_all (λ e. is_some (input_wire set.topo p e)) (cond b (x ∷ filter (is_used_input ins) xs) (filter (is_used_input ins) xs)) ≡ true
          → (list_all (λ e. is_some (input_wire set.topo p e)) (filter (is_used_input ins) xs) ≡ true → map (consumer_end set) (flat_map (taken_at set.topo p ins) xs) ≡ filter (is_used_input ins) xs)
          → map (consumer_end set) (cond b (option_to_list (input_wire set.topo p x)) [] ++ flat_map (taken_at set.topo p ins) xs) ≡ cond b (x ∷ filter (is_used_input ins) xs) (filter (is_used_input ins) xs)
      one true h more = let parts = and_parts (is_some (input_wire set.topo p x)) _ h in
          map-append (consumer_end set) (option_to_list (input_wire set.topo p x)) (flat_map (taken_at set.topo p ins) xs)
          ∙ ap₂ (λ (a b : List ℕ). a ++ b) (input_at_end set p x parts.0) (more parts.1)
      one false h more = more h

  outputs_are : (ins : SwitchInstruction) (xs : List ℕ) → list_all (λ e. is_some (output_wire set.topo p e)) (filter (is_filled ins) xs) ≡ true
      → map (producer_end set) (flat_map (filled_at set.topo p ins) xs) ≡ map (λ e. 10 + e) (filter (is_filled ins) xs)
  outputs_are ins [] h = refl
  outputs_are ins (x ∷ xs) h = one (is_filled ins x) h (outputs_are ins xs)
    where
      one : (b : Bool) → list_all (λ e. is_some (output_wire set.topo p e)) (cond b (x ∷ filter (is_filled ins) xs) (filter (is_filled ins) xs)) ≡ true
          → (list_all (λ e. is_some (output_wire set.topo p e)) (filter (is_filled ins) xs) ≡ true → map (producer_end set) (flat_map (filled_at set.topo p ins) xs) ≡ map (λ e. 10 + e) (filter (is_filled ins) xs))
          → map (producer_end set) (cond b (option_to_list (output_wire set.topo p x)) [] ++ flat_map (filled_at set.topo p ins) xs) ≡ map (λ e. 10 + e) (cond b (x ∷ filter (is_filled ins) xs) (filter (is_filled ins) xs))
      one true h more = let parts = and_parts (is_some (output_wire set.topo p x)) _ h in
          map-append (producer_end set) (option_to_list (output_wire set.topo p x)) (flat_map (filled_at set.topo p ins) xs)
          ∙ ap₂ (λ (a b : List ℕ). a ++ b) (output_at_end set p x parts.0) (more parts.1)
      one false h more = more h

  parts_of : (ins : SwitchInstruction) → has_wires set.topo p ins ≡ true
      → (list_all (λ e. is_some (input_wire set.topo p e)) (inputs_of ins) ≡ true) × (list_all (λ e. is_some (output_wire set.topo p e)) (outputs_of ins) ≡ true)
  parts_of ins h = and_parts (list_all (λ e. is_some (input_wire set.topo p e)) (inputs_of ins)) (list_all (λ e. is_some (output_wire set.topo p e)) (outputs_of ins)) h

  takes_at : (o : Option SwitchInstruction) → ((ins : SwitchInstruction) → o ≡ Some ins → has_wires set.topo p ins ≡ true) → map (consumer_end set) (switch_takes set.topo p o) ≡ switch_needs o
  takes_at None h = refl
  takes_at (Some ins) h = inputs_are ins ends (parts_of ins (h ins refl)).0

  sends_at : (o : Option SwitchInstruction) → ((ins : SwitchInstruction) → o ≡ Some ins → has_wires set.topo p ins ≡ true) → map (producer_end set) (switch_sends set.topo p o) ≡ switch_gives o
  sends_at None h = refl
  sends_at (Some ins) h = outputs_are ins ends (parts_of ins (h ins refl)).1

  pub needs_switch : (l : SwitchLocal) → needs set (tile_count set.topo + tile) (Switch l) ≡ switch_needs (next_switch_instruction (switch_code set (tile_count set.topo + tile)) l)
  unfolding needs
  needs_switch l = takes_at (next_switch_instruction (switch_code set p) l) (λ ins e. lawful_code ins l.pc e)

  pub gives_switch : (l : SwitchLocal) → gives set (tile_count set.topo + tile) (Switch l) ≡ switch_gives (next_switch_instruction (switch_code set (tile_count set.topo + tile)) l)
  unfolding gives
  gives_switch l = sends_at (next_switch_instruction (switch_code set p) l) (λ ins e. lawful_code ins l.pc e)

  -- the values that are given to a switch, by input
  given_are : (ins : SwitchInstruction) (xs values : List ℕ) → list_all (λ e. is_some (input_wire set.topo p e)) (filter (is_used_input ins) xs) ≡ true
      → given_at set.topo p ins xs values ≡ handed_at ins xs values
  given_are ins [] values h = refl
  given_are ins (x ∷ xs) values h = one (is_used_input ins x) h (λ vs. given_are ins xs vs)
    where
      one : (b : Bool) → list_all (λ e. is_some (input_wire set.topo p e)) (cond b (x ∷ filter (is_used_input ins) xs) (filter (is_used_input ins) xs)) ≡ true
          → ((vs : List ℕ) → list_all (λ e. is_some (input_wire set.topo p e)) (filter (is_used_input ins) xs) ≡ true → given_at set.topo p ins xs vs ≡ handed_at ins xs vs)
          → given_first (cond b (option_to_list (input_wire set.topo p x)) []) values ∷ given_at set.topo p ins xs (drop (length (cond b (option_to_list (input_wire set.topo p x)) [])) values)
          ≡ cond b (Some (slice_index values 0) ∷ handed_at ins xs (drop 1 values)) (None ∷ handed_at ins xs values)
      one true h more = let parts = and_parts (is_some (input_wire set.topo p x)) _ h in let w = some_is (input_wire set.topo p x) parts.0 in
          ap (λ o. given_first (option_to_list o) values ∷ given_at set.topo p ins xs (drop (length (option_to_list o)) values)) w.1
          ∙ ap (λ g. Some (slice_index values 0) ∷ g) (more (drop 1 values) parts.1)
      one false h more = ap (λ g. None ∷ g) (more values h)

  given_is : (o : Option SwitchInstruction) (values : List ℕ) → ((ins : SwitchInstruction) → o ≡ Some ins → has_wires set.topo p ins ≡ true) → given_to set.topo p o values ≡ handed_to o values
  given_is None values h = refl
  given_is (Some ins) values h = given_are ins ends values (parts_of ins (h ins refl)).0

  pub handed_switch : (l : SwitchLocal) (values : List ℕ) → given_to set.topo (tile_count set.topo + tile) (next_switch_instruction (switch_code set (tile_count set.topo + tile)) l) values ≡ handed_to (next_switch_instruction (switch_code set (tile_count set.topo + tile)) l) values
  handed_switch l values = given_is (next_switch_instruction (switch_code set p) l) values (λ ins e. lawful_code ins l.pc e)

  pub next_switch : (l : SwitchLocal) (values : List ℕ) → next_local set (tile_count set.topo + tile) (Switch l) values ≡ Switch (switch_row (switch_code set (tile_count set.topo + tile)) l (handed_to (next_switch_instruction (switch_code set (tile_count set.topo + tile)) l) values)).next
  unfolding next_local
  next_switch l values = ap (λ given. Switch (switch_row (switch_code set p) l given).next) (handed_switch l values)

  -- a value comes at a filled output alone
  route_some : (regs : List ℕ) (given : List (Option ℕ)) (o : Option SwitchSource) → is_some (source_value regs given o) ≡ true → is_some o ≡ true
  route_some regs given None e = cc
  route_some regs given (Some source) e = refl

  routed_some : (ins : SwitchInstruction) (regs : List ℕ) (given : List (Option ℕ)) (e : ℕ) → is_some (slice_index_or (routed ins regs given) e None) ≡ true → (0 < count_of e ends) × (is_filled ins e ≡ true)
  unfolding ends
  routed_some ins regs given zero h = (omega arith, route_some regs given (route_source ins 0) h)
  routed_some ins regs given (suc zero) h = (omega arith, route_some regs given (route_source ins 1) h)
  routed_some ins regs given (suc (suc zero)) h = (omega arith, route_some regs given (route_source ins 2) h)
  routed_some ins regs given (suc (suc (suc zero))) h = (omega arith, route_some regs given (route_source ins 3) h)
  routed_some ins regs given (suc (suc (suc (suc zero)))) h = (omega arith, route_some regs given (route_source ins 4) h)
  routed_some ins regs given (suc (suc (suc (suc (suc zero))))) h = (omega arith, route_some regs given (route_source ins 5) h)
  routed_some ins regs given (suc (suc (suc (suc (suc (suc zero)))))) h = (omega arith, route_some regs given (route_source ins 6) h)
  routed_some ins regs given (suc (suc (suc (suc (suc (suc (suc zero))))))) h = (omega arith, route_some regs given (route_source ins 7) h)
  routed_some ins regs given (suc (suc (suc (suc (suc (suc (suc (suc zero)))))))) h = (omega arith, route_some regs given (route_source ins 8) h)
  routed_some ins regs given (suc (suc (suc (suc (suc (suc (suc (suc (suc zero))))))))) h = (omega arith, route_some regs given (route_source ins 9) h)
  routed_some ins regs given (suc (suc (suc (suc (suc (suc (suc (suc (suc (suc e)))))))))) h = cc

  nothing_at : (xs : List ℕ) (i : ℕ) → slice_index_or (map {B = Option ℕ} (λ _. None) xs) i None ≡ None
  nothing_at [] i = refl
  nothing_at (x ∷ xs) zero = refl
  nothing_at (x ∷ xs) (suc i) = nothing_at xs i

  filled_wire : (o : Option SwitchInstruction) (size : ℕ) (l : SwitchLocal) (given : List (Option ℕ)) → ((ins : SwitchInstruction) → o ≡ Some ins → has_wires set.topo p ins ≡ true)
      → (e : ℕ) → is_some (slice_index_or (effect_of o size l given).sent e None) ≡ true → is_some (output_wire set.topo p e) ≡ true
  filled_wire None size l given h e there = absurd (let z : false ≡ true = ap is_some (sym (nothing_at ends e)) ∙ there in cc)
  filled_wire (Some ins) size l given h e there =
      let r = routed_some ins l.regs given e there in
      all_at_count (λ e. is_some (output_wire set.topo p e)) (outputs_of ins) e (parts_of ins (h ins refl)).1 (kept (is_filled ins) e r.1 ends r.0)

  pub fills_switch : (l : SwitchLocal) (values : List ℕ) → fills set (tile_count set.topo + tile) (Switch l) values ≡ outputs_filled (sent_by_end set (tile_count set.topo + tile) l values)
  unfolding fills
  fills_switch l values =
      ap (λ given. map (λ (m : Sent). producer_end set m.wire) (switch_network_row set.topo p (switch_row (switch_code set p) l given)).sent) (handed_switch l values)
      ∙ map-flat (λ (m : Sent). producer_end set m.wire) (λ e. sent_to (output_wire set.topo p e) (slice_index_or (sent_by_end set (tile_count set.topo + tile) l values) e None)) ends
      ∙ flat_same _ (λ e. end_if (10 + e) (slice_index_or (sent_by_end set (tile_count set.topo + tile) l values) e None)) ends
      (λ e. sent_end set p e (slice_index_or (sent_by_end set (tile_count set.topo + tile) l values) e None)
      (filled_wire (next_switch_instruction (switch_code set p) l) (length (switch_code set p)) l (handed_to (next_switch_instruction (switch_code set p) l) values) (λ ins at. lawful_code ins l.pc at) e))

  pub sent_switch : (l : SwitchLocal) (values : List ℕ) → sent set (tile_count set.topo + tile) (Switch l) values ≡ values_filled (sent_by_end set (tile_count set.topo + tile) l values)
  unfolding sent
  sent_switch l values =
      ap (λ given. map (λ (m : Sent). m.value) (switch_network_row set.topo p (switch_row (switch_code set p) l given)).sent) (handed_switch l values)
      ∙ map-flat (λ (m : Sent). m.value) (λ e. sent_to (output_wire set.topo p e) (slice_index_or (sent_by_end set (tile_count set.topo + tile) l values) e None)) ends
      ∙ flat_same _ (λ e. option_to_list (slice_index_or (sent_by_end set (tile_count set.topo + tile) l values) e None)) ends
      (λ e. sent_value_at set p e (slice_index_or (sent_by_end set (tile_count set.topo + tile) l values) e None)
      (filled_wire (next_switch_instruction (switch_code set p) l) (length (switch_code set p)) l (handed_to (next_switch_instruction (switch_code set p) l) values) (λ ins at. lawful_code ins l.pc at) e))

-- ---- ports
module _ (set : ProgramSet) (p : ℕ) where
  pub needs_sink : (l : PortLocal) → needs set p (Sink l) ≡ end_if 4 (input_wire set.topo p 4) ++ end_if 9 (input_wire set.topo p 9)
  unfolding needs
  needs_sink l = map-append (consumer_end set) (option_to_list (input_wire set.topo p 4)) (option_to_list (input_wire set.topo p 9)) ∙ ap₂ (λ (a b : List ℕ). a ++ b) (any_input set p 4) (any_input set p 9)

  pub gives_sink : (l : PortLocal) → gives set p (Sink l) ≡ []
  unfolding gives
  gives_sink l = refl

  pub fills_sink : (l : PortLocal) (values : List ℕ) → fills set p (Sink l) values ≡ []
  unfolding fills
  fills_sink l values = refl

  pub needs_source : (l : PortLocal) → needs set p (Source l) ≡ []
  unfolding needs
  needs_source l = refl

  pub gives_source : (l : PortLocal) → gives set p (Source l) ≡ end_if 14 (output_wire set.topo p 4) ++ end_if 19 (output_wire set.topo p 9)
  unfolding gives
  gives_source l = map-append (producer_end set) (option_to_list (output_wire set.topo p 4)) (option_to_list (output_wire set.topo p 9)) ∙ ap₂ (λ (a b : List ℕ). a ++ b) (any_output set p 4) (any_output set p 9)

  each_end : (value : ℕ) (ws : List ℕ) → map (λ (m : Sent). producer_end set m.wire) (map (λ w. record { wire = w; value = value }) ws) ≡ map (producer_end set) ws
  each_end value [] = refl
  each_end value (w ∷ ws) = ap (λ es. producer_end set w ∷ es) (each_end value ws)

  each_value : (value : ℕ) (ws : List ℕ) → map (λ (m : Sent). m.value) (map (λ w. record { wire = w; value = value }) ws) ≡ map (λ _. value) ws
  each_value value [] = refl
  each_value value (w ∷ ws) = ap (λ es. value ∷ es) (each_value value ws)

  pub fills_source : (l : PortLocal) (values : List ℕ) → fills set p (Source l) values ≡ gives set p (Source l)
  unfolding fills gives
  fills_source l values = each_end (slice_index (words_of (port_program set p)) l.done) (port_outputs set.topo p)

  pub sent_source : (l : PortLocal) (values : List ℕ) → sent set p (Source l) values ≡ map (λ _. slice_index (words_of (port_program set p)) l.done) (gives set p (Source l))
  unfolding sent gives
  sent_source l values = each_value (slice_index (words_of (port_program set p)) l.done) (port_outputs set.topo p) ∙ sym (map-const (slice_index (words_of (port_program set p)) l.done) (producer_end set) (port_outputs set.topo p))
    where
      map-const : (value : ℕ) (f : ℕ → ℕ) (ws : List ℕ) → map (λ _. value) (map f ws) ≡ map (λ _. value) ws
      map-const value f [] = refl
      map-const value f (w ∷ ws) = ap (λ es. value ∷ es) (map-const value f ws)

-- ---- how often a switch's instruction names an end
count_kept : (g : ℕ → Bool) (e : ℕ) (xs : List ℕ) → count_of e (filter g xs) ≡ cond (g e) (count_of e xs) 0
count_kept g e [] = either_none (g e)
  where
    either_none : (b : Bool) → count_of e [] ≡ cond b (count_of e []) 0
    either_none true = refl
    either_none false = refl
count_kept g e (x ∷ xs) =
    ⊎_elim
    (λ (same : x ≡ e). subst (λ k. count_of k (filter g (x ∷ xs)) ≡ cond (g k) (count_of k (x ∷ xs)) 0) same (here (g x) (subst (λ k. count_of k (filter g xs) ≡ cond (g k) (count_of k xs) 0) (sym same) (count_kept g e xs))))
    (λ (ne : x ≡ e → ⊥). there (g x) ne ∙ count_kept g e xs ∙ ap (λ n. cond (g e) n 0) (sym (count_there e x xs ne)))
    (cases_eq x e)
  where
    here : (b : Bool) → count_of x (filter g xs) ≡ cond b (count_of x xs) 0 → count_of x (cond b (x ∷ filter g xs) (filter g xs)) ≡ cond b (count_of x (x ∷ xs)) 0
    here true h = count_here x (filter g xs) ∙ ap suc h ∙ sym (count_here x xs)
    here false h = h

    there : (b : Bool) → (x ≡ e → ⊥) → count_of e (cond b (x ∷ filter g xs) (filter g xs)) ≡ count_of e (filter g xs)
    there true ne = count_there e x (filter g xs) ne
    there false ne = refl

-- an input that is used once, and an output that has a route once
pub asks_input : (ins : SwitchInstruction) (e : ℕ) → e < 10 → count_of e (switch_needs (Some ins)) ≡ cond (is_used_input ins e) 1 0
asks_input ins e h = count_kept (is_used_input ins) e ends ∙ ap (λ n. cond (is_used_input ins e) n 0) (end_once e h)

count_moved : (e : ℕ) (xs : List ℕ) → count_of (10 + e) (map (λ end. 10 + end) xs) ≡ count_of e xs
count_moved e [] = refl
count_moved e (x ∷ xs) =
    ⊎_elim
    (λ (same : x ≡ e). subst (λ k. count_of (10 + k) ((10 + x) ∷ map (λ end. 10 + end) xs) ≡ count_of k (x ∷ xs)) same
    (count_here (10 + x) (map (λ end. 10 + end) xs) ∙ ap suc (subst (λ k. count_of (10 + k) (map (λ end. 10 + end) xs) ≡ count_of k xs) (sym same) (count_moved e xs)) ∙ sym (count_here x xs)))
    (λ (ne : x ≡ e → ⊥). count_there (10 + e) (10 + x) (map (λ end. 10 + end) xs) (λ z. ne (apart x e z)) ∙ count_moved e xs ∙ sym (count_there e x xs ne))
    (cases_eq x e)
  where
    apart : (a b : ℕ) → 10 + a ≡ 10 + b → a ≡ b
    apart a b z = omega arith

pub asks_output : (ins : SwitchInstruction) (e : ℕ) → e < 10 → count_of (10 + e) (switch_gives (Some ins)) ≡ cond (is_filled ins e) 1 0
asks_output ins e h = count_moved e (outputs_of ins) ∙ count_kept (is_filled ins) e ends ∙ ap (λ n. cond (is_filled ins e) n 0) (end_once e h)
