-- What a processor waits for first.
use Rattle.std.proofs.Common.{◌≡◌, ◌≢◌, ℕ, ◌<◌, ◌≤◌, true, false, cond, List, [], ◌∷◌, length, Option, Some, None, inl, inr, refl, sym, ap, ◌∙◌, subst, ⊎_elim, arith}
use Rattle.std.specs.Prelude.{◌↔◌, slice_get, option_map}
use Rattle.std.specs.List.{flat_map}
use Rattle.std.specs.Option.{option_to_list}
use Rattle.std.proofs.lemmas.Bool.{cases_eq, eq-eqb, ne_eqb}
use Rattle.std.proofs.lemmas.Option.{same_Some, slice_get_cases}
use Rattle.raw_network.specs.Network.{values_on, count_of}
use Rattle.raw_network.specs.Waits.{first_unmet, wait_of}
use Rattle.raw_network.proofs.Waits.{law_none_where_enabled, law_unmet}
use Rattle.raw_network.proofs.Wires.{count_there}
use Rattle.raw_switch_isa.specs.Ends.{ends}
use Rattle.raw_grid.specs.Topology.{Topology, IsTopology, proc_count}
use Rattle.raw_grid.specs.Wires.{input_wire, output_wire, producer_of, consumer_of}
use Rattle.raw_grid.proofs.WireLaws.{input_within, input_owner, output_within, output_owner, ends_apart, producer_few, consumer_few}
use Rattle.raw_model.specs.Program.{ProgramSet, IsSet}
use Rattle.raw_model.specs.Local.{Local}
use Rattle.raw_model.specs.Machine.{is_stopped, takes, sends, machine_of}
use Rattle.raw_model.specs.Start.{MachineState}
use Rattle.raw_model.specs.Rest.{enabled, stopped, is_stopped_at}
use Rattle.raw_model.specs.Waits.{inputs_at, outputs_at, first_wait, other_end, waits_for, IsUnmet, IsBetween}
use Rattle.raw_model.proofs.Counts.{count-append}
use Rattle.raw_model.proofs.Waiting.{covered}

-- a wire among those of some ends is the wire of one of them
end_found : (own : ℕ → Option ℕ) (w : ℕ) (xs : List ℕ) → 0 < count_of w (flat_map (λ end. option_to_list (own end)) xs)
    → (end : ℕ) × (own end ≡ Some w)
end_found own w [] some = absurd (omega arith)
end_found own w (x ∷ xs) some = from (own x) refl
    (λ none. end_found own w xs
    (let a = count-append w (option_to_list (own x)) (flat_map (λ end. option_to_list (own end)) xs) in omega arith))
  where
    from : (o : Option ℕ) → own x ≡ o → (count_of w (option_to_list (own x)) ≡ 0 → (end : ℕ) × (own end ≡ Some w))
        → (end : ℕ) × (own end ≡ Some w)
    from None e rest = rest (ap (λ o. count_of w (option_to_list o)) e)
    from (Some v) e rest =
        ⊎_elim
        (λ (same : v ≡ w). (x, e ∙ ap Some same))
        (λ (ne : v ≡ w → ⊥). rest (ap (λ o. count_of w (option_to_list o)) e ∙ count_there w v [] ne))
        (cases_eq v w)

module _ (t : Topology) (valid : IsTopology t) (p w : ℕ) where
  -- a wire that leads to the processor
  is_input : (end : ℕ) → input_wire t p end ≡ Some w
      → IsBetween t w p (other_end t p w) × (other_end t p w ≢ p) × (other_end t p w < proc_count t)
  is_input end e =
      let owned = input_owner t w p end e in
      let other : other_end t p w ≡ producer_of t w =
      ap (λ b. cond b (producer_of t w) (consumer_of t w)) (eq-eqb (consumer_of t w) p owned) in
      let few = producer_few t w valid (input_within t w p end e) in (
        inl (sym other, owned),
        (λ (same : other_end t p w ≡ p). ends_apart t w valid (sym other ∙ same ∙ sym owned)),
        subst (λ q. q < proc_count t) (sym other) few,
      )

  -- a wire that comes from it
  is_output : (end : ℕ) → output_wire t p end ≡ Some w
      → IsBetween t w p (other_end t p w) × (other_end t p w ≢ p) × (other_end t p w < proc_count t)
  is_output end e =
      let owned = output_owner t w p end e in
      let differ : consumer_of t w ≡ p → ⊥ = λ same. ends_apart t w valid (owned ∙ sym same) in
      let other : other_end t p w ≡ consumer_of t w =
      ap (λ b. cond b (producer_of t w) (consumer_of t w)) (ne_eqb (consumer_of t w) p differ) in
      let few = consumer_few t w valid (output_within t w p end e) in (
        inr (owned, sym other),
        (λ (same : other_end t p w ≡ p). differ (sym other ∙ same)),
        subst (λ q. q < proc_count t) (sym other) few,
      )

  own_input : 0 < count_of w (inputs_at t p)
      → IsBetween t w p (other_end t p w) × (other_end t p w ≢ p) × (other_end t p w < proc_count t)
  unfolding inputs_at
  own_input some = let found = end_found (input_wire t p) w ends some in is_input found.0 found.1

  own_output : 0 < count_of w (outputs_at t p)
      → IsBetween t w p (other_end t p w) × (other_end t p w ≢ p) × (other_end t p w < proc_count t)
  unfolding outputs_at
  own_output some = let found = end_found (output_wire t p) w ends some in is_output found.0 found.1

module _ (set : ProgramSet) (s : MachineState) (p : ℕ) where
  -- the stop of a processor with this local state
  stop_is : (l : Local) → slice_get s.locals p ≡ Some l → stopped set s p ≡ is_stopped set p l
  stop_is l here = ap (λ o. is_stopped_at set p o) here

  -- a processor that is not stopped has no first wait exactly where it is enabled
  pub none_where_enabled : p < length s.locals → stopped set s p ≡ false
      → (first_wait set s p ≡ None) ↔ (enabled set s p ≡ true)
  unfolding machine_of
  none_where_enabled within going =
      ⊎_elim
      (λ here. law_none_where_enabled (machine_of set) (inputs_at set.topo) (outputs_at set.topo) (covered set) s p here.0 here.2 (sym (stop_is here.0 here.2) ∙ going))
      (λ past. absurd (omega (arith, within, past.0)))
      (slice_get_cases s.locals p).1

  -- the first wait, where the processor is there
  wait_at : (o : Option Local) → slice_get s.locals p ≡ o
      → first_wait set s p ≡ wait_of (machine_of set) (inputs_at set.topo) (outputs_at set.topo) s.wires p o
  wait_at o here = ap (λ o. wait_of (machine_of set) (inputs_at set.topo) (outputs_at set.topo) s.wires p o) here

  -- one that is stopped has none
  pub none_where_stopped : stopped set s p ≡ true → first_wait set s p ≡ None
  unfolding machine_of
  none_where_stopped stop = from (slice_get s.locals p) stop
    where
      from : (o : Option Local) → is_stopped_at set p o ≡ true
          → wait_of (machine_of set) (inputs_at set.topo) (outputs_at set.topo) s.wires p o ≡ None
      from None e = refl
      from (Some l) e =
          ap (λ b. cond b None (first_unmet set.depth (inputs_at set.topo p) (outputs_at set.topo p) (takes set p l) (sends set p l) s.wires)) e

  -- a first wait is for a wire whose need is unmet
  pub wait_is_unmet : (l : Local) (w : ℕ) → slice_get s.locals p ≡ Some l → first_wait set s p ≡ Some w → IsUnmet set s p l w
  unfolding machine_of
  wait_is_unmet l w here waits = law_unmet (machine_of set) (inputs_at set.topo) (outputs_at set.topo) s p l w here waits

  both_ends : (w : ℕ) → IsSet set → first_wait set s p ≡ Some w
      → IsBetween set.topo w p (other_end set.topo p w) × (other_end set.topo p w ≢ p) × (other_end set.topo p w < proc_count set.topo)
  both_ends w valid waits = from (slice_get s.locals p) refl
    where
      from : (o : Option Local) → slice_get s.locals p ≡ o
          → IsBetween set.topo w p (other_end set.topo p w) × (other_end set.topo p w ≢ p) × (other_end set.topo p w < proc_count set.topo)
      from None here = absurd (none_is_some (sym (wait_at None here) ∙ waits))
        where
          none_is_some : None ≡ Some w → ⊥
          none_is_some e = cc e
      from (Some l) here =
          ⊎_elim
          (λ (input : (0 < count_of w (inputs_at set.topo p)) × (length (values_on s.wires w) < count_of w (takes set p l))).
          own_input set.topo valid.topology p w input.0)
          (λ (output : (0 < count_of w (outputs_at set.topo p)) × (0 < count_of w (sends set p l)) × (set.depth ≤ length (values_on s.wires w))).
          own_output set.topo valid.topology p w output.0)
          (wait_is_unmet l w here waits)

  -- the wire of a first wait leads from the one processor to the other
  pub wait_between : (w : ℕ) → IsSet set → first_wait set s p ≡ Some w → IsBetween set.topo w p (other_end set.topo p w)
  wait_between w valid waits = (both_ends w valid waits).0

  -- a processor waits for another that is there
  pub waits_for_other : (q : ℕ) → IsSet set → waits_for set s p ≡ Some q → (q ≢ p) × (q < proc_count set.topo)
  waits_for_other q valid waits = from (first_wait set s p) refl waits
    where
      from : (o : Option ℕ) → first_wait set s p ≡ o → option_map (other_end set.topo p) o ≡ Some q → (q ≢ p) × (q < proc_count set.topo)
      from None e f = absurd (cc f)
      from (Some w) e f =
          subst (λ r. (r ≢ p) × (r < proc_count set.topo)) (same_Some (other_end set.topo p w) q f) ((both_ends w valid e).1, (both_ends w valid e).2)
